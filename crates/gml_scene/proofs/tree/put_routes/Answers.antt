-- What the definition gives may be printed.
use Rattle.std.proofs.Common.{sym, ap, subst, ◌∙◌}
use Rattle.gml_text.specs.View.{pairs, tree}
use Rattle.gml_text.specs.Printed.{IsPrintable}
use Rattle.gml_scene.specs.Tree.{tree_of}
use Rattle.gml_scene.proofs.Printable.{printable_again}
use Rattle.gml_scene.proofs.tree.put_routes.Goals as goal

pub returns-clause-printable : goal.returns-clause-printable
returns-clause-printable c printable =
    let is = c.in_ok-pairs.ensures ∙ ap (λ ps. tree_of (pairs ps) c.in-Ok.was c.args.scene.now c.args.labels.now c.args.routes.now) c.deref.ensures.value in
    subst IsPrintable (sym is) (printable_again c.args.labels.now c.quotable.ensures (tree c.args.doc.now) c.in-Ok.was c.args.scene.now c.args.routes.now printable)
