-- Nothing is written of a list that is gone.
use Rattle.std.proofs.Common.{sym, ap, ◌∙◌}
use Rattle.std.specs.Prelude.{codes}
use Rattle.std.specs.Option.{option_copied}
use Rattle.gml_text.specs.View.{pairs}
use Rattle.gml_scene.specs.Tree.{edge_from, kept_edge}
use Rattle.gml_scene.proofs.Walks.{nothing_after}
use Rattle.gml_scene.proofs.KeptParts.{edge_gone}
use Rattle.gml_scene.proofs.tree.Change.push_edge.Goals as goal

pub returns-in_default : goal.returns-in_default
returns-in_default c =
    let was = edge_from c.args.self.now.was.now c.args.place in
    nothing_after (pairs c.args.out.now.items) _
    (ap (kept_edge (codes "edge") (pairs c.args.list.now) c.args.self.now.routes.now was) (sym c.edge_from-2.ensures ∙ ap option_copied c.in_default.is-1)
    ∙ edge_gone (codes "edge") (pairs c.args.list.now) c.args.self.now.routes.now was)

pub returns-in_default-2 : goal.returns-in_default-2
returns-in_default-2 c =
    nothing_after (pairs c.args.out.now.items) _
    (ap (λ was. kept_edge (codes "edge") (pairs c.args.list.now) c.args.self.now.routes.now was (edge_from c.args.self.now.scene.now c.args.place)) (sym c.edge_from.ensures ∙ ap option_copied c.in_default.is-0))
