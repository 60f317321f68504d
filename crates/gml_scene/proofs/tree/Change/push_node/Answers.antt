-- Nothing is written of a list that is gone.
use Rattle.std.proofs.Common.{sym, ap, ◌∙◌}
use Rattle.std.specs.Prelude.{codes}
use Rattle.std.specs.Option.{option_copied}
use Rattle.gml_text.specs.View.{pairs}
use Rattle.gml_scene.specs.Tree.{node_from, kept_node}
use Rattle.gml_scene.proofs.Walks.{nothing_after}
use Rattle.gml_scene.proofs.KeptParts.{node_gone}
use Rattle.gml_scene.proofs.tree.Change.push_node.Goals as goal

pub returns-in_default : goal.returns-in_default
returns-in_default c =
    let was = node_from c.args.self.now.was.now c.args.place in
    nothing_after (pairs c.args.out.now.items) _
    (ap (kept_node (codes "node") (pairs c.args.list.now) was) (sym c.node_from-2.ensures.found ∙ ap option_copied c.in_default.is-1)
    ∙ node_gone (codes "node") (pairs c.args.list.now) was)

pub returns-in_default-2 : goal.returns-in_default-2
returns-in_default-2 c =
    nothing_after (pairs c.args.out.now.items) _
    (ap (λ was. kept_node (codes "node") (pairs c.args.list.now) was (node_from c.args.self.now.scene.now c.args.place)) (sym c.node_from.ensures.found ∙ ap option_copied c.in_default.is-0))

pub node_again-requires-clause-was : goal.node_again-requires-clause-was
node_again-requires-clause-was c = c.in-Some-Some.ensures.node

pub node_again-requires-clause-node : goal.node_again-requires-clause-node
node_again-requires-clause-node c = c.in-Some-Some.ensures'.node
