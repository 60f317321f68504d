-- The entry that is put is the given one.
use Rattle.std.proofs.Common.{◌≡◌, sym, subst}
use Rattle.scene_model.specs.Edits.{change_node, change_edge}
use Rattle.scene_model.specs.Inverses.{restored}
use Rattle.scene_parts.proofs.parts.Parts.restore.Goals as goal

pub returns-in_ok-node-in-SetNode-clause-ok : goal.returns-in_ok-node-in-SetNode-clause-ok
returns-in_ok-node-in-SetNode-clause-ok c =
    subst (λ i. c.set_node.new.self ≡ restored i c.args.self.now) (sym c.in-SetNode.is)
    (subst (λ n. c.set_node.new.self ≡ change_node c.args.self.now n.id (λ _. n)) c.in_ok-node-in-SetNode.ensures c.set_node.ensures)

pub returns-in_ok-edge-in-SetEdge-clause-ok : goal.returns-in_ok-edge-in-SetEdge-clause-ok
returns-in_ok-edge-in-SetEdge-clause-ok c =
    subst (λ i. c.set_edge.new.self ≡ restored i c.args.self.now) (sym c.in-SetEdge.is)
    (subst (λ e. c.set_edge.new.self ≡ change_edge c.args.self.now e.number (λ _. e)) c.in_ok-edge-in-SetEdge.ensures c.set_edge.ensures)
