-- The resized node stands where the old one did.
use Rattle.std.proofs.Common.{rules, sym, ap, ◌∙◌, to_z-of_z}
use Rattle.scene_model.specs.Scene.{node_with}
use Rattle.scene_model.specs.Edits.{half}
use Rattle.scene_parts.proofs.Replaced.{node_there, node_set}
use Rattle.scene_parts.proofs.parts.Parts.size_node.Goals as goal

pub set_node-requires-clause-there : goal.set_node-requires-clause-there
set_node-requires-clause-there c = node_there c.args.self.now _ c.in_ok-node.node c.in_ok-node.ensures

pub returns-clause-ok : goal.returns-clause-ok
returns-clause-ok c =
    let known = ap (node_with c.args.self.now) (sym (to_z-of_z c.ranges.id)) ∙ c.in_ok-node.ensures in
    c.set_node.ensures ∙ node_set c.args.self.now c.args.id c.in_ok-node.node (λ n. record n { half_w = half c.args.size.w; half_h = half c.args.size.h }) _ c.requires.valid known (search rules)
