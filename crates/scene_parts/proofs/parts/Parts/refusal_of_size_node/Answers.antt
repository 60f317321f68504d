-- The place fits, since a node of a valid scene has few pins.
use Rattle.std.proofs.Common.{sym, ap, length, arith}
use Rattle.scene_model.proofs.Editing.Nodes.{few_pins}
use Rattle.scene_parts.proofs.parts.Parts.refusal_of_size_node.Goals as goal

pub overflow_cast-result : goal.overflow_cast-result
overflow_cast-result c =
    let few = few_pins c.args.self.now _ c.in-Some.node.now c.requires (sym c.in-Some.ensures) in
    let own = ap length c.as_slice.ensures in
    let within = c.in_ok-before.ensures.within in
    omega (arith, few, own, within)

pub overflow_add-result : goal.overflow_add-result
overflow_add-result c =
    let few = few_pins c.args.self.now _ c.in-Some.node.now c.requires (sym c.in-Some.ensures) in
    let own = ap length c.as_slice.ensures in
    let within = c.in_ok-before.ensures.within in
    omega (arith, few, own, within)
