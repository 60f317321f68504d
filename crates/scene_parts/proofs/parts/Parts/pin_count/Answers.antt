-- The sum so far fits, since the whole sum is at most 256.
use Rattle.std.proofs.Common.{◌≡◌, ◌≤◌, length, take, get_or, arith, ap, ◌∙◌}
use Rattle.std.specs.Prelude.{ℕ, sum_by}
use Rattle.std.proofs.lemmas.List.Sums.{sum_by_more_le}
use Rattle.scene_model.specs.declared.node.Node.{Node}
use Rattle.scene_model.specs.Scene.{pin_count}
use Rattle.scene_parts.proofs.parts.Parts.pin_count.Goals as goal

pub overflow_add-count : goal.overflow_add-count
overflow_add-count c =
    let count : Node → ℕ = λ x. length x.pins in
    let all : sum_by count c.as_slice-node-items.result.now ≡ pin_count c.args.self.now = ap (sum_by count) (c.as_slice-node-items.ensures ∙ ap (λ s. s.nodes) c.self.view_is) in
    let few : pin_count c.args.self.now ≤ 256 = c.requires.few_pins in
    let so_far : c.loop-node.count ≡ sum_by count (take c.loop-node.node-index c.as_slice-node-items.result.now) = c.loop-node.invariant in
    let item : length c.node-item.result.pins ≡ length (get_or c.as_slice-node-items.result.now c.loop-node.node-index c.node-item.result).pins = ap count c.node-item.is in
    let own : length c.as_slice.result.now ≡ length c.node-item.result.pins = ap length c.as_slice.ensures in
    let part = sum_by_more_le count c.as_slice-node-items.result.now c.loop-node.node-index c.node-item.result c.loop-node-test.true in
    omega (arith, all, few, so_far, item, own, part)
