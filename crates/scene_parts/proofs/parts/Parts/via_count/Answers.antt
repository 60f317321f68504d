-- The sum so far fits, since the whole sum is at most 256.
use Rattle.std.proofs.Common.{◌≡◌, ◌≤◌, length, take, get_or, arith, ap, ◌∙◌}
use Rattle.std.specs.Prelude.{ℕ, sum_by}
use Rattle.std.proofs.lemmas.List.Sums.{sum_by_more_le}
use Rattle.scene_model.specs.declared.edge.Edge.{Edge}
use Rattle.scene_model.specs.Scene.{via_count}
use Rattle.scene_parts.proofs.parts.Parts.via_count.Goals as goal

pub overflow_add-count : goal.overflow_add-count
overflow_add-count c =
    let count : Edge → ℕ = λ x. length x.via in
    let all : sum_by count c.as_slice-edge-items.result.now ≡ via_count c.args.self.now = ap (sum_by count) (c.as_slice-edge-items.ensures ∙ ap (λ s. s.edges) c.self.view_is) in
    let few : via_count c.args.self.now ≤ 256 = c.requires.few_via in
    let so_far : c.loop-edge.count ≡ sum_by count (take c.loop-edge.edge-index c.as_slice-edge-items.result.now) = c.loop-edge.invariant in
    let item : length c.edge-item.result.via ≡ length (get_or c.as_slice-edge-items.result.now c.loop-edge.edge-index c.edge-item.result).via = ap count c.edge-item.is in
    let own : length c.as_slice.result.now ≡ length c.edge-item.result.via = ap length c.as_slice.ensures in
    let part = sum_by_more_le count c.as_slice-edge-items.result.now c.loop-edge.edge-index c.edge-item.result c.loop-edge-test.true in
    omega (arith, all, few, so_far, item, own, part)
