-- The count so far is a sum over the edges so far.
use Rattle.std.specs.Prelude.{◌≡◌, take, length, sum_by}
use Rattle.scene_parts.proofs.parts.Parts.via_count.Given as goal

abbrev pub invariant-loop-edge : goal.invariant-loop-edge
invariant-loop-edge l = l.count ≡ sum_by (λ x. length x.via) (take l.edge-index l.edge-items)
