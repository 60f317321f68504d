-- The count so far is a sum over the nodes so far.
use Rattle.std.specs.Prelude.{◌≡◌, take, length, sum_by}
use Rattle.scene_parts.proofs.parts.Parts.pin_count.Given as goal

abbrev pub invariant-loop-node : goal.invariant-loop-node
invariant-loop-node l = l.count ≡ sum_by (λ x. length x.pins) (take l.node-index l.node-items)
