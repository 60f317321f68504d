-- The sides so far stand before the coordinate.
use Rattle.std.proofs.Common.{◌<ℤ◌, take, All}
use Rattle.side_touches.proofs.side.count_before.Given as goal

abbrev pub invariant-loop-place : goal.invariant-loop-place
invariant-loop-place l = All (λ s. s.at <ℤ l.at) (take l.place l.sides)
