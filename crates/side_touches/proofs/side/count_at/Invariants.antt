-- The sides so far stand at the coordinate.
use Rattle.std.proofs.Common.{◌≡◌, take, All}
use Rattle.side_touches.proofs.side.count_at.Given as goal

abbrev pub invariant-loop-place : goal.invariant-loop-place
invariant-loop-place l = All (λ s. s.at ≡ l.at) (take l.place l.sides)
