-- None of the stops so far is there.
use Rattle.std.proofs.Common.{◌≢◌, take, All}
use Rattle.exit_spread.proofs.propagate.crossing_along.Given as goal

abbrev pub invariant-loop-stop : goal.invariant-loop-stop
invariant-loop-stop l = All (λ s. s.along ≢ l.along) (take l.stop-index l.stops)
