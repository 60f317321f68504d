-- The runs so far may stand where they stand.
use Rattle.std.proofs.Common.{◌≡◌, ℕ, ◌<◌}
use Rattle.segment_order.specs.Run.{run_at}
use Rattle.channel_bundles.specs.Route.{IsFixed}
use Rattle.channel_bundles.specs.Limits.{MayStandAt}
use Rattle.nudge_tests.proofs.phases.checks.may_move.Given as goal

abbrev pub invariant-loop-k : goal.invariant-loop-k
invariant-loop-k l = (j : ℕ) → j < l.k → (run_at l.route.runs.items j).way ≡ l.way → (IsFixed l.route j → ⊥) → MayStandAt l.solids l.route j (run_at l.route.runs.items j).at
