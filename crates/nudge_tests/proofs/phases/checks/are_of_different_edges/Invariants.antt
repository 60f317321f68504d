-- The routes so far are of different edges.
use Rattle.std.proofs.Common.{◌≢◌, ℕ, ◌<◌, get_or}
use Rattle.channel_bundles.specs.declared.route.PhaseRoute.{PhaseRoute}
use Rattle.nudge_tests.proofs.phases.checks.are_of_different_edges.Given as goal

abbrev pub invariant-loop-k : goal.invariant-loop-k
invariant-loop-k l = (i j : ℕ) (d : PhaseRoute) → i < j → j < l.k → (get_or l.routes i d).edge ≢ (get_or l.routes j d).edge
