-- The turns at the stops so far were offered.
use Rattle.std.proofs.Common.{◌≡◌, take, All}
use Rattle.line_lists.specs.Lists.{number_of}
use Rattle.exit_spread.specs.Near.{HasReach}
use Rattle.exit_spread.specs.Propagating.{Adds, IsTurnedAt, reach_along}
use Rattle.exit_spread.proofs.spread.Spread.turn_off.Given as goal

abbrev pub invariant-loop-stop : goal.invariant-loop-stop
invariant-loop-stop l = record {
  rows : l.self.rows ≡ l.initial.self.rows;
  adds : Adds l.problem (number_of l.lists) l.initial.self l.self l.stop-index;
  turned : All (λ s. HasReach l.turns.near (reach_along l.run.heading s.along) → IsTurnedAt l.problem (number_of l.lists) l.self l.run l.fn.before s) (take l.stop-index l.behind);
}
