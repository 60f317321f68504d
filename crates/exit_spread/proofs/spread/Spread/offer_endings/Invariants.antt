-- The stubs of the endings so far were offered.
use Rattle.std.proofs.Common.{◌≡◌, ◌*◌, None, take, All}
use Rattle.line_lists.specs.Lists.{number_of}
use Rattle.exit_spread.specs.Propagating.{Adds}
use Rattle.exit_spread.specs.Searching.{IsStubOffered}
use Rattle.exit_spread.proofs.spread.Spread.offer_endings.Given as goal

abbrev pub invariant-loop-ending : goal.invariant-loop-ending
invariant-loop-ending l = record {
  rows : l.self.rows ≡ l.initial.self.rows;
  adds : Adds l.problem (number_of l.lists) l.initial.self l.self (4 * l.ending-index);
  offered : All (IsStubOffered l.problem (number_of l.lists) l.self None) (take l.ending-index l.problem.endings.items);
}
