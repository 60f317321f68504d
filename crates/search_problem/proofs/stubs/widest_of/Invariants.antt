-- The widest of the solids so far.
use Rattle.std.proofs.Common.{pos, ◌≤ℤ◌, take}
use Rattle.search_problem.specs.Stubs.{IsWidest}
use Rattle.search_problem.proofs.stubs.widest_of.Given as goal

abbrev pub invariant-loop-solid : goal.invariant-loop-solid
invariant-loop-solid l = record {
  wide : IsWidest l.widest (take l.solid-index l.solids);
  low : pos 0 ≤ℤ l.widest;
  high : l.widest ≤ℤ pos 4000000000;
}
