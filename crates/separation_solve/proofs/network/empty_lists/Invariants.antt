-- What the loop of `empty_lists` keeps.
use Rattle.std.proofs.Common.{◌≡◌, length}
use Rattle.separation_solve.proofs.network.empty_lists.Given as goal

abbrev pub invariant-loop : goal.invariant-loop
invariant-loop l = length l.lists.items ≡ l.counter
