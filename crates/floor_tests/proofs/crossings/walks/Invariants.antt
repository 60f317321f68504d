-- The next crossing is there.
use Rattle.std.specs.Prelude.{IsSome}
use Rattle.std.specs.Option.{ForSome}
use Rattle.std.specs.FinMap.{get}
use Rattle.floor_tests.proofs.crossings.walks.Given as goal

abbrev pub invariant-loop-point : goal.invariant-loop-point
invariant-loop-point l = ForSome l.next (λ c. IsSome (get l.arena.crossings c))
