-- The crossing is there.
use Rattle.std.specs.Prelude.{IsSome}
use Rattle.std.specs.FinMap as map
use Rattle.route_audit.proofs.crossing.crossing_east.Given as goal

abbrev pub invariant-loop : goal.invariant-loop
invariant-loop l = IsSome (map.get l.arena.crossings l.crossing)
