-- There is a crossing at each of the points so far.
use Rattle.std.proofs.Common.{ℕ, take, All}
use Rattle.line_arena.specs.Arena.{StandsAt}
use Rattle.route_search.proofs.finder.are_crossings.Given as goal

abbrev pub invariant-loop-point : goal.invariant-loop-point
invariant-loop-point l = All (λ p. (c : ℕ) × StandsAt l.arena c p) (take l.point-index l.points)
