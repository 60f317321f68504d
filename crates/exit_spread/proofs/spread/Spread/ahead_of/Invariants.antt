-- The least by the endings so far.
use Rattle.std.proofs.Common.{◌≡◌, take, fold}
use Rattle.plane_geom.specs.declared.point.Point.{Point}
use Rattle.line_arena.specs.Arena.{StandsAt}
use Rattle.line_lists.specs.Lists.{number_of}
use Rattle.exit_rows.specs.Exits.{lesser}
use Rattle.exit_spread.specs.Known.{by_ending, known_onwards}
use Rattle.exit_spread.proofs.spread.Spread.ahead_of.Given as goal

abbrev pub invariant-loop-ending : goal.invariant-loop-ending
invariant-loop-ending l =
    (at : Point) → StandsAt l.problem.arena.now l.place.crossing at →
    l.least ≡ fold (λ least e. lesser least (by_ending l.problem l.place e)) (known_onwards l.problem (number_of l.lists) l.self l.place at) (take l.ending-index l.problem.endings.items)
