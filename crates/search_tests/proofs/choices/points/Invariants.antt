-- The points so far lie on the sheet.
use Rattle.std.proofs.Common.{All}
use Rattle.plane_geom.specs.Point.{PointIsOnSheet}
use Rattle.search_tests.proofs.choices.points.Given as goal

abbrev pub invariant-loop-x : goal.invariant-loop-x
invariant-loop-x l = All PointIsOnSheet l.points.items
