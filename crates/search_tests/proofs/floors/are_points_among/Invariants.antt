-- The points so far are among the anchors.
use Rattle.std.proofs.Common.{All, Contains, take}
use Rattle.search_tests.proofs.floors.are_points_among.Given as goal

abbrev pub invariant-loop-point : goal.invariant-loop-point
invariant-loop-point l = All (Contains l.anchors) (take l.point-index l.points)
