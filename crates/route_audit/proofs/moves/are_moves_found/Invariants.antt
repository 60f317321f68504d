-- The moves from the rows so far are found.
use Rattle.std.proofs.Common.{take, All}
use Rattle.plane_geom.specs.declared.floor.Floor.{Floor}
use Rattle.plane_geom.specs.declared.point.Dir.{Dir}
use Rattle.move_model.specs.Problems.{IsProblem}
use Rattle.route_audit.specs.Moves.{AreMovesInFound}
use Rattle.route_audit.proofs.moves.are_moves_found.Given as goal

abbrev pub invariant-loop-place : goal.invariant-loop-place
invariant-loop-place l =
    (floor : Floor) → IsProblem floor l.problem.arena.now l.problem.solids.now l.problem.task.now →
    All (λ r. (d : Dir) → AreMovesInFound floor l.problem.task.now l.claim l.labels.rows.now r d) (take l.place l.labels.rows.now)
