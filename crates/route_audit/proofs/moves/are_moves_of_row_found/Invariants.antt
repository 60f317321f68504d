-- So it is in the directions so far.
use Rattle.std.proofs.Common.{ℕ, ◌<◌, get_or}
use Rattle.plane_geom.specs.declared.floor.Floor.{Floor}
use Rattle.plane_geom.specs.declared.point.Dir.TheVariants.{East}
use Rattle.move_model.specs.Problems.{IsProblem}
use Rattle.route_audit.specs.Moves.{AreMovesInFound}
use Rattle.route_audit.proofs.moves.are_moves_of_row_found.Given as goal

abbrev pub invariant-loop-dir : goal.invariant-loop-dir
invariant-loop-dir l =
    (floor : Floor) → IsProblem floor l.problem.arena.now l.problem.solids.now l.problem.task.now →
    (k : ℕ) → k < l.dir-index → AreMovesInFound floor l.problem.task.now l.claim l.labels.rows.now l.row (get_or l.dir-items k East)
