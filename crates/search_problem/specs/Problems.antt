-- A problem that is ready to be searched.
use Rattle.std.specs.Prelude.{◌≡◌, ◌+◌, length}
use Rattle.plane_geom.specs.declared.floor.Floor.{Floor}
use Rattle.line_arena.specs.Arena.{IsArena}
use Rattle.move_model.specs.Problems.{IsProblem}
use Rattle.search_problem.specs.Bounds.{AreStages, origins_after}
use Rattle.search_problem.specs.Ends.{AreEntries, AreEndings}
use Rattle.search_problem.specs.Origins.{AreCovered}
use Rattle.search_problem.specs.declared.problem.Problem.{Problem}

-- all the data that a search reads are right for the task over the arena of a floor with these solids
pub record IsReady (p : Problem) : Type 0 where
  pub floor : Floor
  pub problem : IsProblem floor p.arena.now p.solids.now p.task.now
  pub arena : IsArena p.arena.now
  pub entries : AreEntries p.solids.now p.arena.now p.task.now (length p.task.now.starts) p.entries.items
  pub endings : AreEndings p.solids.now p.arena.now p.task.now (length p.task.now.ends) p.endings.items
  pub covered : AreCovered (origins_after p.origins.items 0) p.entries.items
  pub stages : AreStages p.task.now.penalty p.task.now.via p.origins.items
  pub all_stages : length p.origins.items ≡ length p.task.now.via + 1
