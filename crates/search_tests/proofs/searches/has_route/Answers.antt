-- A task without choices may be searched on the empty graph.
use Rattle.std.proofs.Common.{[], sym, subst}
use Rattle.walk_model.specs.declared.task.Task.{Task}
use Rattle.move_model.specs.Problems.{IsProblem}
use Rattle.search_tests.proofs.Idle.{idle_is_problem}
use Rattle.search_tests.proofs.searches.has_route.Goals as goal

pub find_first-requires : goal.find_first-requires
find_first-requires c =
    let floor = c.empty-graph.result.floor in
    let graph = c.empty-graph.ensures in (
      floor,
      subst (λ (t : Task). IsProblem floor c.arena.result.now [] t) (sym c.idle-task.ensures)
          (idle_is_problem floor c.arena.result.now graph.solids graph.anchors c.arena.ensures.stands),
    )
