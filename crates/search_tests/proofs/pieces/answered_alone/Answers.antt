-- Each idle task may be searched on the empty graph.
use Rattle.std.proofs.Common.{◌≡◌, []}
use Rattle.std.proofs.lemmas.List.Elements.{All-weaker}
use Rattle.walk_model.specs.declared.task.Task.{Task}
use Rattle.search_tests.specs.Idle.{idle_task}
use Rattle.par_route.specs.Routes.{MayBeSearched}
use Rattle.search_tests.proofs.Idle.{idle_may_be_searched}
use Rattle.search_tests.proofs.pieces.answered_alone.Goals as goal

pub route_each-requires : goal.route_each-requires
route_each-requires c = record {
  tasks = rw c.deref.ensures.value
      (All-weaker (λ (t : Task). t ≡ idle_task) (MayBeSearched c.arena.result.now [])
      (λ t idle. idle_may_be_searched c.empty-graph.result.floor c.arena.result.now t c.empty-graph.ensures.solids c.empty-graph.ensures.anchors c.arena.ensures.stands idle)
      c.in_ok-tasks.tasks.items c.in_ok-tasks.ensures);
}
