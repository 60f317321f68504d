-- A task without choices may be searched on an arena that stands for a floor without solids.
use Rattle.std.proofs.Common.{◌≡◌, [], sym, subst, arith}
use Rattle.std.proofs.lemmas.List.Elements.{All-nil}
use Rattle.plane_geom.specs.declared.floor.Floor.{Floor}
use Rattle.line_arena.specs.Arena.{Arena}
use Rattle.line_arena.specs.Stands.{StandsFor}
use Rattle.search_tests.specs.Idle.{idle_task}
use Rattle.walk_model.specs.declared.task.Task.{Task}
use Rattle.move_model.specs.Problems.{IsProblem}
use Rattle.par_route.specs.Routes.{MayBeSearched}

pub idle_is_problem : (floor : Floor) (arena : Arena) → floor.solids ≡ [] → floor.anchors ≡ [] → StandsFor floor arena → IsProblem floor arena [] idle_task
idle_is_problem floor arena solids anchors stands = record {
  same_solids = solids;
  stands = stands;
  is_floor = record {
    solids = rw solids (All-nil _);
    anchors = rw anchors (All-nil _);
    few = rw solids (omega arith);
    coordinates = λ way. ([], omega arith, record { first_sides = rw solids (All-nil _); last_sides = rw solids (All-nil _); anchors = rw anchors (All-nil _) });
  };
  is_task = record {
    starts = record { each = All-nil _; one_node = λ i j d lt within. absurd (omega (arith, within)); one_port = λ i j d lt within. absurd (omega (arith, within)) };
    ends = record { each = All-nil _; one_node = λ i j d lt within. absurd (omega (arith, within)); one_port = λ i j d lt within. absurd (omega (arith, within)) };
    few_starts = omega arith;
    few_ends = omega arith;
    via = All-nil _;
    few = omega arith;
    penalty = omega arith;
  };
  is_floor_of = record {
    solids = rw solids (All-nil _);
    anchors = record { starts = All-nil _; ends = All-nil _; via = All-nil _ };
    outside = All-nil _;
  };
}

pub idle_may_be_searched : (floor : Floor) (arena : Arena) (task : Task) → floor.solids ≡ [] → floor.anchors ≡ [] → StandsFor floor arena → task ≡ idle_task → MayBeSearched arena [] task
idle_may_be_searched floor arena task solids anchors stands idle =
    subst (λ (t : Task). MayBeSearched arena [] t) (sym idle) (floor, idle_is_problem floor arena solids anchors stands)
