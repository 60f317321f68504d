-- Each task has an answer, since its first walk is small; so each connector of a valid scene has one.
use Rattle.std.proofs.Common.{◌*◌, ◌^◌, ◌<◌, ◌≤◌, List, [], ◌∷◌, length, Option, Some, None, refl, arith}
use Rattle.std.specs.Prelude.{Contains}
use Rattle.std.specs.List.{AllByRecursion as Each, AllZip}
use Rattle.std.proofs.lemmas.List.Elements.{recursion_from_All, All-contains_itself}
use Rattle.plane_geom.specs.declared.floor.Floor.{Floor}
use Rattle.plane_geom.specs.Floor.{IsFloor}
use Rattle.walk_model.specs.declared.route.Answer.{Answer}
use Rattle.walk_model.specs.declared.route.Route.{Route}
use Rattle.walk_model.specs.declared.task.Task.{Task}
use Rattle.walk_model.specs.Answers.{IsAnswer}
use Rattle.walk_model.specs.Floors.{IsFloorOf}
use Rattle.walk_model.specs.Legal.{IsTask}
use Rattle.walk_model.specs.Order.{triple_cost}
use Rattle.walk_model.proofs.Ranking.First.{one_first}
use Rattle.walk_model.proofs.Ranking.SomeRoute.{some_route}
use Rattle.walk_laws.proofs.FewAndSmall.SmallWalks.{small_cost}
use Rattle.scene_model.specs.declared.edge.Edge.{Edge}
use Rattle.scene_model.specs.Scene.{Scene, connectors}
use Rattle.scene_model.specs.Valid.{IsValid}
use Rattle.scene_model.specs.Routing.{floor_of, task_of}
use Rattle.scene_model.specs.Answers.{IsAnswerOf}
use Rattle.scene_model.proofs.Editing.Entries.{each_weaker}
use Rattle.scene_model.proofs.ForRouting.Floors.{floors_fit, floors_hold_tasks}
use Rattle.existence_laws.specs.Answers.{HaveAnswers, TasksHaveAnswers}
use Rattle.existence_laws.proofs.Walking.Walks.{HasShort, short_decided}

-- a walk costs at least as much as it has steps
module _ (floor : Floor) (task : Task) (is_floor : IsFloor floor) (is_task : IsTask task) (on : IsFloorOf floor task) where
  by_short : Dec (HasShort floor.solids task (3 * 10 ^ 17)) → (answer : Option Route) × IsAnswer floor.solids task answer
  by_short (yes (t, legal, few)) =
      let first = (one_first floor.solids task).some t legal in
      let route = some_route task first.0 in (Some route.0, (first.0, first.1, route.1))
  by_short (no not) = (
    None,
    λ t legal.
        let first = (one_first floor.solids task).some t legal in
        let small : triple_cost task first.0 < 3 * 10 ^ 17 = small_cost floor task first.0 is_floor is_task on first.1 in
        let steps : length first.0.walk.steps ≤ triple_cost task first.0 = omega arith in
        not (first.0, first.1.legal, omega (arith, small, steps)),
  )

pub some_answer : TasksHaveAnswers
some_answer floor task is_floor is_task on = by_short floor task is_floor is_task on (short_decided floor.solids task (3 * 10 ^ 17))

-- where each element of a list has a partner, there is a list of partners
pub partners : {X Y : Type 0} (P : X → Y → Type 0) (xs : List X) → Each (λ x. (y : Y) × P x y) xs → (ys : List Y) × AllZip P xs ys
partners P [] each = ([], tt)
partners P (x ∷ xs) each = let rest = partners P xs each.1 in (each.0.0 ∷ rest.0, (each.0.1, rest.1))

answer_of : (s : Scene) → IsValid s → (e : Edge) → Contains (connectors s) e → (a : Answer) × IsAnswerOf s e a
answer_of s valid e has =
    let on = floors_hold_tasks s e valid has in
    let answer = some_answer (floor_of s) (task_of s e) (floors_fit s valid) on.task.is_task on.floor in
    (record { edge = e.number; route = answer.0 }, record { edge = refl; route = answer.1 })

pub some_answers : HaveAnswers
some_answers s valid =
    let es = connectors s in
    partners (IsAnswerOf s) es
    (each_weaker (Contains es) (λ e. (a : Answer) × IsAnswerOf s e a) (answer_of s valid) es (recursion_from_All (Contains es) es (All-contains_itself es)))
