-- The sums over right answers: what is summed fits, and the sums are one.
use Rattle.std.proofs.Common.{◌≡◌, ℕ, ◌+◌, ◌*◌, ◌<◌, ◌≤◌, ◌^◌, not, cond, Option, Some, None, List, map, take, length, get_or, sym, ap, ◌∙◌, arith}
use Rattle.std.specs.Prelude.{filter, is_some, is_none}
use Rattle.std.specs.List.{sum_by}
use Rattle.std.proofs.lemmas.List.Filters.{length-filter_more}
use Rattle.std.proofs.lemmas.List.Sums.{count_by-le-length, length-filter, sum-map, sum_by_more}
use Rattle.std.proofs.lemmas.List.{take_all}
use Rattle.std.proofs.lemmas.Option.{slice_get-get_or}
use Rattle.walk_model.specs.declared.route.Answer.{Answer}
use Rattle.walk_model.specs.declared.route.Route.{Route}
use Rattle.walk_model.specs.Cost.{bends}
use Rattle.walk_model.specs.Line.{IsOrthogonal, steps_of}
use Rattle.walk_laws.proofs.FewAndSmall.SmallWalks.{orthogonal_route, small_cost}
use Rattle.scene_model.specs.declared.edge.Edge.{Edge}
use Rattle.scene_model.specs.Answers.{AreAnswers, IsAnswerOf}
use Rattle.scene_model.specs.Floors.{HoldsTask}
use Rattle.scene_model.specs.Scene.{Scene, connectors, is_loop}
use Rattle.scene_model.specs.Routing.{floor_of, task_of}
use Rattle.scene_model.specs.Valid.{IsValid}
use Rattle.scene_model.proofs.ForRouting.Floors.{floors_fit, floors_hold_tasks}
use Rattle.nudge_phases.proofs.Answered.{IsAnswered, answered_at}
use Rattle.nudge_phases.proofs.Zips.{zip_count}
use Rattle.form_make.specs.declared.summary.Summary.{Summary}
use Rattle.form_make.specs.Sums.{SumsUp, cost_of_route}
use Rattle.form_make.proofs.Bends.{bends_in, few_bends, have_bends}

-- the sums over the answers so far, with their upper bounds
pub record SumsSoFar (answers : List Answer) (searches i : ℕ) (s : Summary) : Type 0 where
  pub routed : s.routed ≡ length (filter (λ a. is_some a.route) (take i answers))
  pub unrouted : s.unrouted ≡ length (filter (λ a. is_none a.route) (take i answers))
  pub cost : s.cost ≡ sum_by (λ a. cost_of_route a.route) (take i answers)
  pub bends : s.bends ≡ sum_by (λ a. bends_in a.route) (take i answers)
  pub searched : s.searched ≡ searches
  pub few_routed : s.routed ≤ i
  pub few_unrouted : s.unrouted ≤ i
  pub low_cost : s.cost ≤ 3 * 10 ^ 17 * i
  pub few_bends : s.bends ≤ 80000000 * i

-- the route is a line that calls accept, and costs little
pub record IsSmall (r : Route) : Type 0 where
  pub line : IsOrthogonal r.points
  pub cost : r.cost < 3 * 10 ^ 17

module _ (s : Scene) (answers : List Answer) (v : IsValid s) (are : AreAnswers s answers) where
  pub few_answers : length answers ≤ 512
  few_answers =
      let p = λ (e : Edge). not (is_loop e) in
      omega (arith, zip_count (IsAnswerOf s) (connectors s) answers are, length-filter p s.edges, count_by-le-length p s.edges, v.few_edges)

  answered_small : (number : ℕ) (r : Route) → IsAnswered s number r → IsSmall r
  answered_small number r a =
      let holds : HoldsTask s a.edge = floors_hold_tasks s a.edge v a.connector.has in
      let task = task_of s a.edge in
      let low = small_cost (floor_of s) task a.triple (floors_fit s v) holds.task.is_task holds.floor a.first in
      record {
        line = orthogonal_route (floor_of s) task a.triple (floors_fit s v) holds.task.is_task holds.floor a.first r a.route_of;
        cost = omega (arith, low, a.route_of.cost);
      }

  -- right routes are small
  pub small : (i : ℕ) (a : Answer) (r : Route) → i < length answers → a ≡ get_or answers i a → a.route ≡ Some r → IsSmall r
  small i a r h is has = answered_small a.edge r (answered_at s answers v are i a r (slice_get-get_or answers i a h ∙ ap Some (sym is)) has)

  -- the sums are those that are promised
  pub sums_up : (n searched : ℕ) (m : Summary) → length answers ≤ n → SumsSoFar answers searched n m → SumsUp answers searched m
  sums_up n searched m all so =
      let whole : take n answers ≡ answers = take_all n answers all in
      record {
        routed = so.routed ∙ ap (λ rs. length (filter (λ (a : Answer). is_some a.route) rs)) whole;
        unrouted = so.unrouted ∙ ap (λ rs. length (filter (λ (a : Answer). is_none a.route) rs)) whole;
        cost = so.cost ∙ ap (sum_by (λ (a : Answer). cost_of_route a.route)) whole;
        bend_counts = map (λ (a : Answer). bends_in a.route) answers;
        have_bends = have_bends s answers are;
        bends = so.bends ∙ ap (sum_by (λ (a : Answer). bends_in a.route)) whole ∙ sym (sum-map (λ (a : Answer). bends_in a.route) answers);
        searched = so.searched;
      }

module _ (answers : List Answer) (searched i : ℕ) (a : Answer) (m : Summary) (h : i < length answers) (is : a ≡ get_or answers i a) (so : SumsSoFar answers searched i m) where
  one_routed : length (filter (λ (b : Answer). is_some b.route) (take (i + 1) answers)) ≡ m.routed + cond (is_some a.route) 1 0
  one_routed = omega (arith, so.routed, length-filter_more (λ (b : Answer). is_some b.route) answers i a h, ap {B = ℕ} (λ (b : Answer). cond (is_some b.route) 1 0) is)

  one_unrouted : length (filter (λ (b : Answer). is_none b.route) (take (i + 1) answers)) ≡ m.unrouted + cond (is_none a.route) 1 0
  one_unrouted = omega (arith, so.unrouted, length-filter_more (λ (b : Answer). is_none b.route) answers i a h, ap {B = ℕ} (λ (b : Answer). cond (is_none b.route) 1 0) is)

  one_cost : sum_by (λ (b : Answer). cost_of_route b.route) (take (i + 1) answers) ≡ m.cost + cost_of_route a.route
  one_cost = omega (arith, so.cost, sum_by_more (λ (b : Answer). cost_of_route b.route) answers i a h, ap (λ (b : Answer). cost_of_route b.route) is)

  one_bends : sum_by (λ (b : Answer). bends_in b.route) (take (i + 1) answers) ≡ m.bends + bends_in a.route
  one_bends = omega (arith, so.bends, sum_by_more (λ (b : Answer). bends_in b.route) answers i a h, ap (λ (b : Answer). bends_in b.route) is)

  -- one more route
  pub with_route : (r : Route) (n : Summary) → a.route ≡ Some r → IsSmall r → n.routed ≡ m.routed + 1 → n.unrouted ≡ m.unrouted → n.cost ≡ m.cost + r.cost → n.bends ≡ m.bends + bends (steps_of r.points) → n.searched ≡ m.searched
      → SumsSoFar answers searched (i + 1) n
  with_route r n has is_small routed unrouted cost bent searches =
      let fits : bends (steps_of r.points) ≤ 80000000 = let few = is_small.line.corners.few in omega (arith, few, few_bends r.points) in
      record {
        routed = omega (arith, routed, one_routed, ap {B = ℕ} (λ (o : Option Route). cond (is_some o) 1 0) has);
        unrouted = omega (arith, unrouted, one_unrouted, ap {B = ℕ} (λ (o : Option Route). cond (is_none o) 1 0) has);
        cost = omega (arith, cost, one_cost, ap cost_of_route has);
        bends = omega (arith, bent, one_bends, ap bends_in has);
        searched = searches ∙ so.searched;
        few_routed = omega (arith, routed, so.few_routed);
        few_unrouted = omega (arith, unrouted, so.few_unrouted);
        low_cost = omega (arith, cost, is_small.cost, so.low_cost);
        few_bends = omega (arith, bent, fits, so.few_bends);
      }

  -- one more without a route
  pub without_route : (n : Summary) → a.route ≡ None → n.routed ≡ m.routed → n.unrouted ≡ m.unrouted + 1 → n.cost ≡ m.cost → n.bends ≡ m.bends → n.searched ≡ m.searched → SumsSoFar answers searched (i + 1) n
  without_route n has routed unrouted cost bent searches = record {
    routed = omega (arith, routed, one_routed, ap {B = ℕ} (λ (o : Option Route). cond (is_some o) 1 0) has);
    unrouted = omega (arith, unrouted, one_unrouted, ap {B = ℕ} (λ (o : Option Route). cond (is_none o) 1 0) has);
    cost = omega (arith, cost, one_cost, ap cost_of_route has);
    bends = omega (arith, bent, one_bends, ap bends_in has);
    searched = searches ∙ so.searched;
    few_routed = omega (arith, routed, so.few_routed);
    few_unrouted = omega (arith, unrouted, so.few_unrouted);
    low_cost = omega (arith, cost, so.low_cost);
    few_bends = omega (arith, bent, so.few_bends);
  }
