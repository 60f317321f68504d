-- The raw runs of right answers are routes.
use Rattle.std.proofs.Common.{◌≡◌, ◌≢◌, ℕ, ◌+◌, ◌<◌, ◌≤◌, ◌^◌, Option, Some, None, List, [], ◌∷◌, ◌++◌, length, get_or, map, take, refl, sym, ap, ◌∙◌, arith}
use Rattle.std.specs.Prelude.{All, AllPairs, IfSome}
use Rattle.std.specs.List.{AllByRecursion as Each}
use Rattle.std.proofs.lemmas.List.{append-nil, map-append}
use Rattle.std.proofs.lemmas.List.Elements.{All-from_recursion, All-map, All-weaker}
use Rattle.std.proofs.lemmas.List.Kept.{AllPairs-cons}
use Rattle.std.proofs.lemmas.Option.{slice_get-get_or}
use Rattle.walk_model.specs.declared.route.Answer.{Answer}
use Rattle.walk_model.specs.declared.route.Route.{Route}
use Rattle.scene_model.specs.Answers.{AreAnswers}
use Rattle.scene_model.specs.Scene.{Scene}
use Rattle.scene_model.specs.Valid.{IsValid}
use Rattle.scene_model.proofs.Editing.Entries.{Pairs}
use Rattle.shared_paths.specs.declared.path.EdgeRuns.{EdgeRuns}
use Rattle.shared_paths.specs.Laws.{IsRoute}
use Rattle.shared_paths.specs.Listed.{AreRoutes}
use Rattle.nudge_phases.specs.Raw.{routed, with_number}
use Rattle.nudge_phases.proofs.Answered.{Before, IsAnswered, answered, answered_at, few_answered, numbers_rise, routed_more}
use Rattle.nudge_phases.proofs.FewPoints.{few_of_route}
use Rattle.nudge_phases.proofs.RawReady.{raw_long, raw_runs as runs_of_route}
use Rattle.route_session.specs.Shares.{edge_runs, raw_runs}
use Rattle.route_session.proofs.FewRuns.{few_raw}

abbrev of_pair : ℕ × Route → EdgeRuns
of_pair p = edge_runs p.0 p.1.points

abbrev Apart : EdgeRuns → EdgeRuns → Type 0
Apart a b = a.edge ≢ b.edge

each_apart : (n : ℕ) (pairs : List (ℕ × Route)) → Each (λ (q : ℕ × Route). n < q.0) pairs → Each (λ (r : EdgeRuns). n ≢ r.edge) (map of_pair pairs)
each_apart n [] above = tt
each_apart n (q ∷ pairs) above = (λ same. (let l = above.0 in absurd (omega (arith, l, same))), each_apart n pairs above.1)

all_apart : (pairs : List (ℕ × Route)) → Pairs Before pairs → AllPairs Apart (map of_pair pairs)
all_apart [] rise = λ i j d l h. absurd (omega arith)
all_apart (p ∷ pairs) rise =
    AllPairs-cons Apart (of_pair p) (map of_pair pairs) (All-from_recursion (Apart (of_pair p)) (map of_pair pairs) (each_apart p.0 pairs rise.0)) (all_apart pairs rise.1)

module _ (s : Scene) (answers : List Answer) (v : IsValid s) (are : AreAnswers s answers) where
  is_route : (p : ℕ × Route) → IsAnswered s p.0 p.1 → IsRoute (of_pair p).edge (of_pair p).runs
  is_route p a = record { runs = runs_of_route s v p.0 p.1 a; long = raw_long s v p.0 p.1 a }

  few_points : All (λ (p : ℕ × Route). length p.1.points ≤ 3289603) (routed answers)
  few_points = All-weaker (λ (p : ℕ × Route). IsAnswered s p.0 p.1) (λ (p : ℕ × Route). length p.1.points ≤ 3289603) (few_of_route s v) (routed answers) (answered s answers v are)

  pub are_routes : AreRoutes (raw_runs answers)
  are_routes = record {
    edges = all_apart (routed answers) (numbers_rise s answers v are);
    each = All-map (λ (r : EdgeRuns). IsRoute r.edge r.runs) of_pair (routed answers)
        (All-weaker (λ (p : ℕ × Route). IsAnswered s p.0 p.1) (λ p. IsRoute (of_pair p).edge (of_pair p).runs) is_route (routed answers) (answered s answers v are));
    few = (let all = few_raw (routed answers) few_points in let count = few_answered s answers v are in omega (arith, all, count));
  }

  few_at : (a : Answer) (o : Option Route) → a.route ≡ o → ((r : Route) → a.route ≡ Some r → length r.points ≤ 3289603) → IfSome o (λ r. length r.points ≤ 2 ^ 32)
  few_at a None is few = tt
  few_at a (Some r) is few = let h = few r is in omega (arith, h)

  -- each route of an answer has few points
  pub each_few : All (λ (a : Answer). IfSome a.route (λ r. length r.points ≤ 2 ^ 32)) answers
  each_few k d l =
      let a = get_or answers k d in
      few_at a a.route refl (λ r is. few_of_route s v (a.edge, r) (answered_at s answers v are k a r (slice_get-get_or answers k d l) is))

-- the routes of one more answer
pub one_more : (answers : List Answer) (i : ℕ) (a : Answer) (r : Route) (was new : List EdgeRuns) (made : EdgeRuns) → i < length answers → a ≡ get_or answers i a → a.route ≡ Some r →
    was ≡ raw_runs (take i answers) → made ≡ edge_runs a.edge r.points → new ≡ was ++ made ∷ [] → new ≡ raw_runs (take (i + 1) answers)
one_more answers i a r was new made l is has so of e =
    let more : routed (take (i + 1) answers) ≡ routed (take i answers) ++ (a.edge, r) ∷ [] = routed_more answers i a l is ∙ ap (λ o. routed (take i answers) ++ with_number a.edge o) has in
    e ∙ ap (λ rs. rs ++ made ∷ []) so ∙ ap (λ m. raw_runs (take i answers) ++ m ∷ []) of
    ∙ sym (map-append of_pair (routed (take i answers)) ((a.edge, r) ∷ [])) ∙ sym (ap (map of_pair) more)

pub none_more : (answers : List Answer) (i : ℕ) (a : Answer) (was : List EdgeRuns) → i < length answers → a ≡ get_or answers i a → a.route ≡ None →
    was ≡ raw_runs (take i answers) → was ≡ raw_runs (take (i + 1) answers)
none_more answers i a was l is none so =
    let same : routed (take (i + 1) answers) ≡ routed (take i answers) = routed_more answers i a l is ∙ ap (λ o. routed (take i answers) ++ with_number a.edge o) none ∙ append-nil (routed (take i answers)) in
    so ∙ sym (ap (map of_pair) same)
