-- The consequences of the bundles of a phase for single runs.
use Rattle.std.proofs.Common.{◌≡◌, ℕ, suc, ◌<◌, List, [], ◌∷◌, map, length, get_or, inl, inr, refl, ap, subst, arith, if◌then◌else◌}
use Rattle.std.specs.Prelude.{Contains, All}
use Rattle.std.specs.List.Sorted.{IsPermutation}
use Rattle.std.proofs.lemmas.Bool.{cases_lt, cases_Bool}
use Rattle.std.proofs.lemmas.List.{get_or-map, length-map}
use Rattle.std.proofs.lemmas.List.Elements.{All-cons, All-nil, All-same, All-append, All-map, All-get_or, All-weaker, Contains-get_or, Contains-append_right}
use Rattle.std.proofs.lemmas.List.Sorted.{All-permutation}
use Rattle.plane_geom.specs.declared.point.Way.{Way}
use Rattle.segment_order.specs.declared.run.Run.{Run}
use Rattle.segment_order.specs.Run.{run_at}
use Rattle.channel_bundles.specs.declared.route.PhaseRoute.{PhaseRoute}
use Rattle.channel_bundles.specs.Route.{of_way, runs_of_way, is_way}
use Rattle.channel_bundles.specs.Bundles.{Standing}
use Rattle.channel_bundles.specs.Classes.{AreClasses, Rise}
use Rattle.channel_bundles.proofs.Listing.{first_least}

-- a place is in one class alone
module _ (connected : ℕ → ℕ → Type 0) (count : ℕ) (classes : List (List ℕ)) (are : AreClasses connected count classes) where
  class_at : ℕ → List ℕ
  class_at x = get_or classes x []

  not_before : (x y j : ℕ) → x < y → y < length classes → Contains (get_or classes x []) j → Contains (get_or classes y []) j → ⊥
  not_before x y j before h in_x in_y =
      let cx = get_or classes x [] in
      let cy = get_or classes y [] in
      let x_in : x < length classes = omega arith in
      let has_x = Contains-get_or classes x [] x_in in
      let has_y = Contains-get_or classes y [] h in
      let some : 0 < length cx = All-get_or (λ (ps : List ℕ). 0 < length ps) classes x [] x_in are.some in
      let first = get_or cx 0 0 in
      let in_first : Contains cx first = Contains-get_or cx 0 0 some in
      let below : first < count = All-get_or (λ i. i < count) cx 0 0 some (All-get_or (All (λ i. i < count)) classes x [] x_in are.within) in
      let there : Contains cy first = (are.linked cy j first has_y in_y below).1 ((are.linked cx j first has_x in_x below).0 in_first) in
      let least = first_least cy first (All-get_or Rise classes y [] h are.rising) there in
      let firsts = are.firsts x y before (rw (length-map classes (λ places. get_or places 0 0)) h) in
      omega (arith, least, firsts, get_or-map (λ places. get_or places 0 0) classes x [] 0 x_in, get_or-map (λ places. get_or places 0 0) classes y [] 0 h)

  pub one_class : (x y j : ℕ) → x < length classes → y < length classes → Contains (get_or classes x []) j → Contains (get_or classes y []) j → x ≡ y
  one_class x y j h g in_x in_y =
      elim (cases_lt x y) as (λ _. x ≡ y) [
        | inl before ↦ absurd (not_before x y j before g in_x in_y)
        | inr behind ↦ (elim (cases_lt y x) as (λ _. x ≡ y) [
          | inl before ↦ absurd (not_before y x j before h in_y in_x)
          | inr both ↦ omega arith
        ])
      ]

-- each run in order is a run of one of the routes
pub record IsRunOf (routes : List PhaseRoute) (pair : PhaseRoute × Run) : Type 0 where
  pub route : Contains routes pair.0
  pub index : ℕ
  pub in_list : index < length pair.0.runs.items
  pub here : run_at pair.0.runs.items index ≡ pair.1

pub record IsAmong (runs : List Run) (r : Run) : Type 0 where
  pub index : ℕ
  pub in_list : index < length runs
  pub here : run_at runs index ≡ r

among_more : (t : Run) (runs : List Run) (r : Run) → IsAmong runs r → IsAmong (t ∷ runs) r
among_more t runs r a = record { index = suc a.index; in_list = omega (arith, a.in_list); here = a.here }

pub are_among : (way : Way) (runs : List Run) → All (IsAmong runs) (of_way way runs)
are_among way [] = All-nil (IsAmong [])
are_among way (r ∷ rs) =
    let rest = All-weaker (IsAmong rs) (IsAmong (r ∷ rs)) (among_more r rs) (of_way way rs) (are_among way rs) in
    elim (cases_Bool (is_way r.way way)) as (λ _. All (IsAmong (r ∷ rs)) (of_way way (r ∷ rs))) [
      | inl own ↦ All-same (IsAmong (r ∷ rs)) _ (r ∷ of_way way rs) (ap (λ b. if b then r ∷ of_way way rs else of_way way rs) own)
          (All-cons (IsAmong (r ∷ rs)) r (of_way way rs) (record { index = 0; in_list = omega arith; here = refl }) rest)
      | inr other ↦ All-same (IsAmong (r ∷ rs)) _ (of_way way rs) (ap (λ b. if b then r ∷ of_way way rs else of_way way rs) other) rest
    ]

more_routes : (t : PhaseRoute) (routes : List PhaseRoute) (pair : PhaseRoute × Run) → IsRunOf routes pair → IsRunOf (t ∷ routes) pair
more_routes t routes pair is = record {
  route = Contains-append_right (t ∷ []) routes pair.0 is.route;
  index = is.index;
  in_list = is.in_list;
  here = is.here;
}

pub are_runs_of : (way : Way) (routes : List PhaseRoute) → All (IsRunOf routes) (runs_of_way way routes)
are_runs_of way [] = All-nil (IsRunOf [])
are_runs_of way (route ∷ routes) =
    All-append (IsRunOf (route ∷ routes)) (map (λ r. (route, r)) (of_way way route.runs.items)) (runs_of_way way routes)
    (All-map (IsRunOf (route ∷ routes)) (λ (r : Run). (route, r)) (of_way way route.runs.items)
    (All-weaker (IsAmong route.runs.items) (λ (r : Run). IsRunOf (route ∷ routes) (route, r))
    (λ r among. record { route = (0, omega arith, refl); index = among.index; in_list = among.in_list; here = among.here })
    (of_way way route.runs.items) (are_among way route.runs.items)))
    (All-weaker (IsRunOf routes) (IsRunOf (route ∷ routes)) (more_routes route routes) (runs_of_way way routes) (are_runs_of way routes))

pub standing_run : (way : Way) (routes : List PhaseRoute) (all : List Standing) (i : ℕ) (d : Standing) → IsPermutation (runs_of_way way routes) (map (λ (s : Standing). (s.route, s.member.run)) all) → i < length all → IsRunOf routes ((get_or all i d).route, (get_or all i d).member.run)
standing_run way routes all i d once h =
    let pairs = All-permutation (IsRunOf routes) (runs_of_way way routes) (map (λ (s : Standing). (s.route, s.member.run)) all) once (are_runs_of way routes) in
    subst (IsRunOf routes) (get_or-map (λ (s : Standing). (s.route, s.member.run)) all i d ((get_or all i d).route, (get_or all i d).member.run) h)
    (All-get_or (IsRunOf routes) (map (λ (s : Standing). (s.route, s.member.run)) all) i _ (rw (length-map {B = PhaseRoute × Run} all (λ (s : Standing). (s.route, s.member.run))) h) pairs)
