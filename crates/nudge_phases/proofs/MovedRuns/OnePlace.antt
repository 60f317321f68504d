-- Each run of a phase has one place in the order.
use Rattle.std.proofs.Common.{◌≡◌, ◌≢◌, ◌⊎◌, ℕ, suc, ◌<◌, List, [], ◌∷◌, ◌++◌, map, length, get_or, inl, inr, refl, sym, ap, subst, ◌∙◌, arith, if◌then◌else◌}
use Rattle.std.specs.Prelude.{All, AllPairs}
use Rattle.std.specs.List.{swap}
use Rattle.std.specs.List.Sorted.{IsPermutation}
use Rattle.std.proofs.lemmas.Bool.{cases_lt, cases_Bool}
use Rattle.std.proofs.lemmas.List.{get_or_default, get_or-map, length-map}
use Rattle.std.proofs.lemmas.List.Edits.{swapped_from_swap, length-swap}
use Rattle.std.proofs.lemmas.List.Elements.{All-head, All-tail, All-append, All-map, All-contains, All-get_or, All-weaker}
use Rattle.std.proofs.lemmas.List.Kept.{AllPairs-cons}
use Rattle.std.proofs.lemmas.List.Sorted.{IsPermutation-keeps}
use Rattle.plane_geom.specs.declared.point.Way.{Way}
use Rattle.segment_order.specs.declared.run.Run.{Run}
use Rattle.segment_order.specs.Run.{no_run}
use Rattle.channel_bundles.specs.declared.route.PhaseRoute.{PhaseRoute}
use Rattle.channel_bundles.specs.Route.{IsPhaseRoute, of_way, runs_of_way, is_way}
use Rattle.channel_bundles.specs.Bundles.{Standing}
use Rattle.channel_bundles.proofs.Trees.{cases_same}
use Rattle.nudge_phases.proofs.MovedRuns.Bundled.{IsAmong, are_among, IsRunOf, are_runs_of}

-- the two are not one run
abbrev pub Differ : PhaseRoute × Run → PhaseRoute × Run → Type 0
Differ p q = p.1.edge ≡ q.1.edge → p.1.place ≡ q.1.place → ⊥

all_of_way : (P : Run → Type 0) (way : Way) (runs : List Run) → All P runs → All P (of_way way runs)
all_of_way P way runs h = All-weaker (IsAmong runs) P (λ r a. subst P a.here (All-get_or P runs a.index no_run a.in_list h)) (of_way way runs) (are_among way runs)

tail_pairs : (r : Run) (rs : List Run) → AllPairs (λ (a b : Run). a.place ≢ b.place) (r ∷ rs) → AllPairs (λ (a b : Run). a.place ≢ b.place) rs
tail_pairs r rs pairs i j d h g = pairs (suc i) (suc j) d (omega arith) (omega arith)

own_pairs : (way : Way) (route : PhaseRoute) (edge : ℕ) (runs : List Run) (rest : List (PhaseRoute × Run)) → AllPairs (λ (a b : Run). a.place ≢ b.place) runs → All (λ (r : Run). r.edge ≡ edge) runs →
    AllPairs Differ rest → All (λ (p : PhaseRoute × Run). p.1.edge ≢ edge) rest → AllPairs Differ (map (λ (r : Run). (route, r)) (of_way way runs) ++ rest)
own_pairs way route edge [] rest places edges pairs others = pairs
own_pairs way route edge (r ∷ rs) rest places edges pairs others =
    let later = own_pairs way route edge rs rest (tail_pairs r rs places) (All-tail (λ (t : Run). t.edge ≡ edge) r rs edges) pairs others in
    let here : r.edge ≡ edge = All-head (λ (t : Run). t.edge ≡ edge) r rs edges in
    let made : List (PhaseRoute × Run) = map (λ (t : Run). (route, t)) (of_way way rs) in
    let differs : All (Differ (route, r)) (made ++ rest) = All-append (Differ (route, r)) made rest
    (All-map (Differ (route, r)) (λ (t : Run). (route, t)) (of_way way rs) (all_of_way (λ (t : Run). Differ (route, r) (route, t)) way rs (λ k d h same place. places 0 (suc k) d (omega arith) (omega arith) place)))
    (All-weaker (λ (p : PhaseRoute × Run). p.1.edge ≢ edge) (Differ (route, r)) (λ p other same place. other (sym same ∙ here)) rest others) in
    let first_pairs : AllPairs Differ ((route, r) ∷ (made ++ rest)) = AllPairs-cons Differ (route, r) (made ++ rest) differs later in
    elim (cases_Bool (is_way r.way way)) as (λ _. AllPairs Differ (map (λ (t : Run). (route, t)) (of_way way (r ∷ rs)) ++ rest)) [
      | inl own ↦ subst (λ b. AllPairs Differ (map (λ (t : Run). (route, t)) (if b then r ∷ of_way way rs else of_way way rs) ++ rest)) (sym own) first_pairs
      | inr other ↦ subst (λ b. AllPairs Differ (map (λ (t : Run). (route, t)) (if b then r ∷ of_way way rs else of_way way rs) ++ rest)) (sym other) later
    ]

runs_differ : (way : Way) (routes : List PhaseRoute) → All IsPhaseRoute routes → AllPairs (λ (r s : PhaseRoute). r.edge ≢ s.edge) routes → AllPairs Differ (runs_of_way way routes)
runs_differ way [] good edges = λ i j d h g. absurd (omega arith)
runs_differ way (route ∷ routes) good edges =
    let one = All-head IsPhaseRoute route routes good in
    let more = All-tail IsPhaseRoute route routes good in
    let runs = route.runs.items in
    own_pairs way route route.edge runs (runs_of_way way routes)
    (λ i j d h g same. let p = ap (λ (r : Run). r.place) (get_or_default runs i d no_run (omega arith)) ∙ one.runs.places i (omega arith) in
    let q = ap (λ (r : Run). r.place) (get_or_default runs j d no_run g) ∙ one.runs.places j g in
    absurd (omega (arith, p, q, same, h)))
    (λ k d h. ap (λ (r : Run). r.edge) (get_or_default runs k d no_run h) ∙ one.runs.edges k h)
    (runs_differ way routes more (λ i j d h g. edges (suc i) (suc j) d (omega arith) (omega arith)))
    (All-weaker (IsRunOf routes) (λ (p : PhaseRoute × Run). p.1.edge ≢ route.edge)
    (λ p is same.
    let other = All-contains (λ (t : PhaseRoute). route.edge ≢ t.edge) routes p.0 (λ k d h. edges 0 (suc k) d (omega arith) (omega arith)) is.route in
    let edge : p.1.edge ≡ p.0.edge = ap (λ (r : Run). r.edge) (sym is.here) ∙ (All-contains IsPhaseRoute routes p.0 more is.route).runs.edges is.index is.in_list in
    other (sym same ∙ edge))
    (runs_of_way way routes) (are_runs_of way routes))

-- no run stands at two places
abbrev pub OneEach : List (PhaseRoute × Run) → Type 0
OneEach xs = (i j : ℕ) (d : PhaseRoute × Run) → i < length xs → j < length xs → (get_or xs i d).1.edge ≡ (get_or xs j d).1.edge → (get_or xs i d).1.place ≡ (get_or xs j d).1.place → i ≡ j

one_each : (xs : List (PhaseRoute × Run)) → AllPairs Differ xs → OneEach xs
one_each xs pairs i j d h g edge place =
    elim (cases_lt i j) as (λ _. i ≡ j) [
      | inl l ↦ absurd (pairs i j d l g edge place)
      | inr k ↦ (elim (cases_lt j i) as (λ _. i ≡ j) [
        | inl l ↦ absurd (pairs j i d l h (sym edge) (sym place))
        | inr m ↦ omega arith
      ])
    ]

-- where what stands at i after an exchange stood before it
record IsFrom (xs ys : List (PhaseRoute × Run)) (a b i : ℕ) (d : PhaseRoute × Run) : Type 0 where
  source : ℕ
  in_list : source < length xs
  is : get_or ys i d ≡ get_or xs source d
  why : ((i ≡ a) × (source ≡ b)) ⊎ (((i ≡ a → ⊥) × (i ≡ b) × (source ≡ a)) ⊎ ((i ≡ a → ⊥) × (i ≡ b → ⊥) × (source ≡ i)))

from_where : (xs : List (PhaseRoute × Run)) (a b i : ℕ) (d : PhaseRoute × Run) → a < length xs → b < length xs → i < length xs → IsFrom xs (swap xs a b) a b i d
from_where xs a b i d in_a in_b in_i =
    let ys = swap xs a b in
    let s = swapped_from_swap xs ys a b d in_a in_b refl in
    cases_same {P = IsFrom xs ys a b i d} i a
    (λ e. record { source = b; in_list = in_b; is = ap (λ k. get_or ys k d) e ∙ s.0; why = inl (e, refl) })
    (λ ne. cases_same {P = IsFrom xs ys a b i d} i b
    (λ e. record { source = a; in_list = in_a; is = ap (λ k. get_or ys k d) e ∙ s.1; why = inr (inl (ne, e, refl)) })
    (λ nf. record { source = i; in_list = in_i; is = s.2 i ne nf; why = inr (inr (ne, nf, refl)) }))

same_from : (a b i j s t : ℕ) → s ≡ t → ((i ≡ a) × (s ≡ b)) ⊎ (((i ≡ a → ⊥) × (i ≡ b) × (s ≡ a)) ⊎ ((i ≡ a → ⊥) × (i ≡ b → ⊥) × (s ≡ i))) →
    ((j ≡ a) × (t ≡ b)) ⊎ (((j ≡ a → ⊥) × (j ≡ b) × (t ≡ a)) ⊎ ((j ≡ a → ⊥) × (j ≡ b → ⊥) × (t ≡ j))) → i ≡ j
same_from a b i j s t e (inl x) (inl y) = omega arith
same_from a b i j s t e (inl x) (inr (inl y)) = absurd (y.0 (omega arith))
same_from a b i j s t e (inl x) (inr (inr y)) = absurd (y.1 (omega arith))
same_from a b i j s t e (inr (inl x)) (inl y) = absurd (x.0 (omega arith))
same_from a b i j s t e (inr (inl x)) (inr (inl y)) = omega arith
same_from a b i j s t e (inr (inl x)) (inr (inr y)) = absurd (y.0 (omega arith))
same_from a b i j s t e (inr (inr x)) (inl y) = absurd (x.1 (omega arith))
same_from a b i j s t e (inr (inr x)) (inr (inl y)) = absurd (x.0 (omega arith))
same_from a b i j s t e (inr (inr x)) (inr (inr y)) = omega arith

one_each_swapped : (xs : List (PhaseRoute × Run)) (a b : ℕ) → a < length xs → b < length xs → OneEach xs → OneEach (swap xs a b)
one_each_swapped xs a b in_a in_b one i j d h g edge place =
    let count = length-swap xs a b in
    let f = from_where xs a b i d in_a in_b (omega (arith, count)) in
    let t = from_where xs a b j d in_a in_b (omega (arith, count)) in
    same_from a b i j f.source t.source
    (one f.source t.source d f.in_list t.in_list
    (ap (λ (p : PhaseRoute × Run). p.1.edge) (sym f.is) ∙ edge ∙ ap (λ (p : PhaseRoute × Run). p.1.edge) t.is)
    (ap (λ (p : PhaseRoute × Run). p.1.place) (sym f.is) ∙ place ∙ ap (λ (p : PhaseRoute × Run). p.1.place) t.is))
    f.why t.why

-- so no run stands at two places of the order
pub one_each_run : (way : Way) (routes : List PhaseRoute) (all : List Standing) → All IsPhaseRoute routes → AllPairs (λ (r s : PhaseRoute). r.edge ≢ s.edge) routes →
    IsPermutation (runs_of_way way routes) (map (λ (s : Standing). (s.route, s.member.run)) all) → OneEach (map (λ (s : Standing). (s.route, s.member.run)) all)
one_each_run way routes all good edges once =
    IsPermutation-keeps (runs_of_way way routes) OneEach (one_each (runs_of_way way routes) (runs_differ way routes good edges)) one_each_swapped (map (λ (s : Standing). (s.route, s.member.run)) all) once

pub one_place : (way : Way) (routes : List PhaseRoute) (all : List Standing) → All IsPhaseRoute routes → AllPairs (λ (r s : PhaseRoute). r.edge ≢ s.edge) routes →
    IsPermutation (runs_of_way way routes) (map (λ (s : Standing). (s.route, s.member.run)) all) →
    (i j : ℕ) (d : Standing) → i < length all → j < length all → (get_or all i d).member.run ≡ (get_or all j d).member.run → i ≡ j
one_place way routes all good edges once i j d h g same =
    let pairs = map (λ (s : Standing). (s.route, s.member.run)) all in
    let one = one_each_run way routes all good edges once in
    let e : PhaseRoute × Run = (d.route, d.member.run) in
    let count = length-map {B = PhaseRoute × Run} all (λ (s : Standing). (s.route, s.member.run)) in
    let at : (k : ℕ) → k < length all → (get_or pairs k e).1 ≡ (get_or all k d).member.run = λ k within. ap (λ (p : PhaseRoute × Run). p.1) (get_or-map (λ (s : Standing). (s.route, s.member.run)) all k d e within) in
    one i j e (omega (arith, count)) (omega (arith, count))
    (ap (λ (r : Run). r.edge) (at i h ∙ same ∙ sym (at j g))) (ap (λ (r : Run). r.place) (at i h ∙ same ∙ sym (at j g)))
