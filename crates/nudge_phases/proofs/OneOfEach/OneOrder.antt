-- The runs of a phase have one order.
use Rattle.std.proofs.Common.{◌≡◌, ◌≢◌, ℕ, zero, suc, ◌+◌, ◌<◌, List, map, length, get_or, add-one, true≢false, inl, inr, refl, sym, ap, subst, ◌∙◌, arith}
use Rattle.std.specs.Prelude.{All, AllPairs}
use Rattle.std.specs.Cmp.{nat_cmp_is}
use Rattle.std.specs.Ordering.{nat_cmp, int_cmp, ordering_then, ordering_reverse, is_lt}
use Rattle.std.specs.Cmp.Lexicographic.{slice_cmp}
use Rattle.std.specs.declared.cmp.Ordering.{Ordering}
use Rattle.std.specs.declared.cmp.Ordering.TheVariants.{Less, Equal, Greater}
use Rattle.std.proofs.lemmas.Bool.{cases_lt}
use Rattle.std.proofs.lemmas.List.{get_or-map, length-map}
use Rattle.std.proofs.lemmas.List.Sorted.{Contains-permutation, IsPermutation-sym}
use Rattle.plane_geom.specs.declared.point.Way.{Way}
use Rattle.plane_geom.specs.declared.rect.Solid.{Solid}
use Rattle.segment_order.specs.declared.run.Run.{Run}
use Rattle.segment_order.specs.Order.{Key, compare_keys, key_of}
use Rattle.segment_order.specs.Ray.{entry_cmp}
use Rattle.segment_order.proofs.OneOrder.{keys_total}
use Rattle.channel_bundles.specs.declared.route.PhaseRoute.{PhaseRoute}
use Rattle.channel_bundles.specs.Route.{IsPhaseRoute, runs_of_way}
use Rattle.channel_bundles.specs.Links.{no_member}
use Rattle.channel_bundles.specs.Bundles.{Standing, AreInOrder}
use Rattle.nudge_phases.proofs.OneOfEach.OneList.{same_sorted}
use Rattle.nudge_phases.proofs.MovedRuns.OnePlace.{one_each_run}

-- what two keys that tie have in common
second_equal : (a b : Ordering) → ordering_then a b ≡ Equal → b ≡ Equal
second_equal Less b e = cc
second_equal Equal b e = e
second_equal Greater b e = cc

first_equal : (a b : Ordering) → ordering_then a b ≡ Equal → a ≡ Equal
first_equal Less b e = cc
first_equal Equal b e = refl
first_equal Greater b e = cc

same_number : (m n : ℕ) → nat_cmp m n ≡ Equal → m ≡ n
same_number m n e = elim (cases_lt m n) as (λ _. m ≡ n) [
  | inl l ↦ (let no : Less ≡ Equal = nat_cmp_is m n Less l ∙ e in cc)
  | inr k ↦ (elim (cases_lt n m) as (λ _. m ≡ n) [
    | inl l ↦ (let no : Greater ≡ Equal = nat_cmp_is m n Greater l ∙ e in cc)
    | inr h ↦ omega arith
  ])
]

tied : (a b : Key) → compare_keys a b ≡ Equal → (a.edge ≡ b.edge) × (a.place ≡ b.place)
tied a b e =
    let edges = nat_cmp a.edge b.edge in
    let places = nat_cmp a.place b.place in
    let last : ordering_then edges places ≡ Equal = second_equal (slice_cmp entry_cmp a.second b.second) _ (second_equal (slice_cmp entry_cmp a.first b.first) _ (second_equal (int_cmp a.at b.at) _ e)) in
    (same_number a.edge b.edge (first_equal edges places last), same_number a.place b.place (second_equal edges places last))

only_less : (o : Ordering) → (o ≡ Equal → ⊥) → (o ≡ Greater → ⊥) → o ≡ Less
only_less Less f g = refl
only_less Equal f g = absurd (f refl)
only_less Greater f g = absurd (g refl)

abbrev key : PhaseRoute × Run → Key
key p = key_of p.0.runs.items p.1

abbrev Before : PhaseRoute × Run → PhaseRoute × Run → Type 0
Before p q = compare_keys (key p) (key q) ≡ Less

not_both : (p q : PhaseRoute × Run) → Before p q → Before q p → ⊥
not_both p q h g = let no : Less ≡ Greater = sym h ∙ keys_total.antisymm (key p) (key q) ∙ ap ordering_reverse g in cc

module _ (solids : List Solid) (routes : List PhaseRoute) (way : Way) (good : All IsPhaseRoute routes) (edges : AllPairs (λ (r s : PhaseRoute). r.edge ≢ s.edge) routes) where
  abbrev pub pair_of : Standing → PhaseRoute × Run
  pair_of s = (s.route, s.member.run)

  module _ (all : List Standing) (order : AreInOrder solids routes way all) where
    abbrev here : ℕ → Standing → PhaseRoute × Run
    here k d = pair_of (get_or all k d)

    next : (k : ℕ) (d : Standing) → k + 1 < length all → Before (here k d) (here (k + 1) d)
    next k d h =
        let one = here k d in
        let two = here (k + 1) d in
        let e : PhaseRoute × Run = pair_of d in
        let count = length-map {B = PhaseRoute × Run} all pair_of in
        let at : (i : ℕ) → i < length all → get_or (map pair_of all) i e ≡ here i d = λ i g. get_or-map pair_of all i d e g in
        only_less (compare_keys (key one) (key two))
        (λ tie. let both = tied (key one) (key two) tie in
        let same : k ≡ k + 1 = one_each_run way routes all good edges order.once k (k + 1) e (omega (arith, count)) (omega (arith, count))
        (ap (λ (p : PhaseRoute × Run). p.1.edge) (at k (omega arith)) ∙ both.0 ∙ sym (ap (λ (p : PhaseRoute × Run). p.1.edge) (at (k + 1) h)))
        (ap (λ (p : PhaseRoute × Run). p.1.place) (at k (omega arith)) ∙ both.1 ∙ sym (ap (λ (p : PhaseRoute × Run). p.1.place) (at (k + 1) h))) in
        absurd (omega (arith, same)))
        (λ greater. true≢false (sym (ap is_lt (keys_total.antisymm (key two) (key one) ∙ ap ordering_reverse greater)) ∙ order.sorted k d (omega arith) h))

    later : (i j : ℕ) (d : Standing) → i < j → j < length all → Before (here i d) (here j d)
    later i zero d h g = absurd (omega arith)
    later i (suc j) d h g =
        let step : Before (here j d) (here (suc j) d) = subst (λ k. Before (here j d) (here k d)) (add-one j) (next j d (omega arith)) in
        elim (cases_lt i j) as (λ _. Before (here i d) (here (suc j) d)) [
          | inl earlier ↦ keys_total.trans (key (here i d)) (key (here j d)) (key (here (suc j) d)) (later i j d earlier (omega arith)) step
          | inr last ↦ (let same : j ≡ i = omega arith in subst (λ k. Before (here k d) (here (suc j) d)) same step)
        ]

    strict : AllPairs Before (map pair_of all)
    strict i j e h g =
        let d : Standing = record { route = e.0; member = no_member } in
        let count = length-map {B = PhaseRoute × Run} all pair_of in
        let at : (k : ℕ) → k < length all → get_or (map pair_of all) k e ≡ here k d = λ k within. get_or-map pair_of all k d e within in
        subst (λ p. Before p (get_or (map pair_of all) j e)) (sym (at i (omega (arith, count))))
        (subst (Before (here i d)) (sym (at j (omega (arith, count)))) (later i j d h (omega (arith, count))))

  pub same_pairs : (all others : List Standing) → AreInOrder solids routes way all → AreInOrder solids routes way others → map pair_of all ≡ map pair_of others
  same_pairs all others one two =
      let runs = runs_of_way way routes in
      let xs = map pair_of all in
      let ys = map pair_of others in
      same_sorted Before not_both xs ys (strict all one) (strict others two)
      (λ z has. Contains-permutation runs ys z two.once (Contains-permutation xs runs z (IsPermutation-sym runs xs one.once) has))
      (λ z has. Contains-permutation runs xs z one.once (Contains-permutation ys runs z (IsPermutation-sym runs ys two.once) has))
