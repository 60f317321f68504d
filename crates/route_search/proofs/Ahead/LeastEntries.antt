-- The least of the entries is found one by one.
use Rattle.std.proofs.Common.{true, false, ◌≡◌, ◌≢◌, ℕ, suc, zero, ◌+◌, ◌<◌, ◌≤◌, Option, Some, None, List, [], ◌∷◌, ◌++◌, All, length, get_or, take, drop, refl, sym, ap, subst, ◌∙◌, arith}
use Rattle.std.specs.Prelude.{AllPairs, Contains, IfSome, IsNone}
use Rattle.std.specs.Cmp.{nat_cmp_is}
use Rattle.std.specs.Ordering.{nat_cmp, ordering_reverse, ordering_then}
use Rattle.std.specs.declared.cmp.Ordering.{Ordering}
use Rattle.std.specs.declared.cmp.Ordering.TheVariants.{Less, Equal, Greater}
use Rattle.std.proofs.lemmas.Cmp.{alike_right, nat_cmp_total, tied_itself}
use Rattle.std.proofs.lemmas.List.{take-append-drop, take_all, take_more}
use Rattle.std.proofs.lemmas.List.Elements.{All-cons, All-contains, All-nil, All-push, All-weaker, Contains-append_left, Contains-push}
use Rattle.walk_model.specs.declared.task.Choice.{Choice}
use Rattle.move_model.specs.declared.place.Place.{Place}
use Rattle.move_model.specs.declared.ahead.Ahead.{Ahead}
use Rattle.move_model.specs.Ahead.{ahead_cmp}
use Rattle.search_problem.specs.Ends.{IsEntryOf}
use Rattle.search_problem.specs.Origins.{IsSmallEntry}
use Rattle.search_problem.specs.Problems.{IsReady}
use Rattle.search_problem.specs.declared.ends.Entry.{Entry}
use Rattle.search_problem.specs.declared.problem.Problem.{Problem}
use Rattle.search_problem.proofs.Choices.{entries_small}
use Rattle.exit_spread.specs.Propagating.{IsOfferable}
use Rattle.route_search.specs.Known.{IsAttained, IsPlace, Knowledge}
use Rattle.route_search.specs.Starting.{EntersNoLater, IsBetterOf, IsLeastEntry, IsLeastOf, IsLessThan, whole_from}
use Rattle.exit_rows.proofs.Orders.{ahead_total}

-- an entry of a problem stands at a place, and is small
module _ (p : Problem) (ready : IsReady p) (e : Entry) (has : Contains p.entries.items e) where
  pub entry_is_place : IsPlace p e.place
  entry_is_place =
      let of_some =
      All-contains (λ (f : Entry). (f.choice < length p.task.now.starts) × (c : Choice) × IsEntryOf p.solids.now p.arena.now p.task.now c f) p.entries.items e ready.entries.sound has in
      let of_s : IsEntryOf p.solids.now p.arena.now p.task.now of_some.1 e = of_some.2 in
      record { at = of_some.1.port; here = of_s.enters.here; stage = of_s.enters.stage.within }

  pub entry_is_small : IsSmallEntry e
  entry_is_small =
      All-contains IsSmallEntry p.entries.items e
      (entries_small p.solids.now p.arena.now p.task.now (length p.task.now.starts) p.entries.items ready.problem.is_task ready.entries) has

-- so is an entry that was found, with what is known of it
pub found_is_small : (p : Problem) (known : Knowledge) → IsReady p → IsAttained p known → (found : Option (Entry × Ahead)) (f : Entry × Ahead) → found ≡ Some f →
    IfSome found (λ g. Contains p.entries.items g.0 × (known.ahead g.0.place ≡ Some g.1)) → IsSmallEntry f.0 × IsOfferable f.1
found_is_small p known ready searching found f same h =
    let is : Contains p.entries.items f.0 × (known.ahead f.0.place ≡ Some f.1) =
    subst (λ o. IfSome o (λ g. Contains p.entries.items g.0 × (known.ahead g.0.place ≡ Some g.1))) same h in
    (entry_is_small p ready f.0 is.0, searching.small f.0.place f.1 is.1)

-- what was found among the first entries is one of all
pub found_is_entry : (known : Place → Option Ahead) (xs : List Entry) (i : ℕ) (found : Option (Entry × Ahead)) → IsLeastOf known (take i xs) found →
    IfSome found (λ g. Contains xs g.0 × (known g.0.place ≡ Some g.1))
found_is_entry l xs i None h = tt
found_is_entry l xs i (Some f) h = (subst (λ ys. Contains ys f.0) (take-append-drop i xs) (Contains-append_left (take i xs) (drop i xs) f.0 h.is), h.is_known)

-- less than what is no greater is less
less_than_no_greater : (u v w : Ahead) → ahead_cmp u v ≡ Less → ahead_cmp v w ≢ Greater → ahead_cmp u w ≡ Less
less_than_no_greater u v w less upto = by_order (ahead_cmp v w) refl
  where
    by_order : (o : Ordering) → ahead_cmp v w ≡ o → ahead_cmp u w ≡ Less
    by_order Less e = ahead_total.trans u v w less e
    by_order Equal e = sym (alike_right ahead_total v w u e) ∙ less
    by_order Greater e = absurd (upto e)

-- an entry is no later than itself, and than one with a later choice that makes no walk less
no_later_itself : (e : Entry) (v : Ahead) → EntersNoLater e v e v
no_later_itself e v greater =
    let wrong : Equal ≡ Greater =
    sym (ap (λ o. ordering_then o (nat_cmp e.choice e.choice)) (tied_itself ahead_total (whole_from e v)) ∙ tied_itself nat_cmp_total e.choice) ∙ greater in
    absurd (let both : Equal ≡ Greater = wrong in cc)

no_later_less : (d e : Entry) (v w : Ahead) → ahead_cmp (whole_from d v) (whole_from e w) ≡ Less → EntersNoLater d v e w
no_later_less d e v w less greater =
    absurd (let wrong : Less ≡ Greater = sym (ap (λ o. ordering_then o (nat_cmp d.choice e.choice)) less) ∙ greater in cc)

no_later_before : (d e : Entry) (v w : Ahead) → (ahead_cmp (whole_from e w) (whole_from d v) ≡ Less → ⊥) → d.choice < e.choice → EntersNoLater d v e w
no_later_before d e v w upto before greater = by_order (ahead_cmp (whole_from d v) (whole_from e w)) refl
  where
    by_order : (o : Ordering) → ahead_cmp (whole_from d v) (whole_from e w) ≡ o → ⊥
    by_order Less x = no_later_less d e v w x greater
    by_order Equal x =
        let wrong : Less ≡ Greater = nat_cmp_is d.choice e.choice Less before ∙ sym (ap (λ o. ordering_then o (nat_cmp d.choice e.choice)) x) ∙ greater in cc
    by_order Greater x = upto (ahead_total.antisymm (whole_from e w) (whole_from d v) ∙ ap ordering_reverse x)

-- what stands in front of an entry has an earlier choice
in_front : (xs : List Entry) (i : ℕ) (e : Entry) → i < length xs → e ≡ get_or xs i e → AllPairs (λ d f. d.choice < f.choice) xs → All (λ d. d.choice < e.choice) (take i xs)
in_front [] i e within is h = absurd (omega (arith, within))
in_front (x ∷ xs) zero e within is h = All-nil (λ d. d.choice < e.choice)
in_front (x ∷ xs) (suc i) e within is h = All-cons (λ d. d.choice < e.choice) x (take i xs)
    (subst (λ f. x.choice < f.choice) (sym is) (h 0 (suc i) e (omega arith) (omega (arith, within))))
    (in_front xs i e (omega (arith, within)) is (λ a b d less upto. h (suc a) (suc b) d (omega (arith, less)) (omega (arith, upto))))

module _ (known : Place → Option Ahead) (front : List Entry) (e : Entry) where
  none_more : (found : Option (Entry × Ahead)) → known e.place ≡ None → IsLeastOf known front found → IsLeastOf known (front ++ e ∷ []) found
  none_more None none h = All-push (λ d. known d.place ≡ None) front e h none
  none_more (Some f) none h = record {
    is = Contains-append_left front (e ∷ []) f.0 h.is;
    is_known = h.is_known;
    least = All-push (λ d. (w : Ahead) → known d.place ≡ Some w → EntersNoLater f.0 f.1 d w) front e h.least
        (λ w is. absurd (let wrong : ◌≡◌ {A = Option Ahead} None (Some w) = sym none ∙ is in cc));
  }

  one_value : (v w : Ahead) → known e.place ≡ Some v → known e.place ≡ Some w → v ≡ w
  one_value v w h k = let both : ◌≡◌ {A = Option Ahead} (Some v) (Some w) = sym h ∙ k in cc

  less_more : (found : Option (Entry × Ahead)) (v : Ahead) → known e.place ≡ Some v → IsLessThan e v found → IsLeastOf known front found → IsLeastEntry known (front ++ e ∷ []) e v
  less_more found v is_this less h = record {
    is = Contains-push front e;
    is_known = is_this;
    least = All-push (λ d. (w : Ahead) → known d.place ≡ Some w → EntersNoLater e v d w) front e (others found less h)
        (λ w is. subst (λ z. EntersNoLater e v e z) (one_value v w is_this is) (no_later_itself e v));
  }
    where
      others : (found : Option (Entry × Ahead)) → IsLessThan e v found → IsLeastOf known front found → All (λ d. (w : Ahead) → known d.place ≡ Some w → EntersNoLater e v d w) front
      others None less h =
          All-weaker (λ d. known d.place ≡ None) (λ d. (w : Ahead) → known d.place ≡ Some w → EntersNoLater e v d w)
          (λ d none w is. absurd (let wrong : ◌≡◌ {A = Option Ahead} None (Some w) = sym none ∙ is in cc)) front h
      others (Some f) less h =
          All-weaker (λ d. (w : Ahead) → known d.place ≡ Some w → EntersNoLater f.0 f.1 d w) (λ d. (w : Ahead) → known d.place ≡ Some w → EntersNoLater e v d w)
          (λ d upto w is. no_later_less e d v w (less_than_no_greater (whole_from e v) (whole_from f.0 f.1) (whole_from d w) less
          (λ greater. upto w is (ap (λ o. ordering_then o (nat_cmp f.0.choice d.choice)) greater)))) front h.least

  not_less_more : (f : Entry × Ahead) (v : Ahead) → known e.place ≡ Some v → (IsLessThan e v (Some f) → ⊥) → All (λ d. d.choice < e.choice) front → IsLeastEntry known front f.0 f.1 →
      IsLeastEntry known (front ++ e ∷ []) f.0 f.1
  not_less_more f v is_this upto before h = record {
    is = Contains-append_left front (e ∷ []) f.0 h.is;
    is_known = h.is_known;
    least = All-push (λ d. (w : Ahead) → known d.place ≡ Some w → EntersNoLater f.0 f.1 d w) front e h.least
        (λ w is. subst (λ z. EntersNoLater f.0 f.1 e z) (one_value v w is_this is)
        (no_later_before f.0 e f.1 v upto (All-contains (λ d. d.choice < e.choice) front f.0 before h.is)));
  }

  better_more : (found better : Option (Entry × Ahead)) → All (λ d. d.choice < e.choice) front → IsBetterOf known e found better → IsLeastOf known front found → IsLeastOf known (front ++ e ∷ []) better
  better_more found better before is h = by_known (known e.place) refl
    where
      by_found : (found : Option (Entry × Ahead)) (v : Ahead) → known e.place ≡ Some v → IsBetterOf known e found better → IsLeastOf known front found → IsLeastOf known (front ++ e ∷ []) better
      by_found None v is_this is h = subst (IsLeastOf known (front ++ e ∷ [])) (sym (is.less v is_this tt)) (less_more None v is_this tt h)
      by_found (Some f) v is_this is h = by_order (ahead_cmp (whole_from e v) (whole_from f.0 f.1)) refl
        where
          by_order : (o : Ordering) → ahead_cmp (whole_from e v) (whole_from f.0 f.1) ≡ o → IsLeastOf known (front ++ e ∷ []) better
          by_order Less x = subst (IsLeastOf known (front ++ e ∷ [])) (sym (is.less v is_this x)) (less_more (Some f) v is_this x h)
          by_order Equal x =
              let upto : IsLessThan e v (Some f) → ⊥ = λ less. absurd (let wrong : Less ≡ Equal = sym less ∙ x in cc) in
              subst (IsLeastOf known (front ++ e ∷ [])) (sym (is.not_less v is_this upto)) (not_less_more f v is_this upto before h)
          by_order Greater x =
              let upto : IsLessThan e v (Some f) → ⊥ = λ less. absurd (let wrong : Less ≡ Greater = sym less ∙ x in cc) in
              subst (IsLeastOf known (front ++ e ∷ [])) (sym (is.not_less v is_this upto)) (not_less_more f v is_this upto before h)

      by_known : (o : Option Ahead) → known e.place ≡ o → IsLeastOf known (front ++ e ∷ []) better
      by_known None none = subst (IsLeastOf known (front ++ e ∷ [])) (sym (is.none none)) (none_more found none h)
      by_known (Some v) is_this = by_found found v is_this is h

-- of one entry more
pub least_more : (known : Place → Option Ahead) (xs : List Entry) (i : ℕ) (e : Entry) (found better : Option (Entry × Ahead)) → i < length xs → e ≡ get_or xs i e → AllPairs (λ d f. d.choice < f.choice) xs →
    IsBetterOf known e found better → IsLeastOf known (take i xs) found → IsLeastOf known (take (i + 1) xs) better
least_more known xs i e found better within is ordered better_is h =
    let longer : take i xs ++ e ∷ [] ≡ take (i + 1) xs = ap (λ d. take i xs ++ d ∷ []) is ∙ sym (take_more xs i e within) in
    subst (λ ys. IsLeastOf known ys better) longer (better_more known (take i xs) e found better (in_front xs i e within is ordered) better_is h)

-- where none was found among all nothing is known of any entry
pub none_found : (known : Place → Option Ahead) (xs : List Entry) (i : ℕ) (found : Option (Entry × Ahead)) → length xs ≤ i → IsLeastOf known (take i xs) found → IsNone found → All (λ e. known e.place ≡ None) xs
none_found known xs i None all h none = subst (All (λ e. known e.place ≡ None)) (take_all i xs all) h
none_found known xs i (Some f) all h none = absurd (let wrong : true ≡ false = none in cc)
