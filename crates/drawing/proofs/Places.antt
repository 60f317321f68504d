-- The pass goes on by one place, in the lines that were reported, in the others, or in both.
use Rattle.std.proofs.Common.{◌≡◌, ℕ, zero, suc, ◌<◌, ◌≤◌, ◌+◌, ◌⊎◌, Bool, true, inl, inr, Option, Some, None, List, [], ◌∷◌, ◌++◌, length, map, drop, get_or, refl, sym, ap, subst, ◌∙◌, append_assoc, arith}
use Rattle.std.specs.Prelude.{not, slice_get}
use Rattle.std.specs.Ordering.{nat_cmp, MatchOrdering}
use Rattle.std.specs.declared.cmp.Ordering.{Ordering}
use Rattle.std.specs.declared.cmp.Ordering.TheVariants.{Less, Equal, Greater}
use Rattle.std.specs.Cmp.{ranks}
use Rattle.std.proofs.lemmas.List.{append-nil, drop_more, drop_all}
use Rattle.std.proofs.lemmas.List.Elements.{recursion_from_All}
use Rattle.std.proofs.lemmas.Option.{none-some, same_Some, slice_get-get_or, slice_get_within}
use Rattle.walk_model.specs.declared.route.WrittenRoute.{WrittenRoute}
use Rattle.drawing.specs.Changes.{AreInOrder, are_same_corners, gone_between, is_changed, order_of}
use Rattle.drawing.proofs.Passing.{AreAbove, changed_both, changed_new, changed_past, gone_both, gone_first, gone_new}

-- what was found so far, with what will be found in the rest, is the whole
pub record IsPassed (reported lines : List WrittenRoute) (at place : ℕ) (changed : List Bool) (gone : List ℕ) : Type 0 where
  pub are_changed : changed ++ map (is_changed (drop at reported)) (drop place lines) ≡ map (is_changed reported) lines
  pub are_gone : gone ++ gone_between (drop at reported) (drop place lines) ≡ gone_between reported lines

pub none_passed : (reported lines : List WrittenRoute) (changed : List Bool) (gone : List ℕ) → changed ≡ [] → gone ≡ [] → IsPassed reported lines 0 0 changed gone
none_passed reported lines changed gone c g = record {
  are_changed = ap (λ ts. ts ++ map (is_changed reported) lines) c;
  are_gone = ap (λ ns. ns ++ gone_between reported lines) g;
}

-- the rest is above a number if its first line is
above : (ls : List WrittenRoute) → AreInOrder ls → (k n : ℕ) → ((d : WrittenRoute) → k < length ls → n < (get_or ls k d).edge) → AreAbove n (drop k ls)
above [] rise zero n h = tt
above [] rise (suc k) n h = tt
above (l ∷ ls) rise zero n h =
    let first = h l (omega arith) in
    (first, recursion_from_All (λ (m : WrittenRoute). n < m.edge) ls (λ i d within. let r = rise zero (suc i) d (omega arith) (omega (arith, within)) in omega (arith, first, r)))
above (l ∷ ls) rise (suc k) n h =
    above ls (λ i j d less within. rise (suc i) (suc j) d (omega (arith, less)) (omega (arith, within))) k n (λ d within. h d (omega (arith, within)))

-- the lines after one are above it
after : (ls : List WrittenRoute) → AreInOrder ls → (k : ℕ) (d : WrittenRoute) → k < length ls → AreAbove (get_or ls k d).edge (drop (k + 1) ls)
after ls rise k d within = above ls rise (k + 1) (get_or ls k d).edge (λ e more.
    let same = same_Some (get_or ls k e) (get_or ls k d) (sym (slice_get-get_or ls k e within) ∙ slice_get-get_or ls k d within) in
    subst (λ (m : WrittenRoute). m.edge < (get_or ls (k + 1) e).edge) same (rise k (k + 1) e (omega arith) more))

-- what the order of two lines says of them
rank_of : (b l : WrittenRoute) (r : Ordering) → nat_cmp b.edge l.edge ≡ r → MatchOrdering r (b.edge < l.edge) (b.edge ≡ l.edge) (l.edge < b.edge)
rank_of b l r is = subst (λ s. MatchOrdering s (b.edge < l.edge) (b.edge ≡ l.edge) (l.edge < b.edge)) is (ranks b.edge l.edge)

less : (o p : Option WrittenRoute) → order_of o p ≡ Less → (b : WrittenRoute) × (o ≡ Some b) × ((l : WrittenRoute) → p ≡ Some l → b.edge < l.edge)
less None p is = absurd (let h : ⊥ = cc in h)
less (Some b) None is = (b, refl, λ l h. absurd (none-some l h))
less (Some b) (Some l) is = (b, refl, λ m h. subst (λ (k : WrittenRoute). b.edge < k.edge) (same_Some l m h) (rank_of b l Less is))

equal : (o p : Option WrittenRoute) → order_of o p ≡ Equal → (b l : WrittenRoute) × (o ≡ Some b) × (p ≡ Some l) × (b.edge ≡ l.edge)
equal None p is = absurd (let h : ⊥ = cc in h)
equal (Some b) None is = absurd (let h : ⊥ = cc in h)
equal (Some b) (Some l) is = (b, l, refl, refl, rank_of b l Equal is)

greater : (o p : Option WrittenRoute) → order_of o p ≡ Greater → (o ≡ None) ⊎ ((b l : WrittenRoute) × (o ≡ Some b) × (p ≡ Some l) × (l.edge < b.edge))
greater None p is = inl refl
greater (Some b) None is = absurd (let h : ⊥ = cc in h)
greater (Some b) (Some l) is = inr (b, l, refl, refl, rank_of b l Greater is)

-- the places at which lines are
abbrev pub IsOrdered : List WrittenRoute → List WrittenRoute → ℕ → ℕ → Ordering → Type 0
IsOrdered reported lines at place r = order_of (slice_get reported at) (slice_get lines place) ≡ r

pub less_within : (reported lines : List WrittenRoute) (at place : ℕ) → IsOrdered reported lines at place Less → at < length reported
less_within reported lines at place is = let h = less (slice_get reported at) (slice_get lines place) is in slice_get_within reported at h.0 h.1

pub equal_within : (reported lines : List WrittenRoute) (at place : ℕ) → IsOrdered reported lines at place Equal → (at < length reported) × (place < length lines)
equal_within reported lines at place is =
    let h = equal (slice_get reported at) (slice_get lines place) is in
    (slice_get_within reported at h.0 h.2, slice_get_within lines place h.1 h.3)

either_within : (reported lines : List WrittenRoute) (at place : ℕ) (d : WrittenRoute) → slice_get reported at ≡ None → (at < length reported) ⊎ (place < length lines) → place < length lines
either_within reported lines at place d none (inl within) = absurd (none-some (get_or reported at d) (sym none ∙ slice_get-get_or reported at d within))
either_within reported lines at place d none (inr within) = within

pub greater_within : (reported lines : List WrittenRoute) (at place : ℕ) → IsOrdered reported lines at place Greater → (at < length reported) ⊎ (place < length lines) → place < length lines
greater_within reported lines at place is some = elim (greater (slice_get reported at) (slice_get lines place) is) as (λ _. place < length lines) [
  | inl none ↦ either_within reported lines at place (record { edge = 0; points = [] }) none some
  | inr both ↦ slice_get_within lines place both.1 both.3
]

module _ (reported lines : List WrittenRoute) (rise : AreInOrder reported) (lines_rise : AreInOrder lines) (at place : ℕ) (d e : WrittenRoute) where
  abbrev ordered : Ordering → Type 0
  ordered r = IsOrdered reported lines at place r

  abbrev b : WrittenRoute
  b = get_or reported at d

  abbrev l : WrittenRoute
  l = get_or lines place e

  at_b : (c : WrittenRoute) → slice_get reported at ≡ Some c → c ≡ b
  at_b c h = same_Some c b (sym h ∙ slice_get-get_or reported at d (slice_get_within reported at c h))

  at_l : (c : WrittenRoute) → slice_get lines place ≡ Some c → c ≡ l
  at_l c h = same_Some c l (sym h ∙ slice_get-get_or lines place e (slice_get_within lines place c h))

  less_above : ordered Less → AreAbove b.edge (drop place lines)
  less_above is =
      let h = less (slice_get reported at) (slice_get lines place) is in
      above lines lines_rise place b.edge (λ f within. subst (λ (c : WrittenRoute). c.edge < (get_or lines place f).edge) (at_b h.0 h.1) (h.2 (get_or lines place f) (slice_get-get_or lines place f within)))

  went_gone : (changed : List Bool) (gone : List ℕ) → ordered Less → IsPassed reported lines at place changed gone → IsPassed reported lines (at + 1) place changed (gone ++ b.edge ∷ [])
  went_gone changed gone is h =
      let bs = drop (at + 1) reported in let ls = drop place lines in let more = drop_more reported at d (less_within reported lines at place is) in
      record {
        are_changed = ap (λ ts. changed ++ ts) (sym (ap (λ cs. map (is_changed cs) ls) more ∙ changed_past b bs ls (less_above is))) ∙ h.are_changed;
        are_gone = append_assoc gone (b.edge ∷ []) (gone_between bs ls) ∙ ap (λ ts. gone ++ ts) (sym (ap (λ cs. gone_between cs ls) more ∙ gone_first b bs ls (less_above is))) ∙ h.are_gone;
      }

  pub pass_gone : (changed : List Bool) (gone next : List ℕ) → ordered Less → next ≡ gone ++ b.edge ∷ [] → IsPassed reported lines at place changed gone → IsPassed reported lines (at + 1) place changed next
  pass_gone changed gone next is made h = subst (IsPassed reported lines (at + 1) place changed) (sym made) (went_gone changed gone is h)

  equal_edges : ordered Equal → b.edge ≡ l.edge
  equal_edges is =
      let h = equal (slice_get reported at) (slice_get lines place) is in
      ap (λ (c : WrittenRoute). c.edge) (sym (at_b h.0 h.2)) ∙ h.4 ∙ ap (λ (c : WrittenRoute). c.edge) (at_l h.1 h.3)

  went_both : (changed : List Bool) (gone : List ℕ) → ordered Equal → IsPassed reported lines at place changed gone
      → IsPassed reported lines (at + 1) (place + 1) (changed ++ not (are_same_corners b.points l.points) ∷ []) gone
  went_both changed gone is h =
      let bs = drop (at + 1) reported in let ls = drop (place + 1) lines in let within = equal_within reported lines at place is in let same = equal_edges is in
      let b_more = drop_more reported at d within.0 in let l_more = drop_more lines place e within.1 in let t = not (are_same_corners b.points l.points) in
      record {
        are_changed = append_assoc changed (t ∷ []) (map (is_changed bs) ls) ∙ ap (λ ts. changed ++ ts) (sym (ap (λ cs. map (is_changed cs) (drop place lines)) b_more ∙ ap (λ ks. map (is_changed (b ∷ bs)) ks) l_more
            ∙ changed_both b l bs ls same (after lines lines_rise place e within.1))) ∙ h.are_changed;
        are_gone = ap (λ ts. gone ++ ts) (sym (ap (λ cs. gone_between cs (drop place lines)) b_more ∙ ap (λ ks. gone_between (b ∷ bs) ks) l_more
            ∙ gone_both b l bs ls same (after reported rise at d within.0))) ∙ h.are_gone;
      }

  pub pass_both : (changed next : List Bool) (gone : List ℕ) → ordered Equal → next ≡ changed ++ not (are_same_corners b.points l.points) ∷ [] → IsPassed reported lines at place changed gone
      → IsPassed reported lines (at + 1) (place + 1) next gone
  pass_both changed next gone is made h = subst (λ ts. IsPassed reported lines (at + 1) (place + 1) ts gone) (sym made) (went_both changed gone is h)

  greater_above : ordered Greater → AreAbove l.edge (drop at reported)
  greater_above is = above reported rise at l.edge (λ f within. elim (greater (slice_get reported at) (slice_get lines place) is) as (λ _. l.edge < (get_or reported at f).edge) [
    | inl none ↦ absurd (none-some (get_or reported at f) (sym none ∙ slice_get-get_or reported at f within))
    | inr both ↦
        (let is_b = same_Some both.0 (get_or reported at f) (sym both.2 ∙ slice_get-get_or reported at f within) in
        subst (λ (c : WrittenRoute). l.edge < c.edge) is_b (subst (λ (c : WrittenRoute). c.edge < both.0.edge) (at_l both.1 both.3) both.4))
  ])

  went_new : (changed : List Bool) (gone : List ℕ) → ordered Greater → place < length lines → IsPassed reported lines at place changed gone
      → IsPassed reported lines at (place + 1) (changed ++ true ∷ []) gone
  went_new changed gone is within h =
      let bs = drop at reported in let ls = drop (place + 1) lines in let more = drop_more lines place e within in
      record {
        are_changed = append_assoc changed (true ∷ []) (map (is_changed bs) ls) ∙ ap (λ ts. changed ++ ts) (sym (ap (λ ks. map (is_changed bs) ks) more ∙ changed_new l bs ls (greater_above is))) ∙ h.are_changed;
        are_gone = ap (λ ts. gone ++ ts) (sym (ap (λ ks. gone_between bs ks) more ∙ gone_new l bs ls (greater_above is))) ∙ h.are_gone;
      }

  pub pass_new : (changed next : List Bool) (gone : List ℕ) → ordered Greater → place < length lines → next ≡ changed ++ true ∷ [] → IsPassed reported lines at place changed gone
      → IsPassed reported lines at (place + 1) next gone
  pass_new changed next gone is within made h = subst (λ ts. IsPassed reported lines at (place + 1) ts gone) (sym made) (went_new changed gone is within h)

-- at the end, all was found
pub all_passed : (reported lines : List WrittenRoute) (at place : ℕ) (changed : List Bool) (gone : List ℕ) → length reported ≤ at → length lines ≤ place → IsPassed reported lines at place changed gone
    → (changed ≡ map (is_changed reported) lines) × (gone ≡ gone_between reported lines)
all_passed reported lines at place changed gone all_b all_l h =
    let no_b = drop_all at reported all_b in let no_l = drop_all place lines all_l in (
      sym (append-nil changed) ∙ ap (λ ts. changed ++ ts) (sym (ap (λ ks. map (is_changed (drop at reported)) ks) no_l)) ∙ h.are_changed,
      sym (append-nil gone) ∙ ap (λ ts. gone ++ ts) (sym (ap (λ cs. gone_between cs (drop place lines)) no_b)) ∙ h.are_gone,
    )
