-- A widest gap: for each gap some positions meet it or none do, and there are finitely many.
use Rattle.std.proofs.Common.{◌≡◌, ◌⊎◌, inl, inr, ℕ, zero, suc, ◌+◌, ◌-◌, ◌<◌, ◌≤◌, ℤ, pos, ◌-ℤ◌, ◌≤ℤ◌, List, length, map, set, subst, refl, ⊎_elim, arith}
use Rattle.std.proofs.lemmas.Int.{by_lt_z, ints}
use Rattle.separation_model.specs.declared.bundle.Item.{Item}
use Rattle.separation_model.specs.declared.bundle.Rule.{Rule}
use Rattle.separation_model.specs.declared.bundle.Bundle.{Bundle}
use Rattle.separation_model.specs.Bundle.{IsBundle, item_at, rule_at, int_at, asked}
use Rattle.separation_model.specs.Gap.{HasPositions, IsWidestGap}
use Rattle.separation_model.specs.Latest.{HasNoPositions}
use Rattle.separation_model.proofs.Arithmetic.Order.{le_both, nonneg_is}
use Rattle.separation_model.proofs.Arithmetic.Sorting.{ordered}
use Rattle.separation_model.proofs.Gaps.Bounds.{IsBound, IsByLeft, bound_none, bound_kept, bound_moved, bound_all, no_room}
use Rattle.separation_model.proofs.Gaps.Widest.{IsBetween, between_none, between_met, between_unmet, between_all}

-- either no fractions meet the bundle, or there are places that hold the rules from the j-th on, and none stand right of them
abbrev IsTaken : Bundle → ℤ → List Rule → ℕ → Type 0
IsTaken b gap rs j = HasNoPositions b gap ⊎ ((places : List ℤ) × IsBound b gap rs j places)

-- one rule more
take_rule : (b : Bundle) (gap : ℤ) (rs : List Rule) (j : ℕ) → IsBundle b → IsByLeft b rs → j < length rs → IsTaken b gap rs (j + 1) → IsTaken b gap rs j
take_rule b gap rs j ok by l =
    let left = (rule_at rs j).left in
    ⊎_elim inl (λ last.
    let places = last.0 in
    let most = int_at places (rule_at rs j).right -ℤ asked gap (rule_at rs j) in
    by_lt_z {P = IsTaken b gap rs j} most (item_at b.items.items left).lo
    (λ below. inl (no_room b gap rs j places ok by l last.1 below))
    (λ low. by_lt_z {P = IsTaken b gap rs j} most (int_at places left)
    (λ ahead. inr (set places left most, bound_moved b gap rs j places most ok by l last.1 refl low ahead))
    (λ held. inr (places, bound_kept b gap rs j places last.1 held))))

-- the last k rules
take_rules : (b : Bundle) (gap : ℤ) (rs : List Rule) (k : ℕ) → IsBundle b → IsByLeft b rs → k ≤ length rs → IsTaken b gap rs (length rs - k)
take_rules b gap rs zero ok by l =
    let places = map (λ (item : Item). item.hi) b.items.items in
    inr (places, subst (λ j. IsBound b gap rs j places) (omega arith) (bound_none b gap rs places ok refl))
take_rules b gap rs (suc k) ok by l =
    let j = length rs - suc k in
    let next : length rs - k ≡ j + 1 = omega (arith, l) in
    take_rule b gap rs j ok by (omega (arith, l)) (subst (IsTaken b gap rs) next (take_rules b gap rs k ok by (omega (arith, l))))

-- whether some positions meet the bundle with the gap
room_or_none : (b : Bundle) (gap : ℤ) → IsBundle b → HasPositions b gap ⊎ HasNoPositions b gap
room_or_none b gap ok =
    let order = ordered (λ (r : Rule). r.left) b.rules.items in
    let rs = order.0 in
    let by : IsByLeft b rs = record { same = order.1.same; sorted = order.1.sorted } in
    ⊎_elim inr
    (λ last. inl (record { places = last.0; meets = (bound_all b gap rs last.0 ok by (subst (λ j. IsBound b gap rs j last.0) (omega arith) last.1)).meets }))
    (take_rules b gap rs (length rs) ok by (omega arith))

-- the widest gap of those that are left, sought downwards one at a time
widest_below : (b : Bundle) (k : ℕ) → IsBundle b → IsBetween b (pos 0) (pos (suc k)) → (gap : ℤ) × IsWidestGap b gap
widest_below b zero ok h = (pos 0, between_all b (pos 0) (pos 1) h (omega (arith, ints)))
widest_below b (suc k) ok h =
    let middle = pos (suc k) in
    ⊎_elim
    (λ positions. (middle, between_all b middle (pos (suc (suc k))) (between_met b (pos 0) (pos (suc (suc k))) middle h (omega (arith, ints)) (omega (arith, ints)) positions) (omega (arith, ints))))
    (λ none. widest_below b k ok (between_unmet b (pos 0) (pos (suc (suc k))) middle h (omega (arith, ints)) (omega (arith, ints)) none))
    (room_or_none b middle ok)

pub widest_exists : (b : Bundle) → IsBundle b → (gap : ℤ) × IsWidestGap b gap
widest_exists b ok =
    let wanted = nonneg_is b.wanted ok.wanted_low in
    widest_below b wanted.0 ok (between_none b (pos 0) (pos (suc wanted.0)) ok refl (omega (arith, ints, wanted.1)))

not_wider : (b : Bundle) (gap other : ℤ) → IsWidestGap b gap → IsWidestGap b other → other ≤ℤ gap
not_wider b gap other h k = by_lt_z {P = other ≤ℤ gap} gap other (λ wider. absurd (h.widest other _ k.positions.places wider k.high k.positions.meets)) (λ le. le)

pub one_widest : (b : Bundle) (gap other : ℤ) → IsWidestGap b gap → IsWidestGap b other → gap ≡ other
one_widest b gap other h k = le_both gap other (not_wider b other gap k h) (not_wider b gap other h k)
