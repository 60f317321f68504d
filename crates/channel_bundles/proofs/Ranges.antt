-- Coordinates from a lower limit to an upper one.
use Rattle.std.proofs.Common.{◌≡◌, ◌↔◌, ℕ, ◌+◌, ◌<◌, ℤ, ◌≤ℤ◌, ◌<ℤ◌, List, length, get_or, sym, subst, arith}
use Rattle.std.specs.Int.{int_min, int_max}
use Rattle.std.proofs.lemmas.Int.{ints, clamps, by_lt_z}
use Rattle.std.proofs.lemmas.List.{get_or_default}
use Rattle.plane_geom.specs.Rect.{Overlaps}
use Rattle.plane_geom.proofs.Places.{halfway, overlap_ends}
use Rattle.channel_bundles.specs.Limits.{IsFromTo}
use Rattle.channel_bundles.proofs.Trees.{cases_same}

pub raised : (low high at m z : ℤ) → m ≡ int_max low at → IsFromTo m high z ↔ (IsFromTo low high z × (at ≤ℤ z))
raised low high at m z is = (
  λ f. ((omega (arith, ints, clamps, is, f.0), f.1), omega (arith, ints, clamps, is, f.0)),
  λ both. (omega (arith, ints, clamps, is, both.0.0, both.1), both.0.1),
)

pub lowered : (low high at m z : ℤ) → m ≡ int_min high at → IsFromTo low m z ↔ (IsFromTo low high z × (z ≤ℤ at))
lowered low high at m z is = (
  λ f. ((f.0, omega (arith, ints, clamps, is, f.1)), omega (arith, ints, clamps, is, f.1)),
  λ both. (both.0.0, omega (arith, ints, clamps, is, both.0.1, both.1)),
)

-- the second condition may be replaced by an equivalent one
pub same_when : {A B C D : Type 0} → (A ↔ (B × C)) → (B → C ↔ D) → A ↔ (B × D)
same_when {A} {B} {C} {D} is same = (λ a. let both = is.0 a in (both.0, (same both.0).0 both.1), λ both. is.1 (both.0, (same both.0).1 both.1))

-- to the right of an open interval nothing but a way back to its end leads into it
pub beside_right : (low high at z : ℤ) → low <ℤ high → high ≤ℤ at → (high ≤ℤ z) ↔ (Overlaps low high at z → ⊥)
beside_right low high at z wide right = (
  λ h o. let e = overlap_ends low high at z o in absurd (omega (arith, ints, clamps, e.1, h, right)),
  λ clear. by_lt_z z high
      (λ before. absurd (clear (halfway low high at z wide (omega (arith, ints, clamps, before)) (omega (arith, ints, clamps, wide, right)))))
      (λ h. h),
)

pub beside_left : (low high at z : ℤ) → low <ℤ high → at ≤ℤ low → (z ≤ℤ low) ↔ (Overlaps low high at z → ⊥)
beside_left low high at z wide left = (
  λ h o. let e = overlap_ends low high at z o in absurd (omega (arith, ints, clamps, e.2, h, left)),
  λ clear. by_lt_z low z
      (λ behind. absurd (clear (halfway low high at z wide (omega (arith, ints, clamps, wide, left)) (omega (arith, ints, clamps, behind)))))
      (λ h. h),
)

-- what lies in no part of an open interval lies on one side of it
pub on_left : (low high at : ℤ) → low <ℤ high → at <ℤ high → (Overlaps low high at at → ⊥) → at ≤ℤ low
on_left low high at wide before clear = by_lt_z low at
    (λ behind. absurd (clear (halfway low high at at wide (omega (arith, ints, clamps, before)) (omega (arith, ints, clamps, behind)))))
    (λ h. h)

pub along_ends : (start end lo hi : ℤ) → start <ℤ end → lo ≤ℤ hi → ((lo <ℤ end) × (start <ℤ hi)) ↔ Overlaps start end lo hi
along_ends start end lo hi wide ordered = (
  λ ends. halfway start end lo hi wide (omega (arith, ints, clamps, ends.0)) (omega (arith, ints, clamps, ends.1)),
  λ o. let e = overlap_ends start end lo hi o in (omega (arith, ints, clamps, e.1, ordered), omega (arith, ints, clamps, e.2, ordered)),
)

-- what holds of all elements before an index, and of that at the index, holds of all before the next one
pub below_next : {X : Type 0} (P : X → Type 0) (xs : List X) (i : ℕ) (e : X) → i < length xs → ((k : ℕ) (d : X) → k < i → P (get_or xs k d)) → P (get_or xs i e) → (k : ℕ) (d : X) → k < i + 1 → P (get_or xs k d)
below_next {X} P xs i e h before here k d below = cases_same k i
    (λ now. subst (λ n. P (get_or xs n d)) (sym now) (subst P (get_or_default xs i e d h) here))
    (λ ne. before k d (omega arith))

-- the next element's own condition goes to those of the elements before
pub more : {A N B R : Type 0} {X : Type 0} (P : X → Type 0) (xs : List X) (i : ℕ) (e : X) → i < length xs → (N ↔ (A × R)) → (A ↔ (B × ((k : ℕ) (d : X) → k < i → P (get_or xs k d)))) → (R ↔ P (get_or xs i e)) →
    N ↔ (B × ((k : ℕ) (d : X) → k < i + 1 → P (get_or xs k d)))
more {A} {N} {B} {R} {X} P xs i e h new old same = (
  λ n. let both = new.0 n in let was = old.0 both.0 in (was.0, below_next P xs i e h was.1 (same.0 both.1)),
  λ all. new.1 (old.1 (all.0, λ k d below. all.1 k d (omega arith)), same.1 (all.1 i e (omega arith))),
)
