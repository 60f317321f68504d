-- Where one who goes along a whole line reaches extents.
use Rattle.std.proofs.Common.{ℕ, ℤ, pos, negsuc, ◌+◌, ◌<◌, ◌≡◌, ◌↔◌, ◌⊎◌, ◌-ℤ◌, ◌≤ℤ◌, Bool, true, false, cond, List, [], Option, Some, None, IfSome, IsSomeAnd, length, get_or, take, inl, inr, arith}
use Rattle.std.specs.Int.{int_max, int_min}
use Rattle.std.specs.Prelude.{int_lt}
use Rattle.std.proofs.lemmas.Int.{ints, clamps}
use Rattle.plane_geom.specs.declared.point.Dir.{Dir}
use Rattle.plane_geom.specs.declared.point.Dir.TheVariants.{East, South, West, North}
use Rattle.plane_geom.specs.Point.{IsCoordinate}
use Rattle.side_touches.specs.declared.extent.Extent.{Extent}
use Rattle.side_touches.specs.Extents.{IsHull, IsLastPlace, IsMet, begin_in, end_in, joined}
use Rattle.side_touches.proofs.Members.{any_more}

least_of : (t : Bool) (a b at : ℤ) → cond t b a ≤ℤ at → (a ≤ℤ at) ⊎ (b ≤ℤ at)
least_of true a b at h = inr h
least_of false a b at h = inl h

greatest_of : (t : Bool) (a b at : ℤ) → (pos 0 -ℤ cond t a b) ≤ℤ at → ((pos 0 -ℤ a) ≤ℤ at) ⊎ ((pos 0 -ℤ b) ≤ℤ at)
greatest_of true a b at h = inl h
greatest_of false a b at h = inr h

min_upto : (a b at : ℤ) → (int_min a b ≤ℤ at) ↔ ((a ≤ℤ at) ⊎ (b ≤ℤ at))
min_upto a b at = (least_of (int_lt b a) a b at, λ s. elim s [ inl h ↦ omega (arith, ints, clamps) | inr h ↦ omega (arith, ints, clamps) ])

max_upto : (a b at : ℤ) → ((pos 0 -ℤ int_max a b) ≤ℤ at) ↔ (((pos 0 -ℤ a) ≤ℤ at) ⊎ ((pos 0 -ℤ b) ≤ℤ at))
max_upto a b at = (greatest_of (int_lt b a) a b at, λ s. elim s [ inl h ↦ omega (arith, ints, clamps) | inr h ↦ omega (arith, ints, clamps) ])

begin_joined : (d : Dir) (h x : Extent) (at : ℤ) → (begin_in d (joined h x) ≤ℤ at) ↔ ((begin_in d h ≤ℤ at) ⊎ (begin_in d x ≤ℤ at))
begin_joined East h x at = min_upto h.lo x.lo at
begin_joined South h x at = min_upto h.lo x.lo at
begin_joined West h x at = max_upto h.hi x.hi at
begin_joined North h x at = max_upto h.hi x.hi at

pub hull_more : (xs : List Extent) (i : ℕ) (e h : Extent) → i < length xs → IsHull (take i xs) h → IsHull (take (i + 1) xs) (joined h (get_or xs i e))
hull_more xs i e h l before = λ d at ok.
    let more = any_more (λ x. begin_in d x ≤ℤ at) xs i e l in
    let both = begin_joined d h (get_or xs i e) at in
    let old = before d at ok in (
      λ k. more.1 (elim (both.0 k) [ inl b ↦ inl (old.0 b) | inr b ↦ inr b ]),
      λ a. both.1 (elim (more.0 a) [ inl b ↦ inl (old.1 b) | inr b ↦ inr b ]),
    )

nothing_begins : (d : Dir) (h : Extent) (at : ℤ) → h.lo ≡ pos 9223372036854775807 → h.hi ≡ negsuc 9223372036854775807 → IsCoordinate at → begin_in d h ≤ℤ at → ⊥
nothing_begins East h at lo hi ok k = omega (arith, ints)
nothing_begins South h at lo hi ok k = omega (arith, ints)
nothing_begins West h at lo hi ok k = omega (arith, ints)
nothing_begins North h at lo hi ok k = omega (arith, ints)

pub hull_none : (h : Extent) → h.lo ≡ pos 9223372036854775807 → h.hi ≡ negsuc 9223372036854775807 → IsHull [] h
hull_none h lo hi = λ d at ok. (λ k. absurd (nothing_begins d h at lo hi ok k), λ a. absurd (omega (arith, a.2)))

pub no_place : (d : Dir) (at : ℤ) → IsLastPlace d at [] None
no_place d at = record { met = λ from h. (λ a. absurd (omega (arith, a.2)), λ n. absurd n); within = tt }

last_within : (r : Option ℤ) (at z : ℤ) → IfSome r (λ l. l ≤ℤ at) → IsSomeAnd r (λ l. z ≤ℤ l) → z ≤ℤ at
last_within None at z w h = absurd h
last_within (Some l) at z w h = omega (arith, ints)

-- an extent to which one comes: the greatest end so far
pub place_more : (d : Dir) (at : ℤ) (xs : List Extent) (i : ℕ) (e : Extent) (r : Option ℤ) (end z : ℤ) → i < length xs → IsLastPlace d at (take i xs) r → begin_in d (get_or xs i e) ≤ℤ at →
    end ≡ int_min (end_in d (get_or xs i e)) at → ((y : ℤ) → (y ≤ℤ z) ↔ (IsSomeAnd r (λ l. y ≤ℤ l) ⊎ (y ≤ℤ end))) → IsLastPlace d at (take (i + 1) xs) (Some z)
place_more d at xs i e r end z l before begins is best = record {
  met = λ from h.
      let more = any_more (IsMet d from at) xs i e l in
      let old = before.met from h in (
        λ a. (best from).1 (elim (more.0 a) [
          | inl b ↦ inl (old.0 b)
          | inr b ↦ inr (let k = b.ends in omega (arith, ints, clamps))
        ]),
        λ k. more.1 (elim ((best from).0 k) [
          | inl b ↦ inl (old.1 b)
          | inr b ↦ inr (record { begins = begins; ends = omega (arith, ints, clamps) })
        ]),
      );
  within = elim ((best z).0 (omega (arith, ints))) [
    | inl b ↦ last_within r at z before.within b
    | inr b ↦ omega (arith, ints, clamps)
  ];
}

-- an extent to which one does not come
pub place_same : (d : Dir) (at : ℤ) (xs : List Extent) (i : ℕ) (e : Extent) (r : Option ℤ) → i < length xs → IsLastPlace d at (take i xs) r → (begin_in d (get_or xs i e) ≤ℤ at → ⊥) → IsLastPlace d at (take (i + 1) xs) r
place_same d at xs i e r l before beyond = record {
  met = λ from h.
      let more = any_more (IsMet d from at) xs i e l in
      let old = before.met from h in (
        λ a. elim (more.0 a) [ inl b ↦ old.0 b | inr b ↦ absurd (beyond b.begins) ],
        λ k. more.1 (inl (old.1 k)),
      );
  within = before.within;
}
