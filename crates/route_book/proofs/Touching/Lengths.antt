-- The shortest way by a rectangle, leg by leg.
use Rattle.std.proofs.Common.{◌≡◌, ℕ, ◌+◌, ◌-◌, ◌<◌, ◌≤◌, min, List, [], ◌∷◌, ◌++◌, length, take, drop, get_or, refl, sym, ap, subst, ◌∙◌, inl, inr, arith}
use Rattle.std.specs.Prelude.{ℤ, unsigned_abs}
use Rattle.std.proofs.lemmas.Bool.{cases_lt}
use Rattle.std.proofs.lemmas.Int.{ints}
use Rattle.std.proofs.lemmas.List.{take_all}
use Rattle.plane_geom.specs.declared.point.Point.{Point}
use Rattle.plane_geom.specs.declared.rect.Rect.{Rect}
use Rattle.plane_geom.specs.Point.{PointIsOnSheet, distance}
use Rattle.plane_geom.specs.Rect.{HasWithin, IsLeastThrough}
use Rattle.plane_geom.proofs.Signed.{distance_bound}
use Rattle.scene_model.specs.Stale.{way_length, IsLengthBy}
use Rattle.route_book.specs.Reach.{IsBox, IsShortestBy}

-- on its first leg no way by the rectangle is shorter than this
first_leg : (r : Rect) (a b : Point) (z : ℤ) (w m : ℕ) (other : Point) → IsLeastThrough r a b z → HasWithin r other → m ≡ distance a other + distance other b + w → unsigned_abs z + w ≤ m
first_leg r a b z w m other h within e =
    let l = h.least other within in
    let reached = h.reached in
    omega (arith, ints, e, l, reached)

least_one : (r : Rect) (a b : Point) (z : ℤ) (other : Point) (m : ℕ) → IsLeastThrough r a b z → HasWithin r other → IsLengthBy other a (b ∷ []) m → unsigned_abs z ≤ m
least_one r a b z other m h within (inl e) = let l = first_leg r a b z 0 m other h within e in omega (arith, l)
least_one r a b z other m h within (inr x) = absurd x.1

pub one_leg : (r : Rect) (a b : Point) (z : ℤ) → IsLeastThrough r a b z → IsShortestBy r a (b ∷ []) (unsigned_abs z)
one_leg r a b z h = record {
  by = h.through;
  within = h.within;
  is_length = inl (let reached = h.reached in omega (arith, ints, reached));
  least = λ other m within way. least_one r a b z other m h within way;
}

least_more : (r : Rect) (p q : Point) (qs : List Point) (z : ℤ) (n : ℕ) (other : Point) (m : ℕ) → IsLeastThrough r p q z → IsShortestBy r q qs n → HasWithin r other → IsLengthBy other p (q ∷ qs) m
    → min (unsigned_abs z + way_length q qs) (distance p q + n) ≤ m
least_more r p q qs z n other m h rest within (inl e) = let l = first_leg r p q z (way_length q qs) m other h within e in omega (arith, l)
least_more r p q qs z n other m h rest within (inr x) = let l = rest.least other x.0 within x.1 in let e = x.2 in omega (arith, l, e)

-- on its first leg, or on one of the others
pub more_legs : (r : Rect) (p q : Point) (qs : List Point) (z : ℤ) (n : ℕ) → IsLeastThrough r p q z → IsShortestBy r q qs n → IsShortestBy r p (q ∷ qs) (min (unsigned_abs z + way_length q qs) (distance p q + n))
more_legs r p q qs z n h rest =
    elim (cases_lt (unsigned_abs z + way_length q qs) (distance p q + n)) as (λ _. IsShortestBy r p (q ∷ qs) (min (unsigned_abs z + way_length q qs) (distance p q + n))) [
      | inl l ↦ record {
        by = h.through;
        within = h.within;
        is_length = inl (let reached = h.reached in omega (arith, ints, reached, l));
        least = λ other m within way. least_more r p q qs z n other m h rest within way;
      }
      | inr l ↦ record {
        by = rest.by;
        within = rest.within;
        is_length = inr (n, rest.is_length, omega (arith, l));
        least = λ other m within way. least_more r p q qs z n other m h rest within way;
      }
    ]

-- the first of some points, and the others
pub first_and_rest : (ps : List Point) (d : Point) → 1 ≤ length ps → ps ≡ get_or ps 0 d ∷ take (length ps - 1) (drop 1 ps)
first_and_rest [] d l = absurd (omega (arith, l))
first_and_rest (p ∷ ps) d l = ap (λ qs. p ∷ qs) (sym (take_all (length (p ∷ ps) - 1) ps (omega arith)))

pub no_points : (ps : List Point) → length ps < 1 → ps ≡ []
no_points [] l = refl
no_points (p ∷ ps) l = absurd (omega (arith, l))

-- the last leg alone
pub last_by : (r : Rect) (p to : Point) (ps : List Point) (z : ℤ) (n : ℕ) → length ps < 1 → IsLeastThrough r p to z → n ≡ unsigned_abs z → IsShortestBy r p (ps ++ to ∷ []) n
last_by r p to ps z n l h is =
    subst (λ qs. IsShortestBy r p (qs ++ to ∷ []) n) (sym (no_points ps l)) (subst (IsShortestBy r p (to ∷ [])) (sym is) (one_leg r p to z h))

-- a leg, and the others
pub leg_by : (r : Rect) (p to d : Point) (ps : List Point) (z : ℤ) (across straight step by n : ℕ) → 1 ≤ length ps → IsLeastThrough r p (get_or ps 0 d) z → across ≡ unsigned_abs z
    → straight ≡ way_length (get_or ps 0 d) (take (length ps - 1) (drop 1 ps) ++ to ∷ []) → step ≡ distance p (get_or ps 0 d)
    → IsShortestBy r (get_or ps 0 d) (take (length ps - 1) (drop 1 ps) ++ to ∷ []) by → n ≡ min (across + straight) (step + by) → IsShortestBy r p (ps ++ to ∷ []) n
leg_by r p to d ps z across straight step by n l h a s t rest is =
    let q = get_or ps 0 d in
    let qs = take (length ps - 1) (drop 1 ps) ++ to ∷ [] in
    let m : n ≡ min (unsigned_abs z + way_length q qs) (distance p q + by) = is ∙ (λ i. min (a i + s i) (t i + by)) in
    subst (λ (xs : List Point). IsShortestBy r p (xs ++ to ∷ []) n) (sym (first_and_rest ps d l)) (subst (IsShortestBy r p (q ∷ qs)) (sym m) (more_legs r p q qs z by h rest))

-- how long a way may be
pub through_bound : (r : Rect) (a b : Point) (z : ℤ) → IsBox r → PointIsOnSheet a → PointIsOnSheet b → IsLeastThrough r a b z → unsigned_abs z ≤ 16000000000
through_bound r a b z box from to h =
    let p = h.through in
    let on : PointIsOnSheet p = record {
      x = record { low = omega (arith, ints, box.on_sheet.left.low, h.within.left); high = omega (arith, ints, box.on_sheet.right.high, h.within.right) };
      y = record { low = omega (arith, ints, box.on_sheet.top.low, h.within.top); high = omega (arith, ints, box.on_sheet.bottom.high, h.within.bottom) };
    } in
    omega (arith, ints, h.reached, distance_bound a p from on, distance_bound p b on to)

pub rest_length : (ps : List Point) (d : Point) → 1 ≤ length ps → length ps ≡ length (take (length ps - 1) (drop 1 ps)) + 1
rest_length ps d l = let e = ap length (first_and_rest ps d l) in omega (arith, e)
