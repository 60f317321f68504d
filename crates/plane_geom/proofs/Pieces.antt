-- Two longest free pieces of one whole line share no point.
use Rattle.std.proofs.Common.{◌≡◌, ◌⊎◌, ℤ, ◌≤ℤ◌, refl, sym, ap, ◌∙◌, inl, inr, get_or, arith, subst}
use Rattle.std.proofs.lemmas.Int.{ints, clamps, by_lt_z}
use Rattle.std.specs.Int.{int_min, int_max}
use Rattle.plane_geom.specs.declared.point.Point.{Point}
use Rattle.plane_geom.specs.declared.point.Way.{Way}
use Rattle.plane_geom.specs.declared.point.Way.TheVariants.{Vertical, Horizontal}
use Rattle.plane_geom.specs.declared.rect.Rect.{Rect}
use Rattle.plane_geom.specs.declared.floor.Line.{Line}
use Rattle.plane_geom.specs.declared.floor.Floor.{Floor}
use Rattle.plane_geom.specs.Rect.{Meets, Overlaps}
use Rattle.plane_geom.specs.Floor.{point_on, Holds, AreOnOneWholeLine, IsFreePiece, IsLongestFreePiece}
use Rattle.plane_geom.proofs.Places.{halfway, overlap_ends}

-- what overlaps two intervals with a common place overlaps one of them
pub overlap_part : (low high a b c d z : ℤ) → a ≤ℤ z → z ≤ℤ b → c ≤ℤ z → z ≤ℤ d → Overlaps low high (int_min a c) (int_max b d) → Overlaps low high a b ⊎ Overlaps low high c d
overlap_part low high a b c d z h i j k o =
    let e = overlap_ends _ _ _ _ o in
    by_lt_z low b
    (λ right. by_lt_z a high
    (λ left. inl (halfway low high a b e.0 (omega (arith, ints, clamps)) (omega (arith, ints, clamps))))
    (λ left. inr (halfway low high c d e.0 (omega (arith, ints, clamps, e.1)) (omega (arith, ints, clamps, e.0)))))
    (λ right. inr (halfway low high c d e.0 (omega (arith, ints, clamps, e.0)) (omega (arith, ints, clamps, e.2))))

-- what overlaps an interval between two moved ends overlaps the way of one of them, or the interval between the old ends
pub covered : (low high u v p q : ℤ) → Overlaps low high p q → Overlaps low high u p ⊎ (Overlaps low high u v ⊎ Overlaps low high v q)
covered low high u v p q o =
    let e = overlap_ends _ _ _ _ o in
    by_lt_z (int_min u p) high
    (λ a. by_lt_z low (int_max u p)
    (λ b. inl (halfway low high u p e.0 a b))
    (λ b. by_lt_z low (int_max u v)
    (λ c. inr (inl (halfway low high u v e.0 (omega (arith, ints, clamps, e.0, b)) c)))
    (λ c. inr (inr (halfway low high v q e.0 (omega (arith, ints, clamps, e.0, b, c)) (omega (arith, ints, clamps, e.2, b, c)))))))
    (λ a. by_lt_z (int_min u v) high
    (λ b. inr (inl (halfway low high u v e.0 b (omega (arith, ints, clamps, e.0, a)))))
    (λ b. inr (inr (halfway low high v q e.0 (omega (arith, ints, clamps, e.1, a, b)) (omega (arith, ints, clamps, e.0, a, b))))))

-- two free pieces with a common point are free together
joined_free : (r : Rect) (way : Way) (at a b c d z : ℤ) → a ≤ℤ z → z ≤ℤ b → c ≤ℤ z → z ≤ℤ d →
    (Meets r (point_on way at a) (point_on way at b) → ⊥) → (Meets r (point_on way at c) (point_on way at d) → ⊥) →
    Meets r (point_on way at (int_min a c)) (point_on way at (int_max b d)) → ⊥
joined_free r Vertical at a b c d z h i j k f g m =
    elim (overlap_part r.top r.bottom a b c d z h i j k m.y) as (λ _. ⊥)
    [ inl o ↦ f (record { x = m.x; y = o }) | inr o ↦ g (record { x = m.x; y = o }) ]
joined_free r Horizontal at a b c d z h i j k f g m =
    elim (overlap_part r.left r.right a b c d z h i j k m.x) as (λ _. ⊥)
    [ inl o ↦ f (record { x = o; y = m.y }) | inr o ↦ g (record { x = o; y = m.y }) ]

-- from the lesser begin to the greater end
joined : Line → Line → Line
joined l m = record { way = l.way; at = l.at; lo = int_min l.lo m.lo; hi = int_max l.hi m.hi }

place_of : (way : Way) (at y z : ℤ) → point_on way at y ≡ point_on way at z → y ≡ z
place_of Vertical at y z e = ap (λ (p : Point). p.y) e
place_of Horizontal at y z e = ap (λ (p : Point). p.x) e

joined_piece : (floor : Floor) (l m : Line) (z : ℤ) → IsFreePiece floor l → IsFreePiece floor m → AreOnOneWholeLine l m →
    l.lo ≤ℤ z → z ≤ℤ l.hi → m.lo ≤ℤ z → z ≤ℤ m.hi → IsFreePiece floor (joined l m)
unfolding joined
joined_piece floor l m z f g o h i j k = record {
  at = f.at;
  lo = record { low = omega (arith, ints, clamps, f.lo.low, g.lo.low); high = omega (arith, ints, clamps, f.lo.high, g.lo.high) };
  hi = record { low = omega (arith, ints, clamps, f.hi.low, g.hi.low); high = omega (arith, ints, clamps, f.hi.high, g.hi.high) };
  ordered = omega (arith, ints, clamps);
  free = λ n s inside.
      let r = (get_or floor.solids n s).rect in
      let there : Meets r (point_on l.way l.at m.lo) (point_on l.way l.at m.hi) → ⊥ =
      subst (λ (w : Way). Meets r (point_on w l.at m.lo) (point_on w l.at m.hi) → ⊥) (sym o.way)
      (subst (λ (a : ℤ). Meets r (point_on m.way a m.lo) (point_on m.way a m.hi) → ⊥) (sym o.at) (g.free n s inside)) in
      joined_free r l.way l.at l.lo l.hi m.lo m.hi z h i j k (f.free n s inside) there;
}

-- two longest free pieces of one whole line that share a point are one
pub longest_apart : (floor : Floor) (l m : Line) (p : Point) → IsLongestFreePiece floor l → IsLongestFreePiece floor m → AreOnOneWholeLine l m → Holds l p → Holds m p → l ≡ m
unfolding joined
longest_apart floor l m p f g o h k =
    let same : h.along ≡ k.along = place_of l.way l.at h.along k.along
    (sym h.here ∙ k.here ∙ ap (λ (a : ℤ). point_on m.way a k.along) (sym o.at) ∙ ap (λ (w : Way). point_on w l.at k.along) (sym o.way)) in
    let piece = joined_piece floor l m h.along f.piece g.piece o h.from h.to (omega (arith, ints, k.from)) (omega (arith, ints, k.to)) in
    sym (f.longest (joined l m) piece (record { way = refl; at = refl }) (omega (arith, ints, clamps)) (omega (arith, ints, clamps)))
    ∙ g.longest (joined l m) piece (record { way = sym o.way; at = sym o.at }) (omega (arith, ints, clamps)) (omega (arith, ints, clamps))
