-- The size of places, and when a link is tight.
use Rattle.std.proofs.Common.{◌≡◌, ℕ, ◌^◌, ◌≤◌, ℤ, pos, ◌-ℤ◌, ◌*ℤ◌, unsigned_abs, FitsSigned, IsTrue, ◌↔◌, nat_eq, List, arith, ap, sym, ◌∙◌, to_z, of_z, w64, to_z-of_z, lit<, eqb-true, eq-eqb}
use mir.Syntax.{w128, Width}
use Rattle.std.proofs.lemmas.Int.{ints, fits_signed_mul, fits_signed_from_abs}
use Rattle.plane_geom.specs.Point.{IsCoordinate}
use Rattle.separation_solve.specs.declared.fraction.Fraction.{Fraction}
use Rattle.separation_solve.specs.declared.network.Link.{Link}
use Rattle.separation_solve.specs.declared.network.Network.{Network}
use Rattle.separation_model.proofs.Arithmetic.Bits.{same_bits}
use Rattle.separation_solve.specs.Network.{IsFrame, IsSpot, IsTight, AreKept, items_of, place_at}

-- the numerator of a place fits by far
pub spot_num : (p : Fraction) → IsSpot p → unsigned_abs p.num ≤ 6800000000000000000
spot_num p s = omega (arith, ints, s.light, s.within.low, s.within.high)

pub coordinate_size : (z : ℤ) → IsCoordinate z → unsigned_abs z ≤ 2000000000
coordinate_size z c = omega (arith, ints, c.low, c.high)

pub bits_same : (w : Width) (a b : ℤ) → a ≡ b → IsTrue (nat_eq (of_z w a) (of_z w b))
bits_same w a b e = eq-eqb (of_z w a) (of_z w b) (ap (of_z w) e)

pub spot_at : (n : Network) (i : ℕ) → IsFrame n → AreKept n → i ≤ items_of n → IsSpot (place_at n.places.items i)
spot_at n i frame kept h = kept.spots i (omega (arith, frame.places))

pub apart_fits : (a b : Fraction) → IsSpot a → IsSpot b → FitsSigned w128 (b.num -ℤ a.num)
apart_fits a b s t = fits_signed_from_abs w128 (b.num -ℤ a.num) (omega (arith, ints, spot_num a s, spot_num b t, lit< {m = 13600000000000000000} {n = 2 ^ 127} tt))

pub gap_fits : (gap : ℤ) (p : Fraction) → IsCoordinate gap → IsSpot p → FitsSigned w128 (gap *ℤ pos p.den)
gap_fits gap p c s = fits_signed_mul w128 gap (pos p.den) 2000000000 3400000000 (coordinate_size gap c) (omega (arith, ints, s.light)) (lit< tt)

pub num_fits : (p : Fraction) → IsSpot p → FitsSigned w128 p.num
num_fits p s = fits_signed_from_abs w128 p.num (omega (arith, spot_num p s, lit< {m = 6800000000000000000} {n = 2 ^ 127} tt))

-- the consequence of the test of two places
pub tight_test : (places : List Fraction) (link : Link) (a b : Fraction) → a ≡ place_at places link.from → b ≡ place_at places link.to → IsSpot a → IsSpot b → IsCoordinate link.gap → a.den ≡ b.den →
    IsTrue (nat_eq (of_z w128 (b.num -ℤ a.num)) (of_z w128 (link.gap *ℤ pos a.den))) ↔ IsTight places link
tight_test places link a b is_a is_b s t c same =
    let fits = apart_fits a b s t in
    let gap = gap_fits link.gap a c s in
    let a_num : a.num ≡ (place_at places link.from).num = ap (λ p. p.num) is_a in
    let a_den : a.den ≡ (place_at places link.from).den = ap (λ p. p.den) is_a in
    let b_num : b.num ≡ (place_at places link.to).num = ap (λ p. p.num) is_b in
    let b_den : b.den ≡ (place_at places link.to).den = ap (λ p. p.den) is_b in (
      λ test. record {
        den = sym a_den ∙ same ∙ b_den;
        apart = rw (← a_num, ← b_num, ← a_den) (same_bits w128 (b.num -ℤ a.num) (link.gap *ℤ pos a.den) fits gap (eqb-true _ _ test));
      },
      λ tight. bits_same w128 (b.num -ℤ a.num) (link.gap *ℤ pos a.den) (rw (a_num, b_num, a_den) tight.apart),
    )

pub gap_narrow : (gap : ℤ) → IsCoordinate gap → FitsSigned w64 gap
gap_narrow gap c = fits_signed_from_abs w64 gap (omega (arith, coordinate_size gap c, lit< {m = 2000000000} {n = 2 ^ 63} tt))

-- a number that was cast, where it fits
pub cast_is : (w : Width) (x a : ℤ) → x ≡ a → FitsSigned w a → to_z w (of_z w x) ≡ a
cast_is w x a e f = ap (λ z. to_z w (of_z w z)) e ∙ to_z-of_z f

pub gap_wide : (gap : ℤ) → IsCoordinate gap → FitsSigned w128 gap
gap_wide gap c = fits_signed_from_abs w128 gap (omega (arith, coordinate_size gap c, lit< {m = 2000000000} {n = 2 ^ 127} tt))

pub den_wide : (p : Fraction) → IsSpot p → FitsSigned w128 (pos p.den)
den_wide p s = fits_signed_from_abs w128 (pos p.den) (omega (arith, s.light, lit< {m = 3400000000} {n = 2 ^ 127} tt))
