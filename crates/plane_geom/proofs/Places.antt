-- Intervals that overlap, by their ends.
use Rattle.std.proofs.Common.{ℕ, suc, ◌*◌, ◌<◌, ℤ, pos, ◌+ℤ◌, ◌*ℤ◌, ◌<ℤ◌, inl, inr, arith}
use Rattle.std.proofs.lemmas.Int.{ints, clamps, by_lt_z}
use Rattle.std.specs.Int.{int_min, int_max}
use Rattle.std.proofs.Math.IntN.{negsuc}
use Rattle.std.proofs.Math.Nat.{lt_of_mul-lt-mul_right}
use Rattle.plane_geom.specs.Rect.{Overlaps}

-- numbers are ordered as their multiples
pub lt_of_scaled : (q : ℕ) (a b : ℤ) → (a *ℤ pos q) <ℤ (b *ℤ pos q) → a <ℤ b
lt_of_scaled q (pos a) (pos b) e = let f : a * q < b * q = omega (arith, ints) in let g : a < b = lt_of_mul-lt-mul_right q f in omega (arith, ints)
lt_of_scaled q (pos a) (negsuc b) e = omega (arith, ints)
lt_of_scaled q (negsuc a) (pos b) e = omega (arith, ints)
lt_of_scaled q (negsuc a) (negsuc b) e = let f : suc b * q < suc a * q = omega (arith, ints) in let g : suc b < suc a = lt_of_mul-lt-mul_right q f in omega (arith, ints)

-- where the two intervals overlap, a place half way between their inner ends is on both
pub halfway : (low high a b : ℤ) → low <ℤ high → int_min a b <ℤ high → low <ℤ int_max a b → Overlaps low high a b
halfway low high a b h f g = record {
  q = 2;
  z = int_max low (int_min a b) +ℤ int_min high (int_max a b);
  divides = omega arith;
  inside = (omega (arith, ints, clamps), omega (arith, ints, clamps));
  within = by_lt_z a b (λ l. inl (omega (arith, ints, clamps), omega (arith, ints, clamps))) (λ l. inr (omega (arith, ints, clamps), omega (arith, ints, clamps)));
}

-- an end of the closed interval stands on each side of the place that the two intervals share
pub overlap_ends : (low high a b : ℤ) → Overlaps low high a b → (low <ℤ high) × (int_min a b <ℤ high) × (low <ℤ int_max a b)
overlap_ends low high a b o =
    let between : low <ℤ high = lt_of_scaled o.q low high (omega (arith, ints)) in
    elim o.within as (λ _. (low <ℤ high) × (int_min a b <ℤ high) × (low <ℤ int_max a b)) [
      | inl w ↦ (let f : a <ℤ high = lt_of_scaled o.q a high (omega (arith, ints)) in
          let g : low <ℤ b = lt_of_scaled o.q low b (omega (arith, ints)) in
          (between, omega (arith, ints, clamps), omega (arith, ints, clamps)))
      | inr w ↦ (let f : b <ℤ high = lt_of_scaled o.q b high (omega (arith, ints)) in
          let g : low <ℤ a = lt_of_scaled o.q low a (omega (arith, ints)) in
          (between, omega (arith, ints, clamps), omega (arith, ints, clamps)))
    ]
