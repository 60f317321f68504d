-- Where the next flow is to start.
use Rattle.std.proofs.Common.{unsigned_abs, ◌≡◌, ◌<◌, ℤ, pos, neg_ℤ, ◌≤ℤ◌, ◌<ℤ◌, All, List, map, length, arith, ap, ◌∙◌}
use Rattle.std.proofs.lemmas.Int.{ints}
use Rattle.std.proofs.lemmas.List.{length-map}
use Rattle.std.proofs.lemmas.List.Elements.{All-get_or, All-from_get_or}
use Rattle.separation_model.specs.Bundle.{int_at}
use Rattle.separation_solve.proofs.Networks.Mirrored.{int_at-negated}

-- numbers that are not below 0, nor their negations
pub all_zero : (zs ys : List ℤ) → ys ≡ map neg_ℤ zs → All (λ z. pos 0 ≤ℤ z) zs → All (λ z. pos 0 ≤ℤ z) ys → All (λ z. z ≡ pos 0) ys
all_zero zs ys e up down =
    All-from_get_or (λ z. z ≡ pos 0) ys (pos 0) (λ i h.
    let was = All-get_or (λ z. pos 0 ≤ℤ z) zs i (pos 0) (omega (arith, h, ap length e, length-map zs neg_ℤ)) up in
    let is : int_at ys i ≡ neg_ℤ (int_at zs i) = ap (λ l. int_at l i) e ∙ int_at-negated zs i in
    let now = All-get_or (λ z. pos 0 ≤ℤ z) ys i (pos 0) h down in
    omega (arith, ints, was, is, now))

pub fewer : (t u v : ℤ) → pos 0 ≤ℤ t → t <ℤ u → u ≡ v → unsigned_abs t < unsigned_abs v
fewer t u v sign less e = omega (arith, ints)
