-- How far apart two positions stand, from their whole parts and rests.
use Rattle.std.proofs.Common.{◌≡◌, ℕ, ◌+◌, ◌*◌, ◌<◌, ℤ, pos, negsuc, ◌+ℤ◌, ◌-ℤ◌, ◌*ℤ◌, ◌≤ℤ◌, ◌<ℤ◌, ap, arith, [], ◌∷◌, refl, ◌∙◌}
use Rattle.std.proofs.Math.Nat.{mul-lt-mul_of_pos_left}
use Rattle.std.specs.Ordering.{MatchOrdering, nat_cmp}
use Rattle.std.proofs.lemmas.Cmp.{ranked}
use Rattle.std.specs.declared.cmp.Ordering.{Ordering}
use Rattle.std.specs.declared.cmp.Ordering.TheVariants.{Less, Equal, Greater}
use Rattle.std.proofs.lemmas.Int.{ints}
use Rattle.separation_model.specs.Apart.{IsSplit, fraction_slack}
use Rattle.separation_model.proofs.Arithmetic.Ring.{ring, var, ◌⊕◌, ◌⊗◌, ◌⊖◌, mul_comm}
use Rattle.separation_model.proofs.Arithmetic.Order.{mul-mono}

room_split : (p q : ℤ) (d e w r v t a : ℕ) → IsSplit p d w r → IsSplit q e v t →
    fraction_slack p d q e (pos a) ≡ ((pos v -ℤ pos (w + a)) *ℤ (pos d *ℤ pos e)) +ℤ (pos (t * d) -ℤ pos (r * e))
room_split p q d e w r v t a s u =
    let p_is : p ≡ ((pos w *ℤ pos d) +ℤ pos r) -ℤ (pos 2000000000 *ℤ pos d) = omega (arith, ints, s.sum) in
    let q_is : q ≡ ((pos v *ℤ pos e) +ℤ pos t) -ℤ (pos 2000000000 *ℤ pos e) = omega (arith, ints, u.sum) in
    ap (λ x. (q *ℤ pos d) -ℤ (x *ℤ pos e) -ℤ (pos a *ℤ pos d *ℤ pos e)) p_is
    ∙ ap (λ x. (x *ℤ pos d) -ℤ ((((pos w *ℤ pos d) +ℤ pos r) -ℤ (pos 2000000000 *ℤ pos d)) *ℤ pos e) -ℤ (pos a *ℤ pos d *ℤ pos e)) q_is
    ∙ ring (pos w ∷ pos d ∷ pos r ∷ pos v ∷ pos e ∷ pos t ∷ pos a ∷ pos 2000000000 ∷ [])
    (((((var 3 ⊗ var 4) ⊕ var 5) ⊖ (var 7 ⊗ var 4)) ⊗ var 1) ⊖ ((((var 0 ⊗ var 1) ⊕ var 2) ⊖ (var 7 ⊗ var 1)) ⊗ var 4) ⊖ (var 6 ⊗ var 1 ⊗ var 4))
    (((var 3 ⊖ (var 0 ⊕ var 6)) ⊗ (var 1 ⊗ var 4)) ⊕ ((var 5 ⊗ var 1) ⊖ (var 2 ⊗ var 4)))
    refl

-- a result of `cmp` has the same meaning for two other facts
match_ordering : {P Q R S T U : Type 0} (o : Ordering) → (P → S) → (Q → T) → (R → U) → MatchOrdering o P Q R → MatchOrdering o S T U
match_ordering Less f g h m = f m
match_ordering Equal f g h m = g m
match_ordering Greater f g h m = h m

-- the whole parts are as far apart as asked: the rests decide
pub rests_decide : (p q : ℤ) (d e w r v t a : ℕ) (asked : ℤ) (o : Ordering) → asked ≡ pos a → IsSplit p d w r → IsSplit q e v t → v ≡ w + a → o ≡ nat_cmp (t * d) (r * e) →
    MatchOrdering o (fraction_slack p d q e asked <ℤ pos 0) (fraction_slack p d q e asked ≡ pos 0) (pos 0 <ℤ fraction_slack p d q e asked)
rests_decide p q d e w r v t a asked o whole s u same decides =
    let z = fraction_slack p d q e asked in
    let flat : pos v -ℤ pos (w + a) ≡ pos 0 = omega (arith, ints) in
    let none : (pos v -ℤ pos (w + a)) *ℤ (pos d *ℤ pos e) ≡ pos 0 *ℤ (pos d *ℤ pos e) = ap (λ (x : ℤ). x *ℤ (pos d *ℤ pos e)) flat in
    let is : z ≡ pos (t * d) -ℤ pos (r * e) = omega (arith, ints, none, ap (fraction_slack p d q e) whole ∙ room_split p q d e w r v t a s u) in
    let less = λ (h : t * d < r * e). let g : z <ℤ pos 0 = omega (arith, ints, h, is) in g in
    let equal = λ (h : t * d ≡ r * e). let g : z ≡ pos 0 = omega (arith, ints, h, is) in g in
    let more = λ (h : r * e < t * d). let g : pos 0 <ℤ z = omega (arith, ints, h, is) in g in
    match_ordering o less equal more (ranked (t * d) (r * e) o decides)

-- they are not: the whole parts decide
pub wholes_decide : (p q : ℤ) (d e w r v t a : ℕ) (asked : ℤ) (o : Ordering) → asked ≡ pos a → 0 < d → 0 < e → IsSplit p d w r → IsSplit q e v t → (v ≡ w + a → ⊥) → o ≡ nat_cmp v (w + a) →
    MatchOrdering o (fraction_slack p d q e asked <ℤ pos 0) (fraction_slack p d q e asked ≡ pos 0) (pos 0 <ℤ fraction_slack p d q e asked)
wholes_decide p q d e w r v t a asked o whole dp ep s u other decides =
    let z = fraction_slack p d q e asked in
    let both = pos d *ℤ pos e in
    let far = pos v -ℤ pos (w + a) in
    let is = ap (fraction_slack p d q e) whole ∙ room_split p q d e w r v t a s u in
    let turn = mul_comm both far in
    let sign : pos 0 ≤ℤ both = omega (arith, ints) in
    let rest = mul-lt-mul_of_pos_left u.rest_below dp in
    let other_rest = mul-lt-mul_of_pos_left s.rest_below ep in
    let less = λ (h : v < w + a). let g : z <ℤ pos 0 = omega (arith, ints, is, turn, rest, other_rest, mul-mono both far (negsuc 0) sign (omega (arith, ints, h))) in g in
    let equal = λ (h : v ≡ w + a). let g : z ≡ pos 0 = absurd (other h) in g in
    let more = λ (h : w + a < v). let g : pos 0 <ℤ z = omega (arith, ints, is, turn, rest, other_rest, mul-mono both (pos 1) far sign (omega (arith, ints, h))) in g in
    match_ordering o less equal more (ranked v (w + a) o decides)
