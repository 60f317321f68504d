-- A change of each element in turn.
use Rattle.std.proofs.Common.{All, ℤ, pos, neg_ℤ, ◌-ℤ◌, FitsSigned, to_z, of_z, to_z-of_z, ◌≡◌, ℕ, ◌+◌, ◌<◌, ◌≤◌, List, map, length, get_or, set, arith, ap, sym, subst, ◌∙◌, ⊎_elim, length-set, get_or-set_same, get_or-set_other}
use mir.Syntax.{Width}
use Rattle.std.proofs.lemmas.Bool.{cases_eq}
use Rattle.std.proofs.lemmas.Int.{ints}
use Rattle.std.proofs.lemmas.List.Elements.{All-get_or}
use Rattle.std.proofs.lemmas.List.{ext_get_or, get_or-map, get_or_default, length-map}

-- the elements before the index are changed, the others are not
pub record IsTurned {A : Type 0} (f : A → A) (old new : List A) (k : ℕ) : Type 0 where
  pub long : length new ≡ length old
  pub turned : (i : ℕ) (d : A) → i < k → i < length old → get_or new i d ≡ f (get_or old i d)
  pub rest : (i : ℕ) (d : A) → k ≤ i → get_or new i d ≡ get_or old i d

pub turned_more : {A : Type 0} (f : A → A) (old new : List A) (k : ℕ) (y e : A) → IsTurned f old new k → k < length new → y ≡ f (get_or new k e) → IsTurned f old (set new k y) (k + 1)
turned_more f old new k y e was h is = record {
  long = length-set new k y ∙ was.long;
  turned = λ i d l inside. ⊎_elim
      (λ (q : i ≡ k). ap (λ j. get_or (set new k y) j d) q ∙ get_or-set_same new k y d h ∙ is ∙ ap f (get_or_default new k e d h ∙ was.rest k d (omega arith) ∙ ap (λ j. get_or old j d) (sym q)))
      (λ (q : i ≡ k → ⊥). get_or-set_other new k i y d q ∙ was.turned i d (omega arith) inside)
      (cases_eq i k);
  rest = λ i d l. get_or-set_other new k i y d (λ q. absurd (omega arith)) ∙ was.rest i d (omega arith);
}

pub turned_all : {A : Type 0} (f : A → A) (old new : List A) (k : ℕ) (d : A) → IsTurned f old new k → length new ≤ k → new ≡ map f old
turned_all f old new k d was all =
    ext_get_or d new (map f old) (was.long ∙ sym (length-map old f))
    (λ i h. was.turned i d (omega arith) (omega (arith, was.long)) ∙ sym (get_or-map f old i d d (omega (arith, was.long))))

-- what holds of all elements at first holds of one that is not changed yet
pub unturned : {A : Type 0} (f : A → A) (old new : List A) (k : ℕ) (d : A) (P : A → Type 0) → IsTurned f old new k → k < length new → All P old → P (get_or new k d)
unturned f old new k d P was h all = subst P (sym (was.rest k d (omega arith))) (All-get_or P old k d (omega (arith, was.long)) all)

-- a number that is negated
pub negated : (w : Width) (z : ℤ) → FitsSigned w z → FitsSigned w (pos 0 -ℤ z) → to_z w (of_z w (pos 0 -ℤ to_z w (of_z w z))) ≡ neg_ℤ z
negated w z fits also = ap (λ x. to_z w (of_z w (pos 0 -ℤ x))) (to_z-of_z fits) ∙ to_z-of_z also ∙ omega (arith, ints)
