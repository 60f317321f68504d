-- Elements of a list that are looked at one by one, by their places, what holds of them, and tests that fail.
use Rattle.std.proofs.Common.{◌≡◌, ℕ, suc, ◌+◌, Bool, true, false, Bor, List, [], ◌∷◌, drop, Option, Some, None, refl, sym, ap, subst, ◌∙◌, add-one, drop-cons}
use Rattle.std.specs.Prelude.{cond, find, slice_get, option_copied, All, Decides, IfSome}
use Rattle.std.specs.List.{AllByRecursion as Each}
use Rattle.std.proofs.lemmas.List.Elements.{recursion_from_All}
use Rattle.std.proofs.lemmas.Option.{slice_get_within, get_or_from_slice_get}

-- a test of what does not hold fails
pub refuted : {P : Type 0} (r : Bool) → Decides r P → (P → ⊥) → r ≡ false
refuted true decides never = absurd (never (decides.0 refl))
refuted false decides never = refl

-- what is left from a place on, where an element stands there
pub left_here : {X : Type 0} (xs : List X) (i : ℕ) (x : X) → slice_get xs i ≡ Some x → drop i xs ≡ x ∷ drop (i + 1) xs
left_here xs i x is =
    drop-cons xs i x (slice_get_within xs i x is)
    ∙ ap (λ y. y ∷ drop (suc i) xs) (get_or_from_slice_get xs i x x is)
    ∙ ap (λ n. x ∷ drop n xs) (sym (add-one i))

-- what holds of each element holds of one that stands at a place
pub held_here : {X : Type 0} (P : X → Type 0) (xs : List X) (i : ℕ) (x : X) → All P xs → slice_get xs i ≡ Some x → P x
held_here P xs i x all is = subst P (get_or_from_slice_get xs i x x is) (all i x (slice_get_within xs i x is))

-- and of one that is found
found_by : {X : Type 0} (P : X → Type 0) (b : Bool) (x : X) (later : Option X) → P x → IfSome later P → IfSome (cond b (Some x) later) P
found_by P true x later here rest = here
found_by P false x later here rest = rest

found_each : {X : Type 0} (test : X → Bool) (P : X → Type 0) (xs : List X) → Each P xs → IfSome (find test xs) P
found_each test P [] each = tt
found_each test P (x ∷ xs) each = found_by P (test x) x (find test xs) each.0 (found_each test P xs each.1)

copied : {X : Type 0} (P : X → Type 0) (found : Option (Bor X)) → IfSome (option_copied found) P → IfSome found (λ x. P x.now)
copied P None holds = tt
copied P (Some x) holds = holds

pub held_found : {X : Type 0} (test : X → Bool) (P : X → Type 0) (xs : List X) (found : Option (Bor X)) → option_copied found ≡ find test xs → All P xs
    → IfSome found (λ x. P x.now)
held_found test P xs found is all = copied P found (subst (λ o. IfSome o P) (sym is) (found_each test P xs (recursion_from_All P xs all)))
