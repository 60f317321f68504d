-- Facts by whether there is a value.
use Rattle.std.proofs.Common.{◌≡◌, false, is_some, true≢false, IsSome, Option, Some, None, MatchOption, refl, sym, subst}

pub match_option : {A : Type 0} (o : Option A) (P P' : Type 0) (Q R : A → Type 0) → (P → P') → ((v : A) → o ≡ Some v → Q v → R v) → MatchOption o P Q → MatchOption o P' R
match_option None P P' Q R f g h = f h
match_option (Some v) P P' Q R f g h = g v refl h

pub match_some : {A : Type 0} (o : Option A) (P : Type 0) (Q : A → Type 0) (v : A) → o ≡ Some v → Q v → MatchOption o P Q
match_some o P Q v e h = subst (λ p. MatchOption p P Q) (sym e) h

pub match_none : {A : Type 0} (o : Option A) (P : Type 0) (Q : A → Type 0) → o ≡ None → P → MatchOption o P Q
match_none o P Q e h = subst (λ p. MatchOption p P Q) (sym e) h

pub some_is : {A : Type 0} (o : Option A) → IsSome o → (v : A) × (o ≡ Some v)
some_is None e = absurd (true≢false (sym e))
some_is (Some v) e = (v, refl)

pub none_is : {A : Type 0} (o : Option A) → is_some o ≡ false → o ≡ None
none_is None e = refl
none_is (Some v) e = absurd (true≢false e)

pub none_if_not_some : {A : Type 0} (o : Option A) → ((v : A) → o ≡ Some v → ⊥) → o ≡ None
none_if_not_some None h = refl
none_if_not_some (Some v) h = absurd (h v refl)
