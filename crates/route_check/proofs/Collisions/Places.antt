-- Entries of a list by their places.
use Rattle.std.proofs.Common.{◌≡◌, ℕ, ◌<◌, List, [], ◌∷◌, ◌++◌, length, slice_get, Some, refl, sym, ap, ◌∙◌, arith, Contains}
use Rattle.std.proofs.lemmas.List.{get_or_append_left, get_or_push, length_push}
use Rattle.std.proofs.lemmas.Option.{slice_get-get_or, slice_get_within, get_or_from_slice_get}

-- what stands at a place is in the list
pub contains_at : {X : Type 0} (xs : List X) (i : ℕ) (x : X) → slice_get xs i ≡ Some x → Contains xs x
contains_at xs i x e = (i, slice_get_within xs i x e, get_or_from_slice_get xs i x x e)

-- places after which an element is pushed, and its own
pub slice_get-push_left : {X : Type 0} (xs : List X) (y x : X) (i : ℕ) → slice_get xs i ≡ Some x → slice_get (xs ++ y ∷ []) i ≡ Some x
slice_get-push_left xs y x i e =
    let within = slice_get_within xs i x e in
    slice_get-get_or (xs ++ y ∷ []) i x (omega (arith, length_push xs y)) ∙ ap Some (get_or_append_left xs (y ∷ []) x i within ∙ get_or_from_slice_get xs i x x e)

pub slice_get-push_last : {X : Type 0} (xs : List X) (y : X) → slice_get (xs ++ y ∷ []) (length xs) ≡ Some y
slice_get-push_last xs y = slice_get-get_or (xs ++ y ∷ []) (length xs) y (omega (arith, length_push xs y)) ∙ ap Some (get_or_push xs y y (length xs) refl)

pub slice_get-push_below : {X : Type 0} (xs : List X) (y x : X) (i : ℕ) → i < length xs → slice_get (xs ++ y ∷ []) i ≡ Some x → slice_get xs i ≡ Some x
slice_get-push_below xs y x i h e =
    slice_get-get_or xs i x h ∙ ap Some (sym (get_or_append_left xs (y ∷ []) x i h) ∙ get_or_from_slice_get (xs ++ y ∷ []) i x x e)
