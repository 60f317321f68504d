-- The items of a list that a loop reads one by one.
use Rattle.std.proofs.Common.{◌≡◌, ℕ, ◌<◌, ◌≤◌, List, length, get_or, take, Some, refl, subst}
use Rattle.std.specs.Prelude.{slice_get}
use Rattle.std.proofs.lemmas.List.{take_all}
use Rattle.std.proofs.lemmas.Option.{slice_get_read}

-- the item that is read at a place stands there
pub item_at : {X : Type 0} (items xs : List X) (i : ℕ) (x : X) → items ≡ xs → i < length items → x ≡ get_or items i x → slice_get xs i ≡ Some x
item_at items xs i x is within read = subst (λ l. slice_get l i ≡ Some x) is (slice_get_read items (length items) i x refl within read)

-- at the end all are read
pub all_items : {X : Type 0} (items xs : List X) (i : ℕ) → items ≡ xs → length items ≤ i → take i xs ≡ xs
all_items items xs i is past = subst (λ l. take i l ≡ l) is (take_all i items past)
