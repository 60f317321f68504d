-- A list whose elements are taken out one by one.
use Rattle.std.proofs.Common.{◌≡◌, ℕ, ◌+◌, ◌<◌, List, [], ◌∷◌, ◌++◌, length, take, drop, get_or, set, map, sym, ap, ◌∙◌, arith}
use Rattle.std.proofs.lemmas.List.{map-append, take_more, drop-drop, drop-set-lt, get_or-drop}

-- what is read of one element more
pub read_more : {X Y : Type 0} (f : X → Y) (xs : List X) (x : X) (ys : List Y) (i : ℕ) (y : Y) → i < length ys → map f xs ≡ take i ys → f x ≡ y → y ≡ get_or ys i y → map f (xs ++ x ∷ []) ≡ take (i + 1) ys
read_more f xs x ys i y lt so at is = rw (map-append f xs (x ∷ []), so, at, take_more ys i y lt) (ap (λ z. take i ys ++ z ∷ []) is)

-- the next element is the one that was there
pub next_same : {X : Type 0} (xs ys : List X) (i : ℕ) (d : X) → drop i xs ≡ drop i ys → get_or xs i d ≡ get_or ys i d
next_same xs ys i d h =
    let zero_more : i ≡ i + 0 = omega arith in
    ap (λ k. get_or xs k d) zero_more ∙ sym (get_or-drop i xs 0 d) ∙ ap (λ l. get_or l 0 d) h ∙ get_or-drop i ys 0 d ∙ ap (λ k. get_or ys k d) (sym zero_more)

-- and those after it stay
pub rest_same : {X : Type 0} (xs ys : List X) (i : ℕ) (x : X) → drop i xs ≡ drop i ys → drop (i + 1) (set xs i x) ≡ drop (i + 1) ys
rest_same xs ys i x h = drop-set-lt (i + 1) xs i x (omega arith) ∙ sym (drop-drop 1 i xs) ∙ ap (drop 1) h ∙ drop-drop 1 i ys
