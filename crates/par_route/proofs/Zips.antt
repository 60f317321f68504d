-- What holds of the elements of two lists, place by place.
use Rattle.std.proofs.Common.{ℕ, ◌≡◌, ◌+◌, ◌<◌, List, [], ◌∷◌, ◌++◌, length, take, get_or, arith, suc}
use Rattle.std.specs.List.{All, AllZip}
use Rattle.std.proofs.lemmas.List.{length-append, take_more, get_or_append_left, get_or-append-add}

-- two pairs of lists, one after the other
pub zip_append : {X Y : Type 0} (R : X → Y → Type 0) (xs : List X) (ys : List Y) (us : List X) (vs : List Y) → AllZip R xs ys → AllZip R us vs → AllZip R (xs ++ us) (ys ++ vs)
zip_append R [] [] us vs front back = back
zip_append R [] (y ∷ ys) us vs front back = absurd front
zip_append R (x ∷ xs) [] us vs front back = absurd front
zip_append R (x ∷ xs) (y ∷ ys) us vs front back = (front.0, zip_append R xs ys us vs front.1 back)

-- one more element of each
pub zip_more : {X Y : Type 0} (R : X → Y → Type 0) (xs : List X) (ys : List Y) (i : ℕ) (x : X) (y : Y) → i < length xs → x ≡ get_or xs i x →
    AllZip R (take i xs) ys → R x y → AllZip R (take (i + 1) xs) (ys ++ y ∷ [])
zip_more R xs ys i x y lt at so_far here =
    rw (take_more xs i x lt, ← at) (zip_append R (take i xs) ys (x ∷ []) (y ∷ []) so_far (here, tt))

-- what holds at each place holds of the lists
pub zip_from_places : {X Y : Type 0} (R : X → Y → Type 0) (xs : List X) (ys : List Y) → length ys ≡ length xs →
    ((i : ℕ) (d : X) (e : Y) → i < length xs → R (get_or xs i d) (get_or ys i e)) → AllZip R xs ys
zip_from_places R [] [] same each = tt
zip_from_places R [] (y ∷ ys) same each = absurd (omega (arith, same))
zip_from_places R (x ∷ xs) [] same each = absurd (omega (arith, same))
zip_from_places R (x ∷ xs) (y ∷ ys) same each =
    (each 0 x y (omega arith), zip_from_places R xs ys (omega (arith, same)) (λ i d e lt. each (suc i) d e (omega (arith, lt))))

-- what holds of each element holds of one that is read
pub All-read : {X : Type 0} (P : X → Type 0) (xs : List X) (i : ℕ) (x : X) → i < length xs → x ≡ get_or xs i x → All P xs → P x
All-read P xs i x lt at all = rw at (all i x lt)

-- what holds of each element of a list holds of those of its front and of its back
pub All-front : {X : Type 0} (P : X → Type 0) (xs ys : List X) → All P (xs ++ ys) → All P xs
All-front P xs ys all k d lt =
    let at : P (get_or (xs ++ ys) k d) = all k d (omega (arith, length-append xs ys, lt)) in
    rw (← get_or_append_left xs ys d k lt) at

pub All-back : {X : Type 0} (P : X → Type 0) (xs ys : List X) → All P (xs ++ ys) → All P ys
All-back P xs ys all k d lt =
    let at : P (get_or (xs ++ ys) (length xs + k) d) = all (length xs + k) d (omega (arith, length-append xs ys, lt)) in
    rw (← get_or-append-add xs ys k d) at
