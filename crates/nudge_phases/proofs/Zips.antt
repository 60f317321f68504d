-- Lists side by side.
use Rattle.std.proofs.Common.{◌≡◌, ℕ, suc, zero, Some, List, [], ◌∷◌, ◌++◌, map, length, refl, ap, subst₂, arith}
use Rattle.std.specs.Prelude.{slice_get}
use Rattle.std.specs.List.{AllZip}

-- the relation of two lists, where both are read at one place
pub zip_read : {X Y : Type 0} (R : X → Y → Type 0) (xs : List X) (ys : List Y) (k : ℕ) (x : X) (y : Y) → AllZip R xs ys → slice_get xs k ≡ Some x → slice_get ys k ≡ Some y → R x y
zip_read R [] ys k x y zip at_x at_y = cc
zip_read R (a ∷ xs) [] k x y zip at_x at_y = absurd zip
zip_read R (a ∷ xs) (b ∷ ys) zero x y zip at_x at_y = let p : a ≡ x = cc in let q : b ≡ y = cc in subst₂ R p q zip.0
zip_read R (a ∷ xs) (b ∷ ys) (suc k) x y zip at_x at_y = zip_read R xs ys k x y zip.1 at_x at_y

pub zip_count : {X Y : Type 0} (R : X → Y → Type 0) (xs : List X) (ys : List Y) → AllZip R xs ys → length xs ≡ length ys
zip_count R [] [] zip = refl
zip_count R [] (y ∷ ys) zip = absurd zip
zip_count R (x ∷ xs) [] zip = absurd zip
zip_count R (x ∷ xs) (y ∷ ys) zip = ap suc (zip_count R xs ys zip.1)

pub zip_from : {X Y : Type 0} (R : X → Y → Type 0) (xs : List X) (ys : List Y) → length xs ≡ length ys → ((k : ℕ) (x : X) (y : Y) → slice_get xs k ≡ Some x → slice_get ys k ≡ Some y → R x y) → AllZip R xs ys
zip_from R [] [] count each = tt
zip_from R [] (y ∷ ys) count each = absurd (omega arith)
zip_from R (x ∷ xs) [] count each = absurd (omega arith)
zip_from R (x ∷ xs) (y ∷ ys) count each = (each 0 x y refl refl, zip_from R xs ys (omega (arith, count)) (λ k a b e f. each (suc k) a b e f))

pub zip_push : {X Y : Type 0} (R : X → Y → Type 0) (xs : List X) (ys : List Y) (x : X) (y : Y) → AllZip R xs ys → R x y → AllZip R (xs ++ x ∷ []) (ys ++ y ∷ [])
zip_push R [] [] x y zip holds = (holds, tt)
zip_push R [] (b ∷ ys) x y zip holds = absurd zip
zip_push R (a ∷ xs) [] x y zip holds = absurd zip
zip_push R (a ∷ xs) (b ∷ ys) x y zip holds = (zip.0, zip_push R xs ys x y zip.1 holds)

-- two readings of the lists are equal, place by place
pub zip_map : {X Y Z : Type 0} (f : X → Z) (g : Y → Z) (xs : List X) (ys : List Y) → AllZip (λ x y. g y ≡ f x) xs ys → map g ys ≡ map f xs
zip_map f g [] [] zip = refl
zip_map f g [] (y ∷ ys) zip = absurd zip
zip_map f g (x ∷ xs) [] zip = absurd zip
zip_map f g (x ∷ xs) (y ∷ ys) zip = λ i. zip.0 i ∷ zip_map f g xs ys zip.1 i
