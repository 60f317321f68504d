-- Texts of the elements of a list, one after the other.
use Rattle.std.proofs.Common.{◌≡◌, ℕ, suc, ◌+◌, ◌<◌, List, ◌++◌, length, drop, get_or, sym, ap, ◌∙◌, append_assoc, add-one, drop-cons}
use Rattle.std.specs.List.{flat_map}

-- what is written so far and what is left are the whole, also one element further on
pub one_pushed : {X : Type 0} (f : X → List ℕ) (whole out new : List ℕ) (xs : List X) (i : ℕ) (d : X) → i < length xs → out ++ flat_map f (drop i xs) ≡ whole → new ≡ out ++ f (get_or xs i d)
    → new ++ flat_map f (drop (i + 1) xs) ≡ whole
one_pushed f whole out new xs i d within so_far pushed =
    let rest = flat_map f (drop (suc i) xs) in
    let here = ap (flat_map f) (drop-cons xs i d within) in
    ap (λ n. new ++ flat_map f (drop n xs)) (add-one i)
    ∙ ap (λ t. t ++ rest) pushed
    ∙ append_assoc out (f (get_or xs i d)) rest
    ∙ ap (λ t. out ++ t) (sym here)
    ∙ so_far
