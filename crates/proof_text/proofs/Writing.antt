-- Texts of the elements of a list, one after the other.
use Rattle.std.proofs.Common.{◌≡◌, ℕ, suc, ◌+◌, ◌<◌, List, ◌∷◌, ◌++◌, length, drop, get_or, sym, ap, ◌∙◌, append_assoc, add-one, drop-cons}

-- what is written so far and the text of what is left are the whole, also one element on
pub written_on : {X : Type 0} (one : X → List ℕ) (all : List X → List ℕ) → ((x : X) (xs : List X) → all (x ∷ xs) ≡ one x ++ all xs) →
    (whole out new : List ℕ) (xs : List X) (i : ℕ) (d : X) → i < length xs → out ++ all (drop i xs) ≡ whole → new ≡ out ++ one (get_or xs i d) →
    new ++ all (drop (i + 1) xs) ≡ whole
written_on one all step whole out new xs i d within so_far more =
    let rest = all (drop (suc i) xs) in
    let here : all (drop i xs) ≡ one (get_or xs i d) ++ rest = ap all (drop-cons xs i d within) ∙ step (get_or xs i d) (drop (suc i) xs) in
    ap (λ n. new ++ all (drop n xs)) (add-one i)
    ∙ ap (λ t. t ++ rest) more
    ∙ append_assoc out (one (get_or xs i d)) rest
    ∙ ap (λ t. out ++ t) (sym here)
    ∙ so_far
