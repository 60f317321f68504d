-- The links of a bundle, one after another.
use Rattle.std.proofs.Common.{◌≡◌, ℕ, zero, suc, ◌+◌, ◌<◌, ℤ, neg_ℤ, List, [], ◌∷◌, ◌++◌, length, get_or, take, arith, refl, ap, sym, ◌∙◌, append_assoc}
use Rattle.std.proofs.lemmas.List.{take_more, length-take-le}
use Rattle.separation_model.specs.declared.bundle.Item.{Item}
use Rattle.separation_solve.specs.declared.network.Link.{Link}
use Rattle.separation_solve.specs.Network.{lower_links, upper_links}

-- what a function makes of each element and its number, from the number on
abbrev pub numbered : {X Y : Type 0} → (ℕ → X → Y) → ℕ → List X → List Y
numbered f i [] = []
numbered f i (x ∷ xs) = f i x ∷ numbered f (i + 1) xs

pub length-numbered : {X Y : Type 0} (f : ℕ → X → Y) (i : ℕ) (xs : List X) → length (numbered f i xs) ≡ length xs
length-numbered f i [] = refl
length-numbered f i (x ∷ xs) = ap suc (length-numbered f (i + 1) xs)

pub numbered-push : {X Y : Type 0} (f : ℕ → X → Y) (i : ℕ) (xs : List X) (x : X) → numbered f i (xs ++ x ∷ []) ≡ numbered f i xs ++ f (i + length xs) x ∷ []
numbered-push f i [] x = let e : i ≡ i + 0 = omega arith in ap (λ k. f k x ∷ []) e
numbered-push f i (y ∷ ys) x =
    let e : (i + 1) + length ys ≡ i + suc (length ys) = omega arith in
    ap (λ l. f i y ∷ l) (numbered-push f (i + 1) ys x ∙ ap (λ k. numbered f (i + 1) ys ++ f k x ∷ []) e)

pub get_or-numbered : {X Y : Type 0} (f : ℕ → X → Y) (i : ℕ) (xs : List X) (k : ℕ) (d : X) (e : Y) → k < length xs → get_or (numbered f i xs) k e ≡ f (i + k) (get_or xs k d)
get_or-numbered f i [] k d e h = absurd (omega arith)
get_or-numbered f i (x ∷ xs) zero d e h = let q : i ≡ i + 0 = omega arith in ap (λ j. f j x) q
get_or-numbered f i (x ∷ xs) (suc k) d e h =
    let q : (i + 1) + k ≡ i + suc k = omega arith in
    get_or-numbered f (i + 1) xs k d e (omega arith) ∙ ap (λ j. f j (get_or xs k d)) q

pub numbered-more : {X Y : Type 0} (f : ℕ → X → Y) (xs : List X) (i : ℕ) (d : X) → i < length xs → numbered f 0 (take (i + 1) xs) ≡ numbered f 0 (take i xs) ++ f i (get_or xs i d) ∷ []
numbered-more f xs i d h =
    let e : 0 + length (take i xs) ≡ i = omega (arith, length-take-le i xs (omega arith)) in
    ap (numbered f 0) (take_more xs i d h) ∙ numbered-push f 0 (take i xs) (get_or xs i d)
    ∙ ap (λ k. numbered f 0 (take i xs) ++ f k (get_or xs i d) ∷ []) e

-- an item's lower limit
abbrev pub lower_link : ℕ → ℕ → Item → Link
lower_link wall i item = record { from = wall; to = i; gap = item.lo }

-- its upper limit
abbrev pub upper_link : ℕ → ℕ → Item → Link
upper_link wall i item = record { from = i; to = wall; gap = neg_ℤ item.hi }

pub lower_is : (wall i : ℕ) (items : List Item) → lower_links wall i items ≡ numbered (lower_link wall) i items
lower_is wall i [] = refl
lower_is wall i (item ∷ items) = ap (λ l. lower_link wall i item ∷ l) (lower_is wall (i + 1) items)

pub upper_is : (wall i : ℕ) (items : List Item) → upper_links wall i items ≡ numbered (upper_link wall) i items
upper_is wall i [] = refl
upper_is wall i (item ∷ items) = ap (λ l. upper_link wall i item ∷ l) (upper_is wall (i + 1) items)

pub lower-more : (wall : ℕ) (items : List Item) (i : ℕ) (d : Item) → i < length items →
    lower_links wall 0 (take (i + 1) items) ≡ lower_links wall 0 (take i items) ++ lower_link wall i (get_or items i d) ∷ []
lower-more wall items i d h =
    lower_is wall 0 (take (i + 1) items) ∙ numbered-more (lower_link wall) items i d h
    ∙ ap (λ l. l ++ lower_link wall i (get_or items i d) ∷ []) (sym (lower_is wall 0 (take i items)))

pub upper-more : (wall : ℕ) (items : List Item) (i : ℕ) (d : Item) → i < length items →
    upper_links wall 0 (take (i + 1) items) ≡ upper_links wall 0 (take i items) ++ upper_link wall i (get_or items i d) ∷ []
upper-more wall items i d h =
    upper_is wall 0 (take (i + 1) items) ∙ numbered-more (upper_link wall) items i d h
    ∙ ap (λ l. l ++ upper_link wall i (get_or items i d) ∷ []) (sym (upper_is wall 0 (take i items)))

-- one more link at the end
pub link_more : (old links now next : List Link) (from to : ℕ) (read gap : ℤ) → now ≡ (old ++ links) ++ record { from = from; to = to; gap = read } ∷ [] → read ≡ gap →
    next ≡ links ++ record { from = from; to = to; gap = gap } ∷ [] → now ≡ old ++ next
link_more old links now next from to read gap e g f =
    e ∙ append_assoc old links (record { from = from; to = to; gap = read } ∷ [])
    ∙ ap (λ z. old ++ (links ++ record { from = from; to = to; gap = z } ∷ [])) g ∙ ap (λ l. old ++ l) (sym f)
