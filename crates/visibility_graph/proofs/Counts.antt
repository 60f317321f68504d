-- Filters of a part of a list, and counts of pairs.
use Rattle.std.proofs.Common.{◌≡◌, pos, ℕ, zero, suc, ◌+◌, ◌<◌, ◌≤◌, Bool, true, false, not, ◌&&◌, cond, List, [], ◌∷◌, ◌++◌, length, get_or, take, drop, refl, sym, ap, subst, ◌∙◌, arith}
use Rattle.std.specs.Prelude.{All, filter, sum_by, count_by}
use Rattle.std.specs.List.{AllWithin}
use Rattle.std.proofs.lemmas.List.{take_more, take-append-drop}
use Rattle.std.proofs.lemmas.List.Sums.{length-filter, sum_by-append}
use Rattle.plane_geom.specs.declared.point.Way.{Way}
use Rattle.plane_geom.specs.declared.point.Way.TheVariants.{Vertical, Horizontal}
use Rattle.plane_geom.specs.declared.floor.Line.{Line}
use Rattle.visibility_graph.specs.Meeting.{coming, meets, pairs_by, reaches, same_way}

module _ {X : Type 0} (p : X → Bool) where
  -- nothing passes
  pub nothing : (xs : List X) → ((k : ℕ) (d : X) → k < length xs → p (get_or xs k d) ≡ false) → filter p xs ≡ []
  nothing [] h = refl
  nothing (x ∷ xs) h =
      ap (λ b. cond b (x ∷ filter p xs) (filter p xs)) (h zero x (omega arith)) ∙ nothing xs (λ k d l. h (suc k) d (omega arith))

  -- the elements that pass come after a beginning in which none passes
  pub filter_after : (xs : List X) (n : ℕ) → AllWithin (λ x. p x ≡ false) xs 0 n → filter p (drop n xs) ≡ filter p xs
  filter_after xs zero h = refl
  filter_after [] (suc n) h = refl
  filter_after (x ∷ xs) (suc n) h =
      filter_after xs n (λ k d low high. h (suc k) d (omega arith) (omega arith))
      ∙ sym (ap (λ b. cond b (x ∷ filter p xs) (filter p xs)) (h zero x (omega arith) (omega arith)))

  -- and before a back where nothing does
  pub filter_before : (xs : List X) (n : ℕ) → AllWithin (λ x. p x ≡ false) xs n (length xs) → filter p (take n xs) ≡ filter p xs
  filter_before xs zero h = sym (nothing xs (λ k d l. h k d (omega arith) l))
  filter_before [] (suc n) h = refl
  filter_before (x ∷ xs) (suc n) h =
      ap (λ ys. cond (p x) (x ∷ ys) ys) (filter_before xs n (λ k d low high. h (suc k) d (omega arith) (omega arith)))

pub count_cons : {X : Type 0} (p : X → Bool) (x : X) (xs : List X) → count_by p (x ∷ xs) ≡ cond (p x) 1 0 + count_by p xs
count_cons p x xs = sym (length-filter p (x ∷ xs)) ∙ by (p x) ∙ ap (λ n. cond (p x) 1 0 + n) (length-filter p xs)
  where
    by : (b : Bool) → length (cond b (x ∷ filter p xs) (filter p xs)) ≡ cond b 1 0 + length (filter p xs)
    by true = omega arith
    by false = omega arith

pub count_append : {X : Type 0} (p : X → Bool) (xs ys : List X) → count_by p (xs ++ ys) ≡ count_by p xs + count_by p ys
count_append p [] ys = omega arith
count_append p (x ∷ xs) ys =
    let e = count_append p xs ys in
    let f = count_cons p x xs in
    let g = count_cons p x (xs ++ ys) in
    omega arith

-- the same number of elements passes two tests that agree on each element
pub count_agree : {X : Type 0} (p q : X → Bool) (xs : List X) → All (λ x. p x ≡ q x) xs → count_by p xs ≡ count_by q xs
count_agree p q [] h = refl
count_agree p q (x ∷ xs) h =
    count_cons p x xs ∙ ap (λ b. cond b 1 0 + count_by p xs) (h zero x (omega arith))
    ∙ ap (λ n. cond (q x) 1 0 + n) (count_agree p q xs (λ k d l. h (suc k) d (omega arith))) ∙ sym (count_cons q x xs)

-- the pairs of a list with one more element after it
pub pairs_push : {X : Type 0} (t : X → X → Bool) (xs : List X) (y : X) → pairs_by t (xs ++ y ∷ []) ≡ pairs_by t xs + count_by (λ x. t x y) xs
pairs_push t [] y = refl
pairs_push t (x ∷ xs) y =
    let e = pairs_push t xs y in
    let f = count_append (t x) xs (y ∷ []) in
    let g = count_cons (λ z. t z y) x xs in
    let h = count_cons (t x) y [] in
    omega arith

pairs_front : {X : Type 0} (t : X → X → Bool) (xs ys : List X) → pairs_by t xs ≤ pairs_by t (xs ++ ys)
pairs_front t [] ys = omega arith
pairs_front t (x ∷ xs) ys =
    let e = pairs_front t xs ys in
    let f = count_append (t x) xs ys in
    omega arith

-- ---- lines

and_back : (a b : Bool) → (a && b) ≡ (b && a)
and_back true true = refl
and_back true false = refl
and_back false true = refl
and_back false false = refl

back_by : (v w : Way) (l m : Line) → (not (same_way v w) && (reaches l m.at && reaches m l.at)) ≡ (not (same_way w v) && (reaches m l.at && reaches l m.at))
back_by Vertical Vertical l m = refl
back_by Vertical Horizontal l m = and_back (reaches l m.at) (reaches m l.at)
back_by Horizontal Vertical l m = and_back (reaches l m.at) (reaches m l.at)
back_by Horizontal Horizontal l m = refl

-- two lines meet whichever is named first
pub meets_back : (l m : Line) → meets l m ≡ meets m l
meets_back l m = back_by l.way m.way l m

pub coming_push : (xs stay : List Line) (y : Line) → coming (xs ++ y ∷ []) stay ≡ coming xs stay + (count_by (meets y) stay + count_by (meets y) xs)
coming_push xs stay y =
    let e = pairs_push meets xs y in
    let f = count_agree (λ x. meets x y) (meets y) xs (λ k d l. meets_back (get_or xs k d) y) in
    let g = sum_by-append (λ l. count_by (meets l) stay) xs (y ∷ []) in
    let h : sum_by (λ l. count_by (meets l) stay) (y ∷ []) ≡ count_by (meets y) stay = omega arith in
    omega arith

pub coming_more : (new stay : List Line) (i : ℕ) (d : Line) → i < length new →
    coming (take (i + 1) new) stay ≡ coming (take i new) stay + (count_by (meets (get_or new i d)) stay + count_by (meets (get_or new i d)) (take i new))
coming_more new stay i d h = ap (λ ls. coming ls stay) (take_more new i d h) ∙ coming_push (take i new) stay (get_or new i d)

coming_front : (xs ys stay : List Line) → coming xs stay ≤ coming (xs ++ ys) stay
coming_front xs ys stay =
    let e = pairs_front meets xs ys in
    let g = sum_by-append (λ l. count_by (meets l) stay) xs ys in
    omega arith

-- the first of the lines add at most the crossings of all
pub coming_part : (new stay : List Line) (i : ℕ) → coming (take i new) stay ≤ coming new stay
coming_part new stay i = subst (λ ls. coming (take i new) stay ≤ coming ls stay) (take-append-drop i new) (coming_front (take i new) (drop i new) stay)

-- what stands for the element of a list past its end
abbrev pub no_line : Line
no_line = record { way = Vertical; at = pos 0; lo = pos 0; hi = pos 0 }
