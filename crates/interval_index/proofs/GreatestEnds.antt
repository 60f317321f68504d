-- Ends and beginnings in a sorted list, around one of its spans.
use Rattle.std.proofs.Common.{◌≡◌, ℕ, ℤ, ◌≤ℤ◌, append_assoc, true, false, List, [], ◌∷◌, ◌++◌, refl, ap, sym, ◌∙◌, arith}
use Rattle.std.specs.Int.{int_max}
use Rattle.std.specs.Prelude.{int_lt}
use Rattle.std.specs.List.{AllByRecursion, filter}
use Rattle.std.proofs.lemmas.Bool.Decides.{nat_tests, Decides-int_eq}
use Rattle.std.proofs.lemmas.Int.{ints}
use Rattle.std.proofs.lemmas.List.{append-nil, map-append}
use Rattle.std.proofs.lemmas.List.Elements.{filter-append}
use Rattle.interval_index.specs.declared.span.Span.{Span}
use Rattle.interval_index.specs.Order.{is_before, IsSorted}
use Rattle.plane_geom.specs.Point.{sheet_start}
use Rattle.interval_index.specs.Ends.{greatest_end, greatest_end_before, start_from, meets, keys_met}
use Rattle.interval_index.proofs.Everywhere.{all_map, filter_none}
use Rattle.interval_index.proofs.Placed.{sorted_round}

max_all : (a b c : ℤ) → int_max a (int_max b c) ≡ int_max (int_max a b) c
max_all a b c = grind (arith, ints)

max_of_less : (a b : ℤ) → a ≤ℤ b → int_max a b ≡ b
max_of_less a b h = grind (arith, ints)

pub end_on_sheet : (l : List Span) → sheet_start ≤ℤ greatest_end l
end_on_sheet [] = omega (arith, ints)
end_on_sheet (s ∷ l) = let h = end_on_sheet l in grind (arith, ints)

pub greatest_end-append : (l m : List Span) → greatest_end (l ++ m) ≡ int_max (greatest_end l) (greatest_end m)
greatest_end-append [] m = sym (max_of_less sheet_start (greatest_end m) (end_on_sheet m))
greatest_end-append (s ∷ l) m = ap (λ z. int_max s.hi z) (greatest_end-append l m) ∙ max_all s.hi (greatest_end l) (greatest_end m)

pub greatest_end_round : (l : List Span) (n : Span) (r : List Span) → greatest_end (l ++ n ∷ r) ≡ int_max (int_max (greatest_end l) n.hi) (greatest_end r)
greatest_end_round l n r = greatest_end-append l (n ∷ r) ∙ max_all (greatest_end l) n.hi (greatest_end r)

-- the order by lo alone
pub lo_of_before : (s t : Span) → is_before s t ≡ true → s.lo ≤ℤ t.lo
lo_of_before s t h = grind (arith, ints, nat_tests, Decides-int_eq s.lo t.lo)

begins_before : (at : ℤ) (n t : Span) → int_lt n.lo at ≡ true → is_before t n ≡ true → int_lt t.lo at ≡ true
begins_before at n t h e = let k = lo_of_before t n e in grind (arith, ints)

begins_later : (at : ℤ) (n t : Span) → int_lt n.lo at ≡ false → is_before n t ≡ true → int_lt t.lo at ≡ false
begins_later at n t h e = let k = lo_of_before n t e in grind (arith, ints)

pub end_before_on_sheet : (at : ℤ) (l : List Span) → sheet_start ≤ℤ greatest_end_before at l
end_before_on_sheet at [] = omega (arith, ints)
end_before_on_sheet at (s ∷ l) = let h = end_before_on_sheet at l in grind (arith, ints)

end_all : (at : ℤ) (l m : List Span) → AllByRecursion (λ t. int_lt t.lo at ≡ true) l → greatest_end_before at (l ++ m) ≡ int_max (greatest_end l) (greatest_end_before at m)
end_all at [] m a = sym (max_of_less sheet_start (greatest_end_before at m) (end_before_on_sheet at m))
end_all at (s ∷ l) m a = rw a.0 (ap (λ z. int_max s.hi z) (end_all at l m a.1) ∙ max_all s.hi (greatest_end l) (greatest_end_before at m))

end_none : (at : ℤ) (l : List Span) → AllByRecursion (λ t. int_lt t.lo at ≡ false) l → greatest_end_before at l ≡ sheet_start
end_none at [] a = refl
end_none at (s ∷ l) a = rw a.0 (end_none at l a.1)

-- the greatest end of the spans on the left of n and on its right that begin before the coordinate, where n does
pub end_past : (at : ℤ) (l : List Span) (n : Span) (r : List Span) → int_lt n.lo at ≡ true → IsSorted (l ++ n ∷ r) → greatest_end_before at (l ++ n ∷ r) ≡ int_max (int_max (greatest_end l) n.hi) (greatest_end_before at r)
end_past at l n r h s =
    let k = sorted_round l n r s in
    let all = all_map (λ t. is_before t n ≡ true) (λ t. int_lt t.lo at ≡ true) (λ t e. begins_before at n t h e) l k.before in
    end_all at l (n ∷ r) all ∙ rw h (max_all (greatest_end l) n.hi (greatest_end_before at r))

end_first : (at : ℤ) (l m : List Span) → AllByRecursion (λ t. int_lt t.lo at ≡ false) m → greatest_end_before at (l ++ m) ≡ greatest_end_before at l
end_first at [] m a = end_none at m a
end_first at (s ∷ l) m a = rw (end_first at l m a) refl

-- and where n does not
pub end_short : (at : ℤ) (l : List Span) (n : Span) (r : List Span) → int_lt n.lo at ≡ false → IsSorted (l ++ n ∷ r) → greatest_end_before at (l ++ n ∷ r) ≡ greatest_end_before at l
end_short at l n r h s =
    let k = sorted_round l n r s in
    let none = all_map (λ t. is_before n t ≡ true) (λ t. int_lt t.lo at ≡ false) (λ t e. begins_later at n t h e) r k.after in
    end_first at l (n ∷ r) (h, none)

start_skips : (at z : ℤ) (l m : List Span) → AllByRecursion (λ t. int_lt t.lo at ≡ true) l → start_from at z (l ++ m) ≡ start_from at z m
start_skips at z [] m a = refl
start_skips at z (s ∷ l) m a = rw a.0 (start_skips at z l m a.1)

pub start_past : (at z : ℤ) (l : List Span) (n : Span) (r : List Span) → int_lt n.lo at ≡ true → IsSorted (l ++ n ∷ r) → start_from at z (l ++ n ∷ r) ≡ start_from at z r
start_past at z l n r h s =
    let k = sorted_round l n r s in
    let all = all_map (λ t. is_before t n ≡ true) (λ t. int_lt t.lo at ≡ true) (λ t e. begins_before at n t h e) l k.before in
    start_skips at z l (n ∷ r) all ∙ rw h refl

pub start_short : (at z : ℤ) (l : List Span) (n : Span) (r : List Span) → int_lt n.lo at ≡ false → start_from at z (l ++ n ∷ r) ≡ start_from at n.lo l
start_short at z [] n r h = rw h refl
start_short at z (s ∷ l) n r h = rw (start_short at z l n r h) refl

-- a tree in which no span ends after lo
ends_by : (l : List Span) (lo : ℤ) → greatest_end l ≤ℤ lo → AllByRecursion (λ t. t.hi ≤ℤ lo) l
ends_by [] lo h = tt
ends_by (s ∷ l) lo h = let here : s.hi ≤ℤ lo = grind (arith, ints) in let later : greatest_end l ≤ℤ lo = grind (arith, ints) in (here, ends_by l lo later)

ended : (lo hi : ℤ) (t : Span) → t.hi ≤ℤ lo → meets lo hi t ≡ false
ended lo hi t h = grind (arith, ints)

pub meets_none : (lo hi : ℤ) (l : List Span) → greatest_end l ≤ℤ lo → filter (meets lo hi) l ≡ []
meets_none lo hi l h = filter_none (meets lo hi) l (all_map (λ t. t.hi ≤ℤ lo) (λ t. meets lo hi t ≡ false) (λ t e. ended lo hi t e) l (ends_by l lo h))

begins_too_late : (lo hi : ℤ) (n t : Span) → hi ≤ℤ n.lo → is_before n t ≡ true → meets lo hi t ≡ false
begins_too_late lo hi n t h e = let k = lo_of_before n t e in grind (arith, ints)

pub meets_short : (lo hi : ℤ) (l : List Span) (n : Span) (r : List Span) → hi ≤ℤ n.lo → IsSorted (l ++ n ∷ r) → filter (meets lo hi) (l ++ n ∷ r) ≡ filter (meets lo hi) l
meets_short lo hi l n r h s =
    let k = sorted_round l n r s in
    let here : meets lo hi n ≡ false = grind (arith, ints) in
    let none = filter_none (meets lo hi) r (all_map (λ t. is_before n t ≡ true) (λ t. meets lo hi t ≡ false) (λ t e. begins_too_late lo hi n t h e) r k.after) in
    filter-append (meets lo hi) l (n ∷ r) ∙ rw (here, none) (append-nil (filter (meets lo hi) l))

pub keys_met-append : (lo hi : ℤ) (l m : List Span) → keys_met lo hi (l ++ m) ≡ keys_met lo hi l ++ keys_met lo hi m
keys_met-append lo hi l m = rw (filter-append (meets lo hi) l m) (map-append (λ s. s.key) (filter (meets lo hi) l) (filter (meets lo hi) m))

-- the keys so far, with those on the left, in the middle and on the right
pub keys_met_round : (lo hi : ℤ) (l : List Span) (n : Span) (r : List Span) (base a b c : List ℕ) → a ≡ base ++ keys_met lo hi l → b ≡ a ++ keys_met lo hi (n ∷ []) → c ≡ b ++ keys_met lo hi r → c ≡ base ++ keys_met lo hi (l ++ n ∷ r)
keys_met_round lo hi l n r base a b c e f g =
    let whole = keys_met-append lo hi l (n ∷ r) ∙ ap (λ ks. keys_met lo hi l ++ ks) (keys_met-append lo hi (n ∷ []) r) in
    rw (g, f, e, whole) (simp append_assoc)
