-- A sorted list around one of its spans.
use Rattle.std.proofs.Common.{◌≡◌, Bool, true, false, cond, ◌||◌, List, [], ◌∷◌, ◌++◌, length, ◌+◌, ◌≤◌, refl, ap, ◌∙◌, arith}
use Rattle.std.specs.List.{AllByRecursion, filter}
use Rattle.std.proofs.lemmas.Bool.{or_left, or_right}
use Rattle.std.proofs.lemmas.List.Elements.{filter-append}
use Rattle.std.proofs.lemmas.List.Sums.{length-filter, count_by-le-length}
use Rattle.interval_index.specs.declared.span.Span.{Span}
use Rattle.interval_index.specs.Order.{is_before, IsSorted, inserted, without}
use Rattle.interval_index.proofs.Everywhere.{all_map, all_front, all_back, filter_all}
use Rattle.interval_index.proofs.Before.{before_all, not_before_later, before_same, after_same}

-- the spans on the two sides of n
pub record IsSortedRound (l : List Span) (n : Span) (r : List Span) : Type 0 where
  pub left : IsSorted l
  pub right : IsSorted r
  pub before : AllByRecursion (λ t. is_before t n ≡ true) l
  pub after : AllByRecursion (λ t. is_before n t ≡ true) r

pub sorted_round : (l : List Span) (n : Span) (r : List Span) → IsSorted (l ++ n ∷ r) → IsSortedRound l n r
sorted_round [] n r s = record { left = tt; right = s.1; before = tt; after = s.0 }
sorted_round (t ∷ l) n r s =
    let rest = sorted_round l n r s.1 in
    record {
      left = (all_front (λ u. is_before t u ≡ true) l (n ∷ r) s.0, rest.left);
      right = rest.right;
      before = ((all_back (λ u. is_before t u ≡ true) l (n ∷ r) s.0).0, rest.before);
      after = rest.after;
    }

pub inserted_left : (s n : Span) (l r : List Span) → is_before s n ≡ true → inserted s (l ++ n ∷ r) ≡ inserted s l ++ n ∷ r
inserted_left s n [] r p = rw p refl
inserted_left s n (t ∷ l) r p =
    elim (is_before s t) as (λ b. cond b (s ∷ t ∷ (l ++ n ∷ r)) (t ∷ inserted s (l ++ n ∷ r)) ≡ cond b (s ∷ t ∷ l) (t ∷ inserted s l) ++ n ∷ r) [
      | true ↦ refl
      | false ↦ ap (λ us. t ∷ us) (inserted_left s n l r p)
    ]

inserted_past : (s n : Span) (l r : List Span) → is_before s n ≡ false → AllByRecursion (λ t. is_before t n ≡ true) l → inserted s (l ++ n ∷ r) ≡ l ++ n ∷ inserted s r
inserted_past s n [] r p a = rw p refl
inserted_past s n (t ∷ l) r p a = rw (not_before_later s t n p a.0) (ap (λ us. t ∷ us) (inserted_past s n l r p a.1))

pub inserted_right : (s n : Span) (l r : List Span) → is_before s n ≡ false → IsSorted (l ++ n ∷ r) → inserted s (l ++ n ∷ r) ≡ l ++ n ∷ inserted s r
inserted_right s n l r p h = inserted_past s n l r p (sorted_round l n r h).before

-- what a test keeps of the two sides and of what stands between
filter_round : (p : Span → Bool) (l : List Span) (n : Span) (r fl fr : List Span) → filter p l ≡ fl → filter p r ≡ fr → filter p (l ++ n ∷ r) ≡ fl ++ cond (p n) (n ∷ fr) fr
filter_round p l n r fl fr e f = filter-append p l (n ∷ r) ∙ rw (e, f) refl

pub without_left : (s n : Span) (l r : List Span) → is_before s n ≡ true → IsSorted (l ++ n ∷ r) → without s (l ++ n ∷ r) ≡ without s l ++ n ∷ r
without_left s n l r p h =
    let k = sorted_round l n r h in
    let test : Span → Bool = λ t. is_before s t || is_before t s in
    let kept : filter test r ≡ r = filter_all test r (all_map (λ t. is_before n t ≡ true) (λ t. test t ≡ true) (λ t q. or_left _ _ (before_all s n t p q)) r k.after) in
    filter_round test l n r (without s l) r refl kept ∙ rw p refl

pub without_right : (s n : Span) (l r : List Span) → is_before n s ≡ true → IsSorted (l ++ n ∷ r) → without s (l ++ n ∷ r) ≡ l ++ n ∷ without s r
without_right s n l r p h =
    let k = sorted_round l n r h in
    let test : Span → Bool = λ t. is_before s t || is_before t s in
    let kept : filter test l ≡ l = filter_all test l (all_map (λ t. is_before t n ≡ true) (λ t. test t ≡ true) (λ t q. or_right _ _ (before_all t n s q p)) l k.before) in
    filter_round test l n r l (without s r) kept refl ∙ rw (or_right (is_before s n) _ p) refl

pub without_middle : (s n : Span) (l r : List Span) → is_before s n ≡ false → is_before n s ≡ false → IsSorted (l ++ n ∷ r) → without s (l ++ n ∷ r) ≡ l ++ r
without_middle s n l r p q h =
    let k = sorted_round l n r h in
    let test : Span → Bool = λ t. is_before s t || is_before t s in
    let kept : filter test l ≡ l = filter_all test l (all_map (λ t. is_before t n ≡ true) (λ t. test t ≡ true) (λ t e. or_right _ _ (before_same s n t p q e)) l k.before) in
    let kept_too : filter test r ≡ r = filter_all test r (all_map (λ t. is_before n t ≡ true) (λ t. test t ≡ true) (λ t e. or_left _ _ (after_same s n t p q e)) r k.after) in
    filter_round test l n r l r kept kept_too ∙ rw (p, q) refl

-- how many spans there are
inserted_count : (b : Bool) (s t : Span) (l m : List Span) → length m ≡ length l + 1 → length (cond b (s ∷ t ∷ l) (t ∷ m)) ≡ length (t ∷ l) + 1
inserted_count true s t l m e = omega arith
inserted_count false s t l m e = omega arith

pub length-inserted : (s : Span) (l : List Span) → length (inserted s l) ≡ length l + 1
length-inserted s [] = refl
length-inserted s (t ∷ l) = inserted_count (is_before s t) s t l (inserted s l) (length-inserted s l)

pub length-without : (s : Span) (l : List Span) → length (without s l) ≤ length l
length-without s l =
    let test : Span → Bool = λ t. is_before s t || is_before t s in
    rw (length-filter test l) (count_by-le-length test l)
