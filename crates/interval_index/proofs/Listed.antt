-- What stays true of the spans in the index where one comes and where one goes.
use Rattle.std.proofs.Common.{◌≡◌, ◌⊎◌, inl, inr, eqb, ℕ, ◌^◌, ◌<◌, Bool, true, false, cond, not, ◌||◌, Option, None, Some, is_some, List, [], ◌∷◌, map, length, refl, ap, subst, arith}
use Rattle.std.specs.Prelude.{◌==◌, find, filter}
use Rattle.std.proofs.lemmas.Bool.{or_right}
use Rattle.std.proofs.lemmas.List.{length-map}
use Rattle.std.specs.List.{AllByRecursion, IsDistinct, list_any}
use Rattle.std.proofs.lemmas.Bool.Decides.{nat_tests, Decides-int_eq}
use Rattle.std.proofs.lemmas.Int.{ints}
use Rattle.std.proofs.lemmas.Map.Steps.{length-le_from_distinct_below}
use Rattle.interval_index.specs.declared.span.Span.{Span}
use Rattle.interval_index.specs.Order.{is_before, IsSorted, inserted, without}
use Rattle.interval_index.specs.Index.{HaveDistinctKeys, IsListed, IsSpan, has_key, without_key}
use Rattle.interval_index.proofs.Everywhere.{all_map, filter_all}
use Rattle.interval_index.proofs.Before.{before_all}

-- spans with different keys stand one before the other
before_or_after : (s t : Span) → (t.key == s.key) ≡ false → is_before s t ≡ false → is_before t s ≡ true
before_or_after s t h k = grind (arith, ints, nat_tests, Decides-int_eq s.lo t.lo, Decides-int_eq t.lo s.lo)

never_before_itself : (s : Span) → is_before s s ≡ false
never_before_itself s = grind (arith, ints, nat_tests, Decides-int_eq s.lo s.lo)

or_false : (a b : Bool) → (a || b) ≡ false → a ≡ false
or_false true b h = h
or_false false b h = refl

or_false_later : (a b : Bool) → (a || b) ≡ false → b ≡ false
or_false_later true b h = absurd (cc)
or_false_later false b h = h

or_cases : (a b : Bool) → (a || b) ≡ true → (a ≡ true) ⊎ (b ≡ true)
or_cases true b h = inl refl
or_cases false b h = inr h

pub absent_all : (k : ℕ) (l : List Span) → has_key k l ≡ false → AllByRecursion (λ t. (t.key == k) ≡ false) l
absent_all k [] h = tt
absent_all k (t ∷ l) h = (or_false (t.key == k) (has_key k l) h, absent_all k l (or_false_later (t.key == k) (has_key k l) h))

-- what is added
all_inserted_by : (P : Span → Type 0) (b : Bool) (s t : Span) (l m : List Span) → P s → P t → AllByRecursion P l → AllByRecursion P m → AllByRecursion P (cond b (s ∷ t ∷ l) (t ∷ m))
all_inserted_by P true s t l m p q a c = (p, (q, a))
all_inserted_by P false s t l m p q a c = (q, c)

pub all_inserted : (P : Span → Type 0) (s : Span) (l : List Span) → P s → AllByRecursion P l → AllByRecursion P (inserted s l)
all_inserted P s [] p a = (p, tt)
all_inserted P s (t ∷ l) p a = all_inserted_by P (is_before s t) s t l (inserted s l) p a.0 a.1 (all_inserted P s l p a.1)

sorted_by : (b : Bool) (s t : Span) (l : List Span) → is_before s t ≡ b → (t.key == s.key) ≡ false → IsSorted (t ∷ l) → IsSorted (inserted s l) → IsSorted (cond b (s ∷ t ∷ l) (t ∷ inserted s l))
sorted_by true s t l e d h m = ((e, all_map (λ u. is_before t u ≡ true) (λ u. is_before s u ≡ true) (λ u k. before_all s t u e k) l h.0), h)
sorted_by false s t l e d h m = (all_inserted (λ u. is_before t u ≡ true) s l (before_or_after s t d e) h.0, m)

pub sorted_inserted : (s : Span) (l : List Span) → AllByRecursion (λ t. (t.key == s.key) ≡ false) l → IsSorted l → IsSorted (inserted s l)
sorted_inserted s [] d h = (tt, tt)
sorted_inserted s (t ∷ l) d h = sorted_by (is_before s t) s t l refl d.0 h (sorted_inserted s l d.1 h.1)

other_key : (s t : Span) → (t.key == s.key) ≡ false → (s.key == t.key) ≡ false
other_key s t h = grind (arith, nat_tests)

distinct_by : (b : Bool) (s t : Span) (l : List Span) → AllByRecursion (λ u. (u.key == s.key) ≡ false) (t ∷ l) → HaveDistinctKeys (t ∷ l) → HaveDistinctKeys (inserted s l) → HaveDistinctKeys (cond b (s ∷ t ∷ l) (t ∷ inserted s l))
distinct_by true s t l d h m = (d, h)
distinct_by false s t l d h m = (all_inserted (λ u. (u.key == t.key) ≡ false) s l (other_key s t d.0) h.0, m)

distinct_inserted : (s : Span) (l : List Span) → AllByRecursion (λ t. (t.key == s.key) ≡ false) l → HaveDistinctKeys l → HaveDistinctKeys (inserted s l)
distinct_inserted s [] d h = (tt, tt)
distinct_inserted s (t ∷ l) d h = distinct_by (is_before s t) s t l d h (distinct_inserted s l d.1 h.1)

pub listed_inserted : (s : Span) (l : List Span) → has_key s.key l ≡ false → IsSpan s → IsListed l → IsListed (inserted s l)
listed_inserted s l new span h =
    let apart = absent_all s.key l new in
    record {
      sorted = sorted_inserted s l apart h.sorted;
      spans = all_inserted IsSpan s l span h.spans;
      distinct = distinct_inserted s l apart h.distinct;
    }

-- what goes
all_filter_by : (P : Span → Type 0) (b : Bool) (t : Span) (m : List Span) → P t → AllByRecursion P m → AllByRecursion P (cond b (t ∷ m) m)
all_filter_by P true t m p a = (p, a)
all_filter_by P false t m p a = a

all_filter : (P : Span → Type 0) (p : Span → Bool) (l : List Span) → AllByRecursion P l → AllByRecursion P (filter p l)
all_filter P p [] a = tt
all_filter P p (t ∷ l) a = all_filter_by P (p t) t (filter p l) a.0 (all_filter P p l a.1)

sorted_filter_by : (b : Bool) (t : Span) (m : List Span) → AllByRecursion (λ u. is_before t u ≡ true) m → IsSorted m → IsSorted (cond b (t ∷ m) m)
sorted_filter_by true t m a h = (a, h)
sorted_filter_by false t m a h = h

sorted_filter : (p : Span → Bool) (l : List Span) → IsSorted l → IsSorted (filter p l)
sorted_filter p [] h = tt
sorted_filter p (t ∷ l) h = sorted_filter_by (p t) t (filter p l) (all_filter (λ u. is_before t u ≡ true) p l h.0) (sorted_filter p l h.1)

distinct_filter_by : (b : Bool) (t : Span) (m : List Span) → AllByRecursion (λ u. (u.key == t.key) ≡ false) m → HaveDistinctKeys m → HaveDistinctKeys (cond b (t ∷ m) m)
distinct_filter_by true t m a h = (a, h)
distinct_filter_by false t m a h = h

distinct_filter : (p : Span → Bool) (l : List Span) → HaveDistinctKeys l → HaveDistinctKeys (filter p l)
distinct_filter p [] h = tt
distinct_filter p (t ∷ l) h = distinct_filter_by (p t) t (filter p l) (all_filter (λ u. (u.key == t.key) ≡ false) p l h.0) (distinct_filter p l h.1)

pub listed_without : (k : ℕ) (l : List Span) → IsListed l → IsListed (without_key k l)
listed_without k l h =
    let others : Span → Bool = λ s. not (s.key == k) in
    record {
      sorted = sorted_filter others l h.sorted;
      spans = all_filter IsSpan others l h.spans;
      distinct = distinct_filter others l h.distinct;
    }

-- the span under a key stands first or later
found_by : (b : Bool) (t s : Span) (o : Option Span) → cond b (Some t) o ≡ Some s → ((b ≡ true) × (t ≡ s)) ⊎ ((b ≡ false) × (o ≡ Some s))
found_by true t s o e = inl (refl, cc)
found_by false t s o e = inr (refl, e)

found_all : (P : Span → Type 0) (k : ℕ) (s : Span) (l : List Span) → AllByRecursion P l → find (λ t. t.key == k) l ≡ Some s → P s
found_all P k s [] a e = absurd (cc)
found_all P k s (t ∷ l) a e =
    elim (found_by (t.key == k) t s (find (λ u. u.key == k) l) e) [
      | inl here ↦ subst P here.1 a.0
      | inr later ↦ found_all P k s l a.1 later.1
    ]

pub has_key_found : (k : ℕ) (l : List Span) → is_some (find (λ t. t.key == k) l) ≡ has_key k l
has_key_found k [] = refl
has_key_found k (t ∷ l) = elim (t.key == k) as (λ b. is_some (cond b (Some t) (find (λ u. u.key == k) l)) ≡ (b || has_key k l)) [ true ↦ refl | false ↦ has_key_found k l ]

-- after a span came in
found_past_by : (b : Bool) (q : ℕ) (s t : Span) (l m : List Span) → (s.key == q) ≡ false → find (λ u. u.key == q) m ≡ find (λ u. u.key == q) l → find (λ u. u.key == q) (cond b (s ∷ t ∷ l) (t ∷ m)) ≡ find (λ u. u.key == q) (t ∷ l)
found_past_by true q s t l m d e = rw d refl
found_past_by false q s t l m d e = rw e refl

found_past : (q : ℕ) (s : Span) (l : List Span) → (s.key == q) ≡ false → find (λ t. t.key == q) (inserted s l) ≡ find (λ t. t.key == q) l
found_past q s [] d = rw d refl
found_past q s (t ∷ l) d = found_past_by (is_before s t) q s t l (inserted s l) d (found_past q s l d)

found_new_by : (b : Bool) (q : ℕ) (s t : Span) (l m : List Span) → (s.key == q) ≡ true → (t.key == q) ≡ false → find (λ u. u.key == q) m ≡ Some s → find (λ u. u.key == q) (cond b (s ∷ t ∷ l) (t ∷ m)) ≡ Some s
found_new_by true q s t l m d a e = rw d refl
found_new_by false q s t l m d a e = rw a e

not_that_key : (q : ℕ) (s t : Span) → (s.key == q) ≡ true → (t.key == s.key) ≡ false → (t.key == q) ≡ false
not_that_key q s t d a = grind (arith, nat_tests)

found_new : (q : ℕ) (s : Span) (l : List Span) → (s.key == q) ≡ true → AllByRecursion (λ t. (t.key == s.key) ≡ false) l → find (λ t. t.key == q) (inserted s l) ≡ Some s
found_new q s [] d a = rw d refl
found_new q s (t ∷ l) d a = found_new_by (is_before s t) q s t l (inserted s l) d (not_that_key q s t d a.0) (found_new q s l d a.1)

found_inserted_by : (b : Bool) (q : ℕ) (s : Span) (l : List Span) → (s.key == q) ≡ b → AllByRecursion (λ t. (t.key == s.key) ≡ false) l → find (λ t. t.key == q) (inserted s l) ≡ cond b (Some s) (find (λ t. t.key == q) l)
found_inserted_by true q s l d a = found_new q s l d a
found_inserted_by false q s l d a = found_past q s l d

pub found_inserted : (q : ℕ) (s : Span) (l : List Span) → has_key s.key l ≡ false → find (λ t. t.key == q) (inserted s l) ≡ cond (s.key == q) (Some s) (find (λ t. t.key == q) l)
found_inserted q s l new = found_inserted_by (s.key == q) q s l refl (absent_all s.key l new)

-- after a span went
found_rest_by : (k q : ℕ) (t : Span) (l m : List Span) → find (λ u. u.key == q) m ≡ cond (k == q) None (find (λ u. u.key == q) l) → find (λ u. u.key == q) (cond (not (t.key == k)) (t ∷ m) m) ≡ cond (k == q) None (find (λ u. u.key == q) (t ∷ l))
found_rest_by k q t l m e = grind (arith, nat_tests)

none_either : (b : Bool) (o : Option Span) → o ≡ None → o ≡ cond b None o
none_either true o e = e
none_either false o e = refl

pub found_rest : (k q : ℕ) (l : List Span) → find (λ t. t.key == q) (without_key k l) ≡ cond (k == q) None (find (λ t. t.key == q) l)
found_rest k q [] = none_either (k == q) None refl
found_rest k q (t ∷ l) = found_rest_by k q t l (without_key k l) (found_rest k q l)

-- the key and the coordinate are those of one span
other_than : (k : ℕ) (t u : Span) → (t.key == k) ≡ true → (u.key == t.key) ≡ false → not (u.key == k) ≡ true
other_than k t u h d = grind (arith, nat_tests)

without_first : (k : ℕ) (t : Span) (l : List Span) → (t.key == k) ≡ true → IsSorted (t ∷ l) → HaveDistinctKeys (t ∷ l) → without t (t ∷ l) ≡ without_key k (t ∷ l)
without_first k t l h sorted distinct =
    let elsewhere : Span → Bool = λ u. is_before t u || is_before u t in
    let others : Span → Bool = λ u. not (u.key == k) in
    let kept : filter elsewhere l ≡ l = filter_all elsewhere l (all_map (λ u. is_before t u ≡ true) (λ u. elsewhere u ≡ true) (λ u e. rw e refl) l sorted.0) in
    let kept_too : filter others l ≡ l = filter_all others l (all_map (λ u. (u.key == t.key) ≡ false) (λ u. others u ≡ true) (λ u e. other_than k t u h e) l distinct.0) in
    rw (never_before_itself t, h, kept, kept_too) refl

pub without_by_key : (k : ℕ) (s : Span) (l : List Span) → IsSorted l → HaveDistinctKeys l → find (λ t. t.key == k) l ≡ Some s → without s l ≡ without_key k l
without_by_key k s [] sorted distinct e = refl
without_by_key k s (t ∷ l) sorted distinct e =
    elim (found_by (t.key == k) t s (find (λ u. u.key == k) l) e) [
      | inl here ↦ subst (λ u. without u (t ∷ l) ≡ without_key k (t ∷ l)) here.1 (without_first k t l here.0 sorted distinct)
      | inr later ↦
          let before = found_all (λ u. is_before t u ≡ true) k s l sorted.0 later.1 in
          rw (or_right (is_before s t) (is_before t s) before, later.0) (ap (λ us. t ∷ us) (without_by_key k s l sorted.1 distinct.1 later.1))
    ]

pub without_absent : (k : ℕ) (l : List Span) → has_key k l ≡ false → without_key k l ≡ l
without_absent k l h = filter_all (λ s. not (s.key == k)) l (all_map (λ t. (t.key == k) ≡ false) (λ t. not (t.key == k) ≡ true) (λ t e. rw e refl) l (absent_all k l h))

taken_by : (b : Bool) (k : ℕ) (t : Span) (m : List Span) → (t.key == k) ≡ b → has_key k m ≡ false → has_key k (cond (not b) (t ∷ m) m) ≡ false
taken_by true k t m e h = h
taken_by false k t m e h = rw e h

pub has_key_without : (k : ℕ) (l : List Span) → has_key k (without_key k l) ≡ false
has_key_without k [] = refl
has_key_without k (t ∷ l) = taken_by (t.key == k) k t (without_key k l) refl (has_key_without k l)

-- there are no more spans than keys
all_of_keys : (s : Span) (l : List Span) → AllByRecursion (λ t. (t.key == s.key) ≡ false) l → AllByRecursion (λ k. eqb s.key k ≡ false) (map (λ t. t.key) l)
all_of_keys s [] a = tt
all_of_keys s (t ∷ l) a = (other_key s t a.0, all_of_keys s l a.1)

distinct_keys : (l : List Span) → HaveDistinctKeys l → IsDistinct eqb (map (λ s. s.key) l)
unfolding IsDistinct
distinct_keys [] h = tt
distinct_keys (s ∷ l) h = (all_of_keys s l h.0, distinct_keys l h.1)

key_below : (n q : ℕ) (s : Span) → s.key < n → eqb q s.key ≡ true → q < n
key_below n q s below e = grind (arith, nat_tests)

key_of : (q : ℕ) (l : List Span) → AllByRecursion IsSpan l → list_any (eqb q) (map (λ s. s.key) l) ≡ true → q < 2 ^ 32
key_of q [] spans e = absurd (cc)
key_of q (s ∷ l) spans e =
    elim (or_cases (eqb q s.key) (list_any (eqb q) (map (λ t. t.key) l)) e) [
      | inl here ↦ key_below (2 ^ 32) q s spans.0.key here
      | inr later ↦ key_of q l spans.1 later
    ]

pub few_spans : (l : List Span) → IsListed l → length l < 2 ^ 62
few_spans l h =
    let few = length-le_from_distinct_below (map (λ s. s.key) l) (2 ^ 32) (distinct_keys l h.distinct) (λ q e. key_of q l h.spans e) in
    omega (arith, few, length-map l (λ s. s.key))
