-- Some answers of a list exchanged in place, one place more.
use Rattle.std.proofs.Common.{◌≡◌, ◌≢◌, ◌⊎◌, inl, inr, ℕ, zero, suc, ◌+◌, ◌<◌, ◌≤◌, List, [], ◌∷◌, ◌++◌, length, get_or, set, refl, sym, ap, ◌∙◌, arith}
use Rattle.std.proofs.lemmas.Bool.{cases_eq, cases_lt}
use Rattle.std.proofs.lemmas.List.{get_or_append_left, get_or_past, get_or_push, get_or-set_other, get_or-set_same, length_push}
use Rattle.walk_model.specs.declared.route.Answer.{Answer}
use Rattle.route_book.specs.Differ.{Differ}

-- the number is at none of the first n places, or at one of them
abbrev pub IsAmong : List ℕ → ℕ → ℕ → Type 0
IsAmong places i n = (j : ℕ) × (j < n) × (get_or places j 0 ≡ i)

abbrev pub IsApart : List ℕ → ℕ → ℕ → Type 0
IsApart places i n = (j : ℕ) → j < n → get_or places j 0 ≢ i

apart_more : (places : List ℕ) (i n : ℕ) → IsApart places i n → get_or places n 0 ≢ i → IsApart places i (n + 1)
apart_more places i n none last j l =
    elim (cases_lt j n) as (λ _. get_or places j 0 ≢ i) [
      | inl before ↦ none j before
      | inr after ↦ let same : j ≡ n = omega (arith, l, after) in λ e. last (ap (λ k. get_or places k 0) (sym same) ∙ e)
    ]

pub apart_or_among : (places : List ℕ) (i n : ℕ) → IsApart places i n ⊎ IsAmong places i n
apart_or_among places i zero = inl (λ j l. absurd (omega (arith, l)))
apart_or_among places i (suc n) =
    elim (apart_or_among places i n) as (λ _. IsApart places i (suc n) ⊎ IsAmong places i (suc n)) [
      | inr h ↦ inr (h.0, (let l = h.1 in omega (arith, l)), h.2)
      | inl none ↦ elim (cases_eq (get_or places n 0) i) as (λ _. IsApart places i (suc n) ⊎ IsAmong places i (suc n)) [
        | inl e ↦ inr (n, omega arith, e)
        | inr differs ↦ inl (λ j l. apart_more places i n none differs j (omega (arith, l)))
      ]
    ]

-- places that rise are apart from those after them
pub before_apart : (places : List ℕ) (k : ℕ) → ((i j : ℕ) → i < j → j < length places → get_or places i 0 < get_or places j 0) → k < length places → IsApart places (get_or places k 0) k
before_apart places k rising within j l e = let less = rising j k l within in absurd (omega (arith, less, e))

-- what a list has at the places so far after one exchange more, where `x` goes in at the place k
pub one_more : (xs other : List Answer) (places : List ℕ) (k : ℕ) (x : Answer) → IsApart places (get_or places k 0) k → get_or places k 0 < length xs
    → ((j : ℕ) (d : Answer) → j < k → get_or xs (get_or places j 0) d ≡ get_or other j d) → ((d : Answer) → x ≡ get_or other k d)
    → (j : ℕ) (d : Answer) → j < k + 1 → get_or (set xs (get_or places k 0) x) (get_or places j 0) d ≡ get_or other j d
one_more xs other places k x apart within done new j d l =
    elim (cases_lt j k) as (λ _. get_or (set xs (get_or places k 0) x) (get_or places j 0) d ≡ get_or other j d) [
      | inl before ↦ get_or-set_other xs (get_or places k 0) (get_or places j 0) x d (apart j before) ∙ done j d before
      | inr after ↦
          let same : j ≡ k = omega (arith, l, after) in
          ap (λ m. get_or (set xs (get_or places k 0) x) (get_or places m 0) d) same ∙ get_or-set_same xs (get_or places k 0) x d within ∙ new d ∙ ap (λ m. get_or other m d) (sym same)
    ]

-- what came out so far, after one exchange more, where `y` comes out
pub one_out : (away here : List Answer) (places : List ℕ) (k : ℕ) (y : Answer) → k < length away
    → ((j : ℕ) (d : Answer) → j < k → get_or away j d ≡ get_or here (get_or places j 0) d) → ((d : Answer) → y ≡ get_or here (get_or places k 0) d)
    → (j : ℕ) (d : Answer) → j < k + 1 → get_or (set away k y) j d ≡ get_or here (get_or places j 0) d
one_out away here places k y within out new j d l =
    elim (cases_lt j k) as (λ _. get_or (set away k y) j d ≡ get_or here (get_or places j 0) d) [
      | inl before ↦ get_or-set_other away k j y d (λ e. absurd (omega (arith, before, e))) ∙ out j d before
      | inr after ↦
          let same : j ≡ k = omega (arith, l, after) in
          ap (λ m. get_or (set away k y) m d) same ∙ get_or-set_same away k y d within ∙ new d ∙ ap (λ m. get_or here (get_or places m 0) d) (sym same)
    ]

-- the lists differ at most at the places, as far as the first n answers
pub record DifferBelow (here there : List Answer) (n : ℕ) (places : List ℕ) (away : List Answer) : Type 0 where
  pub many : length away ≡ length places
  pub rising : (i j : ℕ) → i < j → j < length places → get_or places i 0 < get_or places j 0
  pub before : (j : ℕ) → j < length places → get_or places j 0 < n
  pub at : (j : ℕ) (d : Answer) → j < length places → get_or there (get_or places j 0) d ≡ get_or away j d
  pub others : (i : ℕ) (d : Answer) → i < n → IsApart places i (length places) → get_or there i d ≡ get_or here i d

module _ (here there : List Answer) (n : ℕ) (places : List ℕ) (away : List Answer) (so : DifferBelow here there n places away) where
  -- one answer more, which is the same
  pub same_more : ((d : Answer) → get_or there n d ≡ get_or here n d) → DifferBelow here there (n + 1) places away
  same_more same = record {
    many = so.many;
    rising = so.rising;
    before = λ j l. let less = so.before j l in omega (arith, less);
    at = so.at;
    others = λ i d l none. elim (cases_lt i n) as (λ _. get_or there i d ≡ get_or here i d) [
      | inl less ↦ so.others i d less none
      | inr last ↦ let e : i ≡ n = omega (arith, l, last) in ap (λ k. get_or there k d) e ∙ same d ∙ ap (λ k. get_or here k d) (sym e)
    ];
  }

  -- one answer more, which is another one
  module _ (a : Answer) (is : (d : Answer) → get_or there n d ≡ a) where
    size : length (places ++ n ∷ []) ≡ length places + 1
    size = length_push places n

    old : (j : ℕ) → j < length places → get_or (places ++ n ∷ []) j 0 ≡ get_or places j 0
    old j l = get_or_append_left places (n ∷ []) 0 j l

    new : (j : ℕ) → length places ≡ j → get_or (places ++ n ∷ []) j 0 ≡ n
    new j e = get_or_push places n 0 j e

    below_last : (j : ℕ) → length places ≤ j → j < length (places ++ n ∷ []) → length places ≡ j
    below_last j l m = omega (arith, l, m, size)

    rising_more : (i j : ℕ) → i < j → j < length (places ++ n ∷ []) → get_or (places ++ n ∷ []) i 0 < get_or (places ++ n ∷ []) j 0
    rising_more i j l m = elim (cases_lt j (length places)) as (λ _. get_or (places ++ n ∷ []) i 0 < get_or (places ++ n ∷ []) j 0) [
      | inl less ↦ let first : i < length places = omega (arith, l, less) in rw (old i first, old j less) (so.rising i j l less)
      | inr last ↦ let e = below_last j last m in let first : i < length places = omega (arith, l, e) in rw (old i first, new j e) (so.before i first)
    ]

    before_more : (j : ℕ) → j < length (places ++ n ∷ []) → get_or (places ++ n ∷ []) j 0 < n + 1
    before_more j m = elim (cases_lt j (length places)) as (λ _. get_or (places ++ n ∷ []) j 0 < n + 1) [
      | inl less ↦ let was = so.before j less in let e = old j less in omega (arith, was, e)
      | inr last ↦ let e = new j (below_last j last m) in omega (arith, e)
    ]

    at_more : (j : ℕ) (d : Answer) → j < length (places ++ n ∷ []) → get_or there (get_or (places ++ n ∷ []) j 0) d ≡ get_or (away ++ a ∷ []) j d
    at_more j d m = elim (cases_lt j (length places)) as (λ _. get_or there (get_or (places ++ n ∷ []) j 0) d ≡ get_or (away ++ a ∷ []) j d) [
      | inl less ↦
          let many = so.many in
          ap (λ k. get_or there k d) (old j less) ∙ so.at j d less ∙ sym (get_or_append_left away (a ∷ []) d j (omega (arith, less, many)))
      | inr last ↦ let e = below_last j last m in ap (λ k. get_or there k d) (new j e) ∙ is d ∙ sym (get_or_push away a d j (so.many ∙ e))
    ]

    others_more : (i : ℕ) (d : Answer) → i < n + 1 → IsApart (places ++ n ∷ []) i (length (places ++ n ∷ [])) → get_or there i d ≡ get_or here i d
    others_more i d l none = elim (cases_lt i n) as (λ _. get_or there i d ≡ get_or here i d) [
      | inl less ↦ so.others i d less (λ j m e. none j (omega (arith, m, size)) (old j m ∙ e))
      | inr last ↦ absurd (none (length places) (omega (arith, size)) (new (length places) refl ∙ (let e : n ≡ i = omega (arith, l, last) in e)))
    ]

    pub other_more : DifferBelow here there (n + 1) (places ++ n ∷ []) (away ++ a ∷ [])
    other_more = record {
      many = length_push away a ∙ ap (λ k. k + 1) so.many ∙ sym size;
      rising = rising_more;
      before = before_more;
      at = at_more;
      others = others_more;
    }

  -- all answers
  pub differ_at_all : length there ≡ length here → n ≡ length here → Differ here there places away
  differ_at_all same_length all = record {
    same_length = same_length;
    many = so.many;
    rising = so.rising;
    within = λ j l. let less = so.before j l in omega (arith, less, all);
    at = so.at;
    others = λ i d none. elim (cases_lt i n) as (λ _. get_or there i d ≡ get_or here i d) [
      | inl less ↦ so.others i d less none
      | inr past ↦ get_or_past there i d (omega (arith, past, all, same_length)) ∙ sym (get_or_past here i d (omega (arith, past, all)))
    ];
  }
