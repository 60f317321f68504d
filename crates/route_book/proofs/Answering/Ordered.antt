-- Answers in the order of their numbers, and what is found among them.
use Rattle.std.proofs.Common.{◌≡◌, ◌≢◌, ℕ, ◌<◌, ◌≤◌, false, eqb, Option, None, Some, List, [], ◌∷◌, length, get_or, map, refl, sym, ap, ap₂, subst, ◌∙◌, inl, inr, arith}
use Rattle.std.specs.Prelude.{All}
use Rattle.std.specs.List.{AllByRecursion as Each, AllZip}
use Rattle.std.specs.List.Sorted.{IsNonDecreasingBy, IsPartitionPoint}
use Rattle.std.specs.Option.{option_or}
use Rattle.std.specs.Ordering.{nat_cmp, ordering_index}
use Rattle.std.specs.declared.cmp.Ordering.TheVariants.{Less, Equal, Greater}
use Rattle.std.proofs.lemmas.Bool.{cases_lt, ne_eqb}
use Rattle.std.proofs.lemmas.Bool.Decides.{Decides-eqb, nat_tests}
use Rattle.std.proofs.lemmas.Cmp.{ranked}
use Rattle.std.proofs.lemmas.List.Elements.{All-from_recursion, recursion_from_All}
use Rattle.walk_model.specs.declared.route.Answer.{Answer}
use Rattle.scene_model.specs.Stale.{answer_of}
use Rattle.scene_model.proofs.Editing.Entries.{Pairs, pairs_from, pairs_to, pairs_weaker, found_none, key_found}
use Rattle.route_book.specs.Exchange.{AreByRisingEdge}
use Rattle.route_book.specs.Search.{AreRising, newer}
use Rattle.route_book.proofs.Answering.Found.{each_found}

each_from : (n : ℕ) (xs : List Answer) → Each (λ m. n < m) (map (λ a. a.edge) xs) → Each (λ a. n < a.edge) xs
each_from n [] e = tt
each_from n (x ∷ xs) e = (e.0, each_from n xs e.1)

pairs_of : (xs : List Answer) → Pairs (λ m n. m < n) (map (λ a. a.edge) xs) → Pairs (λ a b. a.edge < b.edge) xs
pairs_of [] h = tt
pairs_of (x ∷ xs) h = (each_from x.edge xs h.0, pairs_of xs h.1)

-- answers of rising numbers are in order
pub in_order : (xs : List Answer) (numbers : List ℕ) → map (λ a. a.edge) xs ≡ numbers → AreRising numbers → AreByRisingEdge xs
in_order xs numbers are rising =
    pairs_to (λ a b. a.edge < b.edge) xs (pairs_of xs (pairs_from (λ m n. m < n) (map (λ a. a.edge) xs) (subst AreRising (sym are) rising)))

differ : (a b : Answer) → a.edge < b.edge → a.edge ≢ b.edge
differ a b l e = absurd (omega (arith, l, e))

all_found : (xs : List Answer) → AreByRisingEdge xs → All (λ a. answer_of xs a.edge ≡ Some a) xs
all_found xs order =
    All-from_recursion (λ a. answer_of xs a.edge ≡ Some a) xs
    (each_found (λ (a : Answer). a.edge) eqb Decides-eqb xs
    (pairs_weaker (λ a b. a.edge < b.edge) (λ a b. a.edge ≢ b.edge) differ xs (pairs_from (λ a b. a.edge < b.edge) xs order)))

-- an answer with the number is the one that is found
pub got : (xs : List Answer) (n i : ℕ) (a : Answer) → AreByRisingEdge xs → i < length xs → a ≡ get_or xs i a → nat_cmp a.edge n ≡ Equal → Some a ≡ answer_of xs n
got xs n i a order l at equal =
    let here : answer_of xs a.edge ≡ Some a = subst (λ b. answer_of xs b.edge ≡ Some b) (sym at) (all_found xs order i a l) in
    sym (subst (λ m. answer_of xs m ≡ Some a) (ranked a.edge n Equal (sym equal)) here)

index_rises : (a b n : ℕ) → a ≤ b → ordering_index (nat_cmp a n) ≤ ordering_index (nat_cmp b n)
index_rises a b n l = grind (arith, nat_tests)

no_fall : (xs : List Answer) (n : ℕ) → AreByRisingEdge xs → IsNonDecreasingBy (λ y. ordering_index (nat_cmp y.edge n)) xs
no_fall xs n order i j d l within =
    elim (cases_lt i j) as (λ _. ordering_index (nat_cmp (get_or xs i d).edge n) ≤ ordering_index (nat_cmp (get_or xs j d).edge n)) [
      | inl before ↦ let rise = order i j d before within in index_rises (get_or xs i d).edge (get_or xs j d).edge n (omega (arith, rise))
      | inr after ↦ let same : i ≡ j = omega (arith, l, after) in
          index_rises (get_or xs i d).edge (get_or xs j d).edge n (let e : (get_or xs i d).edge ≡ (get_or xs j d).edge = ap (λ k. (get_or xs k d).edge) same in omega (arith, e))
    ]

not_less : (a n : ℕ) → nat_cmp a n ≡ Less → eqb a n ≡ false
not_less a n h = let l = ranked a n Less (sym h) in ne_eqb a n (λ e. absurd (omega (arith, l, e)))

not_greater : (a n : ℕ) → nat_cmp a n ≡ Greater → eqb a n ≡ false
not_greater a n h = let l = ranked a n Greater (sym h) in ne_eqb a n (λ e. absurd (omega (arith, l, e)))

-- where none has the number, none is found
pub not_got : (xs : List Answer) (n i : ℕ) → AreByRisingEdge xs
    → (IsNonDecreasingBy (λ y. ordering_index (nat_cmp y.edge n)) xs → IsPartitionPoint (λ y. nat_cmp y.edge n ≡ Less) (λ y. nat_cmp y.edge n ≡ Greater) xs i)
    → answer_of xs n ≡ None
not_got xs n i order point =
    let parts = point (no_fall xs n order) in
    found_none (λ a. eqb a.edge n) xs
    (recursion_from_All (λ a. eqb a.edge n ≡ false) xs (λ k d within.
    elim (cases_lt k i) as (λ _. eqb (get_or xs k d).edge n ≡ false) [
      | inl before ↦ not_less (get_or xs k d).edge n (parts.0 k d (omega arith) before)
      | inr after ↦ not_greater (get_or xs k d).edge n (parts.1 k d after within)
    ]))

-- answers that are each of its number
pub zip_edges : (R : ℕ → Answer → Type 0) → ((n : ℕ) (a : Answer) → R n a → a.edge ≡ n) → (numbers : List ℕ) (xs : List Answer) → AllZip R numbers xs → map (λ a. a.edge) xs ≡ numbers
zip_edges R own [] [] z = refl
zip_edges R own [] (x ∷ xs) z = absurd z
zip_edges R own (n ∷ numbers) [] z = absurd z
zip_edges R own (n ∷ numbers) (x ∷ xs) z = ap₂ (λ a l. a ∷ l) (own n x z.0) (zip_edges R own numbers xs z.1)

own_by : (found kept : List Answer) (n : ℕ) (a : Answer) (o : Option Answer) → answer_of found n ≡ o → option_or o (answer_of kept n) ≡ Some a → a.edge ≡ n
own_by found kept n a (Some b) at is = key_found (λ (x : Answer). x.edge) eqb Decides-eqb n found a (at ∙ is)
own_by found kept n a None at is = key_found (λ (x : Answer). x.edge) eqb Decides-eqb n kept a is

-- the newer answer is of its number
pub newer_own : (found kept : List Answer) (n : ℕ) (a : Answer) → newer found kept n ≡ Some a → a.edge ≡ n
newer_own found kept n a is = own_by found kept n a (answer_of found n) refl is
