-- The numbers of each tree, listed in order: classes.
use Rattle.std.proofs.Common.{◌≡◌, ◌≢◌, ◌↔◌, ℕ, suc, zero, ◌+◌, ◌<◌, ◌≤◌, List, [], ◌∷◌, ◌++◌, length, get_or, set, inl, inr, refl, sym, ap, subst, ◌∙◌, arith, below_more}
use Rattle.std.specs.Prelude.{All, Contains}
use Rattle.std.proofs.lemmas.List.{get_or_append_left, get_or_push, length_push, get_or-set_same, get_or-set_other, length-set, get_or-map, length-map, get_or_default}
use Rattle.std.proofs.lemmas.List.Elements.{All-from_get_or, All-contains, Contains-get_or, Contains-append_left, Contains-push, Contains-push_cases}
use Rattle.channel_bundles.specs.declared.forest.Seat.{Seat}
use Rattle.channel_bundles.specs.Classes.{Connected, LeadsUp, AreTreeNumbers, AreClasses, Rise}
use Rattle.channel_bundles.specs.Shares.{AreSeats, seat_at}
use Rattle.channel_bundles.proofs.Trees.{cases_below, cases_same, connected_back, connected_by, connected_on}

-- the numbers below i are listed by their trees
pub record IsListing (numbers : List ℕ) (i : ℕ) (lists : List (List ℕ)) : Type 0 where
  pub has : (m : ℕ) → m < length lists → (k : ℕ) → Contains (get_or lists m []) k ↔ ((k < i) × (get_or numbers k 0 ≡ m))
  pub rising : (m : ℕ) → m < length lists → Rise (get_or lists m [])

in_none : (xs : List ℕ) (k : ℕ) → length xs ≡ 0 → Contains xs k → ⊥
in_none xs k none (at, h, e) = absurd (omega arith)

pub listed_none : (numbers : List ℕ) (lists : List (List ℕ)) → ((m : ℕ) → m < length lists → length (get_or lists m []) ≡ 0) → IsListing numbers 0 lists
listed_none numbers lists empty = record {
  has = λ m h k. (λ c. absurd (in_none _ k (empty m h) c), λ below. absurd (omega (arith, below.0)));
  rising = λ m h a b before g. absurd (omega (arith, empty m h));
}

rise_more : (xs : List ℕ) (i : ℕ) → Rise xs → ((k : ℕ) → Contains xs k → k < i) → Rise (xs ++ i ∷ [])
rise_more xs i rise below m n before h =
    let more = xs ++ i ∷ [] in
    let kept : (k : ℕ) → k < length xs → get_or more k 0 ≡ get_or xs k 0 = λ k g. get_or_append_left xs (i ∷ []) 0 k g in
    let count : length more ≡ length xs + 1 = length_push xs i in
    below_more (λ q. m < q → get_or more m 0 < get_or more q 0) (length xs)
    (λ q g less. omega (arith, kept q g, kept m (omega arith), rise m q less g))
    (λ less. omega (arith, kept m less, below (get_or xs m 0) (Contains-get_or xs m 0 less), get_or_push xs i 0 (length xs) refl))
    n (omega arith) before

pub listed_more : (numbers : List ℕ) (i tree : ℕ) (lists : List (List ℕ)) → IsListing numbers i lists → tree ≡ get_or numbers i 0 → tree < length lists →
    IsListing numbers (i + 1) (set lists tree (get_or lists tree [] ++ i ∷ []))
listed_more numbers i tree lists is tree_is in_tree =
    let own = get_or lists tree [] in
    let made = set lists tree (own ++ i ∷ []) in
    let count : length made ≡ length lists = length-set lists tree (own ++ i ∷ []) in
    let here : get_or made tree [] ≡ own ++ i ∷ [] = get_or-set_same lists tree (own ++ i ∷ []) [] in_tree in
    let other : (m : ℕ) → m ≢ tree → get_or made m [] ≡ get_or lists m [] = λ m ne. get_or-set_other lists tree m (own ++ i ∷ []) [] ne in
    let has_own : (k : ℕ) → Contains (own ++ i ∷ []) k ↔ ((k < i + 1) × (get_or numbers k 0 ≡ tree)) = λ k. (
      λ c. elim (Contains-push_cases own i k c) as (λ _. (k < i + 1) × (get_or numbers k 0 ≡ tree)) [
        | inl before ↦ (let old = (is.has tree in_tree k).0 before in (omega (arith, old.0), old.1))
        | inr now ↦ (omega arith, ap (λ n. get_or numbers n 0) (sym now) ∙ sym tree_is)
      ],
      λ both. cases_same k i
          (λ e. subst (λ n. Contains (own ++ i ∷ []) n) (sym e) (Contains-push own i))
          (λ ne. Contains-append_left own (i ∷ []) k ((is.has tree in_tree k).1 (omega (arith, both.0), both.1))),
    ) in
    record {
      has = λ m h k. cases_same m tree
          (λ e. subst (λ n. Contains (get_or made n []) k ↔ ((k < i + 1) × (get_or numbers k 0 ≡ n))) (sym e)
          (subst (λ xs. Contains xs k ↔ ((k < i + 1) × (get_or numbers k 0 ≡ tree))) (sym here) (has_own k)))
          (λ ne. subst (λ xs. Contains xs k ↔ ((k < i + 1) × (get_or numbers k 0 ≡ m))) (sym (other m ne))
          (let was = is.has m (omega (arith, h, count)) k in (
            λ c. (let old = was.0 c in (omega (arith, old.0), old.1)),
            λ both. cases_same k i
                (λ e. absurd (ne (sym both.1 ∙ ap (λ n. get_or numbers n 0) e ∙ sym tree_is)))
                (λ differ. was.1 (omega (arith, both.0), both.1)),
          )));
      rising = λ m h. cases_same m tree
          (λ e. subst (λ n. Rise (get_or made n [])) (sym e) (subst Rise (sym here) (rise_more own i (is.rising tree in_tree) (λ k c. ((is.has tree in_tree k).0 c).0))))
          (λ ne. subst Rise (sym (other m ne)) (is.rising m (omega (arith, h, count))));
    }

pub seated_none : (lists : List (List ℕ)) (seats : List Seat) → seats ≡ [] → ((m : ℕ) → m < length lists → length (get_or lists m []) ≡ 0) → AreSeats 0 lists seats
seated_none lists seats none empty = record {
  all = ap length none;
  own = λ k p h g. absurd (omega (arith, g, empty k h));
}

-- the seats of the numbers of the list with this index
abbrev SeatsOf : List Seat → ℕ → List ℕ → Type 0
SeatsOf seats k list = (p : ℕ) → p < length list → seat_at seats (get_or list p 0) ≡ record { class = k; place = p }

pub seated_more : (numbers : List ℕ) (i tree place : ℕ) (lists : List (List ℕ)) (seats : List Seat) → IsListing numbers i lists → AreSeats i lists seats → tree < length lists → place ≡ length (get_or lists tree []) →
    AreSeats (i + 1) (set lists tree (get_or lists tree [] ++ i ∷ [])) (seats ++ record { class = tree; place = place } ∷ [])
seated_more numbers i tree place lists seats is are in_tree is_place =
    let none : Seat = record { class = 0; place = 0 } in
    let own = get_or lists tree [] in
    let made = set lists tree (own ++ i ∷ []) in
    let new : Seat = record { class = tree; place = place } in
    let more = seats ++ new ∷ [] in
    let count : length made ≡ length lists = length-set lists tree (own ++ i ∷ []) in
    let kept : (k : ℕ) → k < length lists → SeatsOf more k (get_or lists k []) = λ k h p g.
    let before : get_or (get_or lists k []) p 0 < i = ((is.has k h (get_or (get_or lists k []) p 0)).0 (Contains-get_or (get_or lists k []) p 0 g)).0 in
    get_or_append_left seats (new ∷ []) none (get_or (get_or lists k []) p 0) (omega (arith, before, are.all)) ∙ are.own k p h g in
    let last : seat_at more i ≡ new = get_or_push seats new none i are.all in
    let here : SeatsOf more tree (own ++ i ∷ []) = λ p g. cases_below p (length own)
    (λ less. ap (seat_at more) (get_or_append_left own (i ∷ []) 0 p less) ∙ kept tree in_tree p less)
    (λ from.
    let at : length own ≡ p = omega (arith, from, g, length_push own i) in
    ap (seat_at more) (get_or_push own i 0 p at) ∙ last ∙ ap (λ n. record { class = tree; place = n }) (is_place ∙ at)) in
    record {
      all = length_push seats new ∙ ap (λ n. n + 1) are.all;
      own = λ k p h. cases_same k tree
          (λ e. subst (λ n. SeatsOf more n (get_or made n [])) (sym e) (subst (SeatsOf more tree) (sym (get_or-set_same lists tree (own ++ i ∷ []) [] in_tree)) here) p)
          (λ ne. subst (SeatsOf more k) (sym (get_or-set_other lists tree k (own ++ i ∷ []) [] ne)) (kept k (omega (arith, h, count))) p);
    }

-- what holds of each list holds of one that is among them
at_list : (P : List ℕ → Type 0) (lists : List (List ℕ)) (places : List ℕ) → ((m : ℕ) → m < length lists → P (get_or lists m [])) → Contains lists places → P places
at_list P lists places each c = All-contains P lists places (All-from_get_or P lists [] each) c

-- the first number of a rising list is its least
pub first_least : (places : List ℕ) (i : ℕ) → Rise places → Contains places i → get_or places 0 0 ≤ i
first_least places i rise (zero, h, e) = omega (arith, e, get_or_default places 0 0 i h)
first_least places i rise (suc k, h, e) = omega (arith, e, get_or_default places (suc k) 0 i h, rise 0 (suc k) (omega arith) h)

-- connected numbers have one tree
same_number : (above roots numbers : List ℕ) → AreTreeNumbers above (length above) roots numbers → (i j : ℕ) → Connected (LeadsUp above) i j → get_or numbers i 0 ≡ get_or numbers j 0
same_number above roots numbers are i j (Connected.same n) = refl
same_number above roots numbers are i j (Connected.onward a m b c up) =
    same_number above roots numbers are i m c ∙ sym (ap (λ n. get_or numbers n 0) (sym up.1) ∙ are.up m up.0)
same_number above roots numbers are i j (Connected.back a m b c up) =
    same_number above roots numbers are i m c ∙ ap (λ n. get_or numbers n 0) (sym up.1) ∙ are.up j up.0

pub listed_all : (above roots numbers : List ℕ) (lists : List (List ℕ)) → AreTreeNumbers above (length above) roots numbers → length lists ≡ length roots → IsListing numbers (length above) lists →
    AreClasses (Connected (LeadsUp above)) (length above) lists
listed_all above roots numbers lists are count is =
    let n = length above in
    let root : ℕ → ℕ = λ m. get_or roots m 0 in
    let number : ℕ → ℕ = λ k. get_or numbers k 0 in
    let has_root : (m : ℕ) → m < length lists → Contains (get_or lists m []) (root m) = λ m h. (is.has m h (root m)).1 (are.roots_within m (omega arith), are.own m (omega arith)) in
    let first : (m : ℕ) → m < length lists → get_or (get_or lists m []) 0 0 ≡ root m = λ m h.
    let list = get_or lists m [] in
    let some : 0 < length list = omega (arith, (has_root m h).1) in
    let least = first_least list (root m) (is.rising m h) (has_root m h) in
    let own = (is.has m h (get_or list 0 0)).0 (Contains-get_or list 0 0 some) in
    let after = are.not_before (get_or list 0 0) own.0 in
    omega (arith, least, after, ap root own.1) in
    record {
      within = All-from_get_or (All (λ i. i < n)) lists [] (λ m h. All-from_get_or (λ i. i < n) (get_or lists m []) 0 (λ k g. ((is.has m h _).0 (Contains-get_or (get_or lists m []) k 0 g)).0));
      some = All-from_get_or (λ places. 0 < length places) lists [] (λ m h. omega (arith, (has_root m h).1));
      rising = All-from_get_or Rise lists [] is.rising;
      firsts = λ a b before h.
          let in_b : b < length lists = omega (arith, h, length-map lists (λ places. get_or places 0 0)) in
          omega (arith, get_or-map (λ places. get_or places 0 0) lists a [] 0 (omega arith), get_or-map (λ places. get_or places 0 0) lists b [] 0 in_b, first a (omega arith), first b in_b, are.rise a b before (omega arith));
      whole = λ i h. (get_or lists (number i) [], Contains-get_or lists (number i) [] (omega (arith, are.within i h)), (is.has (number i) (omega (arith, are.within i h)) i).1 (h, refl));
      linked = λ places i j has_places has_i h. at_list (λ xs. Contains xs i → (Contains xs j ↔ Connected (LeadsUp above) i j)) lists places
          (λ m in_m c.
          let own = (is.has m in_m i).0 c in
          let to_root : (k : ℕ) → k < n → number k ≡ m → Connected (LeadsUp above) k (root m) = λ k g e. subst (λ q. Connected (LeadsUp above) k (root q)) e (are.to_root k g) in (
            λ d. connected_on i (root m) j (to_root i own.0 own.1) (connected_back j (root m) (to_root j h ((is.has m in_m j).0 d).1)),
            λ way. (is.has m in_m j).1 (h, sym (same_number above roots numbers are i j way) ∙ own.1),
          ))
          has_places has_i;
    }

-- classes of a relation are those of another one that connects the same numbers
pub classes_by : {linked other : ℕ → ℕ → Type 0} (count : ℕ) (classes : List (List ℕ)) → ((i j : ℕ) → linked i j → Connected other i j) → ((i j : ℕ) → other i j → Connected linked i j) →
    AreClasses (Connected linked) count classes → AreClasses (Connected other) count classes
classes_by count classes there back are = record {
  within = are.within;
  some = are.some;
  rising = are.rising;
  firsts = are.firsts;
  whole = are.whole;
  linked = λ places i j has_places has_i h. (
      let was = are.linked places i j has_places has_i h in
      (λ c. connected_by there i j (was.0 c), λ way. was.1 (connected_by back i j way))
      );
}
