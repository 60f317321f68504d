-- Where an entry stands that is found by its id, and what stands there after a change.
use Rattle.std.proofs.Common.{◌≡◌, ◌≢◌, ℕ, zero, suc, ◌<◌, ℤ, Bool, true, false, cond, not, Option, None, Some, List, [], ◌∷◌, map, length, take, set, refl, sym, ap, subst, ◌∙◌, arith, int_eq, true≢false, is_some}
use Rattle.std.specs.Prelude.{find, position, remove, slice_get, filter, nat_lt, AllPairs, IsSome, if◌then◌else◌}
use Rattle.std.specs.List.{AllByRecursion as Each, position_or_len}
use Rattle.std.proofs.lemmas.Bool.{ltb-true}
use Rattle.std.proofs.lemmas.Bool.Decides.{Decides-int_eq}
use Rattle.std.proofs.lemmas.Option.{none-some, same_Some}
use Rattle.std.proofs.lemmas.List.Folds.{find_at}
use Rattle.scene_model.proofs.Editing.Entries.{Pairs, pairs_from, key_found, changed_at_place, without_at_place, found_none}
use Rattle.scene_model.proofs.Editing.Refusals.{none_at}

module _ {X : Type 0} (key : X → ℤ) where
  abbrev has : ℤ → X → Bool
  has k x = int_eq (key x) k

  -- what is known of a place that is returned
  record IsPlace (k : ℤ) (xs : List X) (n : ℕ) : Type 0 where
    entry : X
    at : slice_get xs n ≡ Some entry
    found : find (has k) xs ≡ Some entry
    place : position_or_len (has k) xs ≡ n

  some_at : (xs : List X) (n : ℕ) → n < length xs → (x : X) × (slice_get xs n ≡ Some x)
  some_at [] n l = absurd (omega (arith, l))
  some_at (x ∷ xs) zero l = (x, refl)
  some_at (x ∷ xs) (suc n) l = some_at xs n (omega (arith, l))

  some_when : (b : Bool) (m n : ℕ) → cond b (Some m) None ≡ Some n → (b ≡ true) × (m ≡ n)
  some_when true m n h = (refl, same_Some m n h)
  some_when false m n h = absurd (none-some n h)

  placed : (k : ℤ) (xs : List X) (n : ℕ) → position (has k) xs ≡ Some n → IsPlace k xs n
  placed k xs n h =
      let t = some_when (nat_lt (position_or_len (has k) xs) (length xs)) (position_or_len (has k) xs) n h in
      let s = some_at xs (position_or_len (has k) xs) (ltb-true (position_or_len (has k) xs) (length xs) t.0) in
      record {
        entry = s.0;
        at = subst (λ m. slice_get xs m ≡ Some s.0) t.1 s.1;
        found = find_at (has k) xs ∙ s.1;
        place = t.1;
      }

  -- an id that is found has a place
  pub has_place : (k : ℤ) (xs : List X) → IsSome (find (has k) xs) → IsSome (position (has k) xs)
  has_place k xs h = by (position (has k) xs) refl
    where
      by : (o : Option ℕ) → position (has k) xs ≡ o → IsSome o
      by None e = absurd (true≢false (sym h ∙ ap is_some (found_none (has k) xs (none_at (has k) xs e))))
      by (Some n) e = refl

  -- the entry there has the id
  pub place_has : (k : ℤ) (xs : List X) (n : ℕ) → position (has k) xs ≡ Some n → (x : X) × (slice_get xs n ≡ Some x) × (key x ≡ k)
  place_has k xs n h =
      let p = placed k xs n h in
      (p.entry, p.at, key_found key int_eq Decides-int_eq k xs p.entry p.found)

  -- to write at the place is to change the entry with the id
  pub set_there : (k : ℤ) (xs : List X) (n : ℕ) (new : X) → AllPairs (λ x y. key x ≢ key y) xs → position (has k) xs ≡ Some n
      → set xs n new ≡ map (λ x. if int_eq (key x) k then new else x) xs
  set_there k xs n new differ h =
      let p = placed k xs n h in
      ap (λ m. set xs m new) (sym p.place)
      ∙ sym (changed_at_place key int_eq Decides-int_eq k (λ _. new) p.entry xs (pairs_from (λ x y. key x ≢ key y) xs differ) p.found)

  -- removing the entry at the place is leaving out the entry with the id
  pub taken_there : (k : ℤ) (xs : List X) (n : ℕ) → AllPairs (λ x y. key x ≢ key y) xs → position (has k) xs ≡ Some n
      → remove xs n ≡ filter (λ x. not (int_eq (key x) k)) xs
  taken_there k xs n differ h =
      let p = placed k xs n h in
      ap (remove xs) (sym p.place)
      ∙ sym (without_at_place key int_eq Decides-int_eq k p.entry xs (pairs_from (λ x y. key x ≢ key y) xs differ) p.found)

  each_at : (P : X → Type 0) (xs : List X) (n : ℕ) (x : X) → Each P xs → slice_get xs n ≡ Some x → P x
  each_at P [] n x e h = absurd (none-some x h)
  each_at P (y ∷ ys) zero x e h = subst P (same_Some y x h) e.0
  each_at P (y ∷ ys) (suc n) x e h = each_at P ys n x e.1 h

  other : (a b : ℤ) (c : Bool) → int_eq a b ≡ c → a ≢ b → c ≡ false
  other a b true e n = absurd (n ((Decides-int_eq a b).0 e))
  other a b false e n = refl

  fresh_by : (xs : List X) (n : ℕ) (x : X) → Pairs (λ y z. key y ≢ key z) xs → slice_get xs n ≡ Some x → find (has (key x)) (take n xs) ≡ None
  fresh_by [] n x d h = absurd (none-some x h)
  fresh_by (y ∷ ys) zero x d h = refl
  fresh_by (y ∷ ys) (suc n) x d h =
      let apart : int_eq (key y) (key x) ≡ false = other (key y) (key x) (int_eq (key y) (key x)) refl (each_at (λ z. key y ≢ key z) ys n x d.0 h) in
      rw apart (fresh_by ys n x d.1 h)

  -- no entry before another has its id
  pub fresh : (xs : List X) (n : ℕ) (x : X) → AllPairs (λ y z. key y ≢ key z) xs → slice_get xs n ≡ Some x → find (has (key x)) (take n xs) ≡ None
  fresh xs n x d h = fresh_by xs n x (pairs_from (λ y z. key y ≢ key z) xs d) h
