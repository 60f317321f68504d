-- The least that is ahead of a point: some exit that counts there has it, and none has less.
use Rattle.std.proofs.Common.{◌≡◌, ◌≢◌, ◌⊎◌, ℕ, zero, suc, ◌<◌, ℤ, ◌≤ℤ◌, ◌<ℤ◌, Bool, true, false, List, [], ◌∷◌, Some, None, length, get_or, refl, sym, ap, subst, inl, inr, arith, if◌then◌else◌}
use Rattle.std.specs.Prelude.{Any, Contains, Option, fold, int_le, int_lt, ◌&&◌}
use Rattle.std.specs.declared.cmp.Ordering.TheVariants.{Greater}
use Rattle.std.specs.Ordering.{is_lt}
use Rattle.std.proofs.lemmas.Bool.{and_from, and_parts}
use Rattle.std.proofs.lemmas.Int.{ints}
use Rattle.std.proofs.lemmas.Option.{same_Some}
use Rattle.move_model.specs.declared.ahead.Ahead.{Ahead}
use Rattle.move_model.specs.Ahead.{ahead_cmp}
use Rattle.exit_rows.specs.declared.exit.Kept.{Kept}
use Rattle.exit_rows.specs.Exits.{CountsAt, ahead_at, counted_at, least_at, lesser}
use Rattle.exit_rows.proofs.Orders.{less_no_greater, no_greater_both, not_greater, tested_less, tested_no_greater}

-- ---- whether an exit counts

pub tested_le : (a b : ℤ) → a ≤ℤ b → int_le a b ≡ true
tested_le a b h = grind (arith, ints)

pub tested_lt : (a b : ℤ) → a <ℤ b → int_lt a b ≡ true
tested_lt a b h = grind (arith, ints)

pub le_tested : (a b : ℤ) → int_le a b ≡ true → a ≤ℤ b
le_tested a b h = grind (arith, ints)

pub lt_tested : (a b : ℤ) → int_lt a b ≡ true → a <ℤ b
lt_tested a b h = grind (arith, ints)

pub counted_some : (e : Kept) (z : ℤ) → CountsAt e z → counted_at e z ≡ Some (ahead_at e z)
counted_some e z h =
    ap (λ (b : Bool). if b then Some (ahead_at e z) else None) (and_from (int_le e.from z) (int_lt z e.at) (tested_le e.from z h.from) (tested_lt z e.at h.before))

pub counted_from : (e : Kept) (z : ℤ) (v : Ahead) → counted_at e z ≡ Some v → CountsAt e z × (ahead_at e z ≡ v)
counted_from e z v h = by_test (int_le e.from z && int_lt z e.at) refl h
  where
    by_test : (b : Bool) → (int_le e.from z && int_lt z e.at) ≡ b → (if b then Some (ahead_at e z) else None) ≡ Some v → CountsAt e z × (ahead_at e z ≡ v)
    by_test true t k =
        let both = and_parts (int_le e.from z) (int_lt z e.at) t in
        (record { from = le_tested e.from z both.0; before = lt_tested z e.at both.1 }, same_Some (ahead_at e z) v k)
    by_test false t k = absurd (let wrong : None ≡ Some v = k in cc)

-- ---- the lesser of two

-- of the two, the lesser is one
pub lesser_one : (a b : Option Ahead) (v : Ahead) → lesser a b ≡ Some v → (a ≡ Some v) ⊎ (b ≡ Some v)
lesser_one None b v h = inr h
lesser_one (Some u) None v h = inl h
lesser_one (Some u) (Some w) v h = by_test (is_lt (ahead_cmp w u)) h
  where
    by_test : (t : Bool) → (if t then Some w else Some u) ≡ Some v → (Some u ≡ Some v) ⊎ (Some w ≡ Some v)
    by_test true k = inr k
    by_test false k = inl k

-- what is known is no greater than this
abbrev pub AtMost : Option Ahead → Ahead → Type 0
AtMost a v = (w : Ahead) × (a ≡ Some w) × (ahead_cmp w v ≢ Greater)

-- it stays so, and where the other is this it is so
pub lesser_keeps : (a b : Option Ahead) (v : Ahead) → AtMost a v → AtMost (lesser a b) v
lesser_keeps None b v (w, e, h) = absurd (let wrong : None ≡ Some w = e in cc)
lesser_keeps (Some u) None v h = h
lesser_keeps (Some u) (Some x) v (w, e, h) = by_test (is_lt (ahead_cmp x u)) refl
  where
    upto_v : ahead_cmp u v ≢ Greater
    upto_v = subst (λ y. ahead_cmp y v ≢ Greater) (sym (same_Some u w e)) h

    by_test : (t : Bool) → is_lt (ahead_cmp x u) ≡ t → AtMost (if t then Some x else Some u) v
    by_test true l = (x, refl, no_greater_both x u v (less_no_greater x u (tested_less x u l)) upto_v)
    by_test false l = (u, refl, upto_v)

pub lesser_takes : (a b : Option Ahead) (v : Ahead) → b ≡ Some v → AtMost (lesser a b) v
lesser_takes None b v h = (v, h, not_greater v)
lesser_takes (Some u) None v h = absurd (let wrong : None ≡ Some v = h in cc)
lesser_takes (Some u) (Some x) v h = by_test (is_lt (ahead_cmp x u)) refl
  where
    by_test : (t : Bool) → is_lt (ahead_cmp x u) ≡ t → AtMost (if t then Some x else Some u) v
    by_test true l = (x, refl, subst (λ y. ahead_cmp x y ≢ Greater) (same_Some x v h) (not_greater x))
    by_test false l = (u, refl, subst (λ y. ahead_cmp u y ≢ Greater) (same_Some x v h) (tested_no_greater x u l))

-- ---- of a row

module _ (z : ℤ) where
  -- the least from what is known before
  abbrev least_from : Option Ahead → List Kept → Option Ahead
  least_from a row = fold (λ least e. lesser least (counted_at e z)) a row

  abbrev IsOf : List Kept → Ahead → Type 0
  IsOf row v = Any (λ e. CountsAt e z × (ahead_at e z ≡ v)) row

  one_of : (row : List Kept) (a : Option Ahead) (v : Ahead) → least_from a row ≡ Some v → (a ≡ Some v) ⊎ IsOf row v
  one_of [] a v h = inl h
  one_of (e ∷ row) a v h = by_rest (one_of row (lesser a (counted_at e z)) v h)
    where
      by_this : (a ≡ Some v) ⊎ (counted_at e z ≡ Some v) → (a ≡ Some v) ⊎ IsOf (e ∷ row) v
      by_this (inl before) = inl before
      by_this (inr this) = inr (0, e, omega arith, refl, counted_from e z v this)

      by_rest : (lesser a (counted_at e z) ≡ Some v) ⊎ IsOf row v → (a ≡ Some v) ⊎ IsOf (e ∷ row) v
      by_rest (inl so_far) = by_this (lesser_one a (counted_at e z) v so_far)
      by_rest (inr (k, x, lt, is, of)) = inr (suc k, x, omega (arith, lt), is, of)

  keeps_all : (row : List Kept) (a : Option Ahead) (v : Ahead) → AtMost a v → AtMost (least_from a row) v
  keeps_all [] a v h = h
  keeps_all (e ∷ row) a v h = keeps_all row (lesser a (counted_at e z)) v (lesser_keeps a (counted_at e z) v h)

  takes_each : (row : List Kept) (a : Option Ahead) (k : ℕ) (e : Kept) → k < length row → get_or row k e ≡ e → CountsAt e z → AtMost (least_from a row) (ahead_at e z)
  takes_each [] a k e lt is counts = absurd (omega (arith, lt))
  takes_each (x ∷ row) a zero e lt is counts =
      keeps_all row (lesser a (counted_at x z)) (ahead_at e z)
      (lesser_takes a (counted_at x z) (ahead_at e z) (subst (λ y. counted_at y z ≡ Some (ahead_at e z)) (sym is) (counted_some e z counts)))
  takes_each (x ∷ row) a (suc k) e lt is counts = takes_each row (lesser a (counted_at x z)) k e (omega (arith, lt)) is counts

-- the least of a row is what is ahead by one of its exits that counts there
pub attained : (row : List Kept) (z : ℤ) (v : Ahead) → least_at row z ≡ Some v → Any (λ e. CountsAt e z × (ahead_at e z ≡ v)) row
attained row z v h = by_case (one_of z row None v h)
  where
    by_case : (None ≡ Some v) ⊎ Any (λ e. CountsAt e z × (ahead_at e z ≡ v)) row → Any (λ e. CountsAt e z × (ahead_at e z ≡ v)) row
    by_case (inl none) = absurd (let wrong : None ≡ Some v = none in cc)
    by_case (inr of) = of

-- it is no greater than what is ahead by any of these
pub least : (row : List Kept) (z : ℤ) (e : Kept) → Contains row e → CountsAt e z →
    (w : Ahead) × (least_at row z ≡ Some w) × (ahead_cmp w (ahead_at e z) ≢ Greater)
least row z e (k, lt, is) counts = takes_each z row None k e lt is counts
