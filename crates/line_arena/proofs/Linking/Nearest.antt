-- The nearest past a coordinate, where one is added or removed.
use Rattle.std.proofs.Common.{◌≡◌, ◌≢◌, ◌⊎◌, ℕ, ℤ, ◌<ℤ◌, ◌≤ℤ◌, Option, Some, None, inl, inr, sym, ap, subst, arith}
use Rattle.std.proofs.lemmas.Int.{ints, by_lt_z}
use Rattle.line_arena.specs.Lists.{IsNext, IsPast}

-- of what stands at coordinates, this is the nearest before the given one
abbrev pub IsPrevious : (ℕ → ℤ → Type 0) → ℤ → Option ℕ → Type 0
IsPrevious At at None = (c : ℕ) (z : ℤ) → At c z → z <ℤ at → ⊥
IsPrevious At at (Some q) = (y : ℤ) × At q y × (y <ℤ at) × ((c : ℕ) (z : ℤ) → At c z → z <ℤ at → z ≤ℤ y)

pub not_below : (a b : ℤ) → (a <ℤ b → ⊥) → b ≤ℤ a
not_below a b h = by_lt_z a b (λ l. absurd (h l)) (λ g. g)

pub int_apart : (a b : ℤ) → a ≤ℤ b → (a ≡ b → ⊥) → a <ℤ b
int_apart a b le ne = omega (arith, ints)

pub past_further : (from : Option ℤ) (y z : ℤ) → IsPast from y → y ≤ℤ z → IsPast from z
past_further None y z p le = tt
past_further (Some b) y z p le = omega (arith, ints)

-- what stands at the same coordinates has the same nearest
pub next_same : (At To : ℕ → ℤ → Type 0) → ((c : ℕ) (z : ℤ) → At c z → To c z) → ((c : ℕ) (z : ℤ) → To c z → At c z)
    → (from : Option ℤ) (answer : Option ℕ) → IsNext At from answer → IsNext To from answer
next_same At To there back from None h = λ c z here past. h c z (back c z here) past
next_same At To there back from (Some n) h = (h.0, there n h.0 h.1, h.2, λ c z here past. h.3 c z (back c z here) past)

module _ (At To : ℕ → ℤ → Type 0) (k : ℕ) (at : ℤ) where
  -- where one is added at a coordinate that is past a nearer one, the nearest stays
  pub next_kept_at_put : ((c : ℕ) (z : ℤ) → At c z → To c z) → ((c : ℕ) (z : ℤ) → To c z → At c z ⊎ (z ≡ at))
      → (from : Option ℤ) → (IsPast from at → (q : ℕ) × (y : ℤ) × At q y × IsPast from y × (y <ℤ at))
      → (answer : Option ℕ) → IsNext At from answer → IsNext To from answer
  next_kept_at_put keeps grows from near None h = λ c z here past.
      elim (grows c z here) [
        | inl old ↦ h c z old past
        | inr e ↦ let n = near (subst (IsPast from) e past) in h n.0 n.1 n.2 n.3
      ]
  next_kept_at_put keeps grows from near (Some m) h = (
    h.0,
    keeps m h.0 h.1,
    h.2,
    λ c z here past.
        elim (grows c z here) [
          | inl old ↦ h.3 c z old past
          | inr e ↦
              let n = near (subst (IsPast from) e past) in
              let nearer : h.0 ≤ℤ n.1 = h.3 n.0 n.1 n.2 n.3 in
              subst (λ w. h.0 ≤ℤ w) (sym e) (let before : n.1 <ℤ at = n.4 in omega (arith, ints))
        ],
  )

  -- where there is nothing between, the added one is the nearest
  pub next_is_put : To k at → ((c : ℕ) (z : ℤ) → To c z → At c z ⊎ (z ≡ at))
      → (from : Option ℤ) → IsPast from at → ((c : ℕ) (z : ℤ) → At c z → IsPast from z → z <ℤ at → ⊥) → IsNext To from (Some k)
  next_is_put there grows from past between = (
    at,
    there,
    past,
    λ c z here p.
        elim (grows c z here) [
          | inl old ↦ not_below z at (between c z old p)
          | inr e ↦ subst (λ w. at ≤ℤ w) (sym e) (omega (arith, ints))
        ],
  )

  -- where the nearest stays, so it does when one goes out
  pub next_kept_at_removal : ((c : ℕ) (z : ℤ) → To c z → At c z) → ((c : ℕ) (z : ℤ) → At c z → c ≢ k → To c z)
      → (from : Option ℤ) (answer : Option ℕ) → IsNext At from answer → answer ≢ Some k → IsNext To from answer
  next_kept_at_removal shrinks others from None h ne = λ c z here past. h c z (shrinks c z here) past
  next_kept_at_removal shrinks others from (Some m) h ne =
      (h.0, others m h.0 h.1 (λ e. ne (ap Some e)), h.2, λ c z here past. h.3 c z (shrinks c z here) past)

  -- where the nearest is removed, the one that is nearest to it is the nearest then
  pub next_after_removal : ((c : ℕ) (z : ℤ) → To c z → At c z) → ((c : ℕ) → To c at → ⊥) → ((z : ℤ) → At k z → z ≡ at)
      → (from : Option ℤ) → IsNext At from (Some k) → (answer : Option ℕ) → IsNext To (Some at) answer → IsNext To from answer
  next_after_removal shrinks none placed from h answer after = by answer after
    where
      here_is : h.0 ≡ at
      here_is = placed h.0 h.1

      further : (c : ℕ) (z : ℤ) → To c z → IsPast from z → at <ℤ z
      further c z here past =
          let le : at ≤ℤ z = subst (λ w. w ≤ℤ z) here_is (h.3 c z (shrinks c z here) past) in
          int_apart at z le (λ e. none c (subst (To c) (sym e) here))

      past_at : IsPast from at
      past_at = subst (IsPast from) here_is h.2

      by : (answer : Option ℕ) → IsNext To (Some at) answer → IsNext To from answer
      by None a = λ c z here past. a c z here (further c z here past)
      by (Some n) a = (
        a.0,
        a.1,
        past_further from at a.0 past_at (let l : at <ℤ a.0 = a.2 in omega (arith, ints)),
        λ c z here past. a.3 c z here (further c z here past),
      )

-- where there is nothing nearer, the nearest is the one that is there
pub next_is : (At : ℕ → ℤ → Type 0) (k : ℕ) (at : ℤ) → At k at → ((c : ℕ) → At c at → c ≡ k)
    → (from : Option ℤ) → IsPast from at → ((c : ℕ) (z : ℤ) → At c z → IsPast from z → z <ℤ at → ⊥)
    → (answer : Option ℕ) → IsNext At from answer → answer ≡ Some k
next_is At k at there alone from past between None h = absurd (h k at there past)
next_is At k at there alone from past between (Some n) h =
    let le : h.0 ≤ℤ at = h.3 k at there past in
    let ge : at ≤ℤ h.0 = not_below h.0 at (between n h.0 h.1 h.2) in
    let same : h.0 ≡ at = omega (arith, ints) in
    ap Some (alone n (subst (At n) same h.1))

-- what is nearest past a coordinate that stands before the point, and nothing at the point, is the nearest past the point
pub next_from_previous : (At : ℕ → ℤ → Type 0) (at : ℤ) → ((c : ℕ) → At c at → ⊥)
    → (from : Option ℤ) → IsPast from at → ((c : ℕ) (z : ℤ) → At c z → IsPast from z → z <ℤ at → ⊥)
    → (answer : Option ℕ) → IsNext At from answer → IsNext At (Some at) answer
next_from_previous At at free from past between None h = λ c z here p. h c z here (past_further from at z past (let q : at <ℤ z = p in omega (arith, ints)))
next_from_previous At at free from past between (Some n) h =
    let ge : at ≤ℤ h.0 = not_below h.0 at (between n h.0 h.1 h.2) in (
      h.0,
      h.1,
      int_apart at h.0 ge (λ e. free n (subst (At n) (sym e) h.1)),
      λ c z here p. h.3 c z here (past_further from at z past (let q : at <ℤ z = p in omega (arith, ints))),
    )
