-- Heights of a balanced tree.
use Rattle.std.specs.Prelude.{ℕ, ◌+◌, ◌*◌, ◌^◌, ◌≤◌}

-- neither height is more than this above the other
abbrev pub DifferByAtMost : ℕ → ℕ → ℕ → Type 0
DifferByAtMost by l r = (l ≤ r + by) × (r ≤ l + by)

-- the height of a tree with n spans is at most n, and at most twice the binary logarithm of n + 1
pub record IsLow (height n : ℕ) : Type 0 where
  pub few : height ≤ n
  pub logarithmic : 2 ^ height ≤ (n + 1) * (n + 1)
