-- Counts follow one another.
use Rattle.std.proofs.Common.{◌≡◌, ℕ, ◌+◌, arith}
use Rattle.line_arena.specs.Count.{counted_by}

-- a counter counts on
pub counted_on : (m n before : ℕ) → counted_by n (counted_by m before) ≡ counted_by (m + n) before
counted_on m n before = omega arith
