-- Counters of writes and of searches.
use Rattle.std.specs.Prelude.{ℕ, ◌+◌, min}

-- the counter after `more` more: it stays at 2^64 - 1 once it is there
abbrev pub counted_by : ℕ → ℕ → ℕ
counted_by more count = min (count + more) 18446744073709551615
