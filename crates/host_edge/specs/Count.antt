-- Counters that stay at their last value.
use Rattle.std.specs.Prelude.{◌≡◌, ◌⊎◌, ℕ, ◌+◌, ◌-◌, ◌^◌, ◌<◌, ◌≤◌, ◌==◌, min, Bool, List}
use Rattle.std.specs.List.{list_any}

-- the last value of a counter, at which it stays
abbrev pub last_count : ℕ
last_count = 2 ^ 64 - 1

-- the next value of a counter
abbrev pub next_count : ℕ → ℕ
next_count count = min (count + 1) last_count

-- the counter rose: it is greater than before, or at its last value
abbrev pub Rose : ℕ → ℕ → Type 0
Rose before after = (before < after) ⊎ (after ≡ last_count)

-- the counter did not fall, and stays at its last value
abbrev pub NeverFalls : ℕ → ℕ → Type 0
NeverFalls before after = (before ≤ after) × (before ≡ last_count → after ≡ last_count)

-- whether the call with this number is in the list
abbrev pub is_listed : List ℕ → ℕ → Bool
is_listed calls call = list_any (λ listed. listed == call) calls
