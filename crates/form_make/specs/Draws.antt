-- The draws from a seed, each by its place.
use Rattle.std.specs.Prelude.{ℕ, zero, suc, ◌+◌, ◌*◌, ◌/◌, ◌%◌, ◌^◌, List, [], ◌∷◌, ◌++◌}

-- the state after this one
abbrev pub next_state : ℕ → ℕ
next_state s = (s * 6364136223846793005 + 1442695040888963407) % 2 ^ 64

-- the state after `count` draws, beginning with the seed
unfoldable pub state_after : ℕ → ℕ → ℕ
state_after seed zero = seed
state_after seed (suc count) = next_state (state_after seed count)

-- the number below `most` that is drawn from a state
abbrev pub drawn : ℕ → ℕ → ℕ
drawn state most = state / 2 ^ 33 % most

-- the draw below a number at the place, counted from 0
abbrev pub draw : ℕ → ℕ → ℕ → ℕ
draw seed place most = drawn (state_after seed (place + 1)) most

-- the values for the first places, in order
unfoldable pub first : {X : Type 0} → ℕ → (ℕ → X) → List X
first zero thing = []
first (suc count) thing = first count thing ++ thing count ∷ []
