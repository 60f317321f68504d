-- Steps that may give no value, one after another: what a `do` of optional values means.
use Rattle.std.specs.Prelude.{Option, option_and_then}

-- the next step with a value, if there is one
infixl 10 ◌>>=◌
abbrev pub ◌>>=◌ : {A B : Type 0} → Option A → (A → Option B) → Option B
o >>= next = option_and_then next o
