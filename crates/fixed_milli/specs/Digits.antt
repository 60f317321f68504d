-- How the digits after a number round it. No public clause cites this module.
use Rattle.std.specs.Prelude.{ℕ, List, [], ◌∷◌, nat_le, if◌then◌else◌}

-- the byte `5`
abbrev pub five : ℕ
five = 53

-- what the first digit after a number adds to it where halves are rounded up
abbrev pub carry : List ℕ → ℕ
carry [] = 0
carry (b ∷ bs) = if nat_le five b then 1 else 0
