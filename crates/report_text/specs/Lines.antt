-- The lines of an output.
use Rattle.std.specs.Prelude.{ℕ, List, [], ◌∷◌, ◌++◌}

-- a text with the end of a line
abbrev pub line : List ℕ → List ℕ
line text = text ++ 10 ∷ []
