-- Lines of bytes, each of which ends with a line feed.
use Rattle.std.specs.Prelude.{ℕ, ◌≡◌, ◌≢◌, List, [], ◌∷◌, ◌++◌, length}
use Rattle.std.specs.List.{AllByRecursion, flat_map}

-- the byte that ends a line
abbrev pub newline : ℕ
newline = 10

-- a line with its line feed
abbrev pub ended_line : List ℕ → List ℕ
ended_line line = line ++ newline ∷ []

-- lines, one after the other
abbrev pub text_of_lines : List (List ℕ) → List ℕ
text_of_lines lines = flat_map ended_line lines

-- no byte is a line feed
abbrev pub IsOneLine : List ℕ → Type 0
IsOneLine line = AllByRecursion (λ b. b ≢ newline) line

-- the bytes are this number of whole lines
pub record AreWholeLines (bytes : List ℕ) (count : ℕ) : Type 0 where
  pub lines : List (List ℕ)
  pub spelled : bytes ≡ text_of_lines lines
  pub each : AllByRecursion IsOneLine lines
  pub counted : length lines ≡ count
