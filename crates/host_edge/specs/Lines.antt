-- Input that is read line by line.
use Rattle.std.specs.Prelude.{◌≡◌, ◌≢◌, ℕ, ◌<◌, ◌≤◌, ◌==◌, if◌then◌else◌, List, [], ◌∷◌, length, take, Option, None, Some}
use Rattle.host_edge.specs.declared.line_source.LineRead.{LineRead}
use Rattle.host_edge.specs.declared.line_source.LineRead.TheVariants.{Whole, TooLong, End}

-- the bytes before the first line feed, if there is one
abbrev pub first_line : List ℕ → List ℕ
first_line [] = []
first_line (b ∷ bytes) = if b == 10 then [] else b ∷ first_line bytes

-- the bytes after the first line feed, if there is one
abbrev pub after_line : List ℕ → List ℕ
after_line [] = []
after_line (b ∷ bytes) = if b == 10 then bytes else after_line bytes

-- what a read under this limit finds at these bytes, with what then stands in the buffer
abbrev pub IsLineFound : ℕ → List ℕ → LineRead → List ℕ → Type 0
IsLineFound limit bytes Whole buffer = (bytes ≢ []) × (buffer ≡ first_line bytes) × (length (first_line bytes) ≤ limit)
IsLineFound limit bytes TooLong buffer = (buffer ≡ take limit (first_line bytes)) × (limit < length (first_line bytes))
IsLineFound limit bytes End buffer = bytes ≡ []

-- a read of a line found this, and the bytes after the line are left
abbrev pub IsLineRead : ℕ → List ℕ → LineRead → List ℕ → Option (List ℕ) → Type 0
IsLineRead limit bytes read buffer rest = IsLineFound limit bytes read buffer × (rest ≡ Some (after_line bytes))

-- the next byte of these is taken, if there is one
abbrev pub IsNextByte : List ℕ → Option (List ℕ) → Option ℕ → Type 0
IsNextByte bytes rest None = (bytes ≡ []) × (rest ≡ Some [])
IsNextByte bytes rest (Some byte) = (left : List ℕ) × (bytes ≡ byte ∷ left) × (rest ≡ Some left)
