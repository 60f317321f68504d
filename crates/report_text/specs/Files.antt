-- The lines for runs that read nothing of a diagram.
use Rattle.std.specs.Prelude.{ℕ, List, ◌++◌, codes, decimal}
use Rattle.report_text.specs.Lines.{line}

-- the line for arguments that are not valid
abbrev pub words_line : List ℕ
words_line = line (codes "words: not understood")

-- the file with this name cannot be read
abbrev pub read_fault_line : List ℕ → List ℕ
read_fault_line name = line (codes "read fault: " ++ name)

-- the file with this name has more bytes than the limit
abbrev pub too_long_line : List ℕ → ℕ → List ℕ
too_long_line name limit = line (codes "too long: " ++ name ++ codes " limit " ++ decimal limit)
