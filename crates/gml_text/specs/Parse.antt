-- What bytes are read as: a document within the limit of depth, or one of two faults.
use Rattle.std.specs.Prelude.{ℕ, ◌+◌, ◌<◌, ◌≤◌, List, ◌++◌, length, take, Result, Ok, Err}
use Rattle.gml_text.specs.Tree.{Pairs, depth}
use Rattle.gml_text.specs.Grammar.{SpellsDocument}
use Rattle.gml_text.specs.declared.fault.GmlFault.{GmlFault}
use Rattle.gml_text.specs.declared.fault.GmlFault.TheVariants.{Syntax, TooDeep, Memory}

-- the most lists that may be open
abbrev pub most_open : ℕ
most_open = 64

-- some document begins with the bytes: there are bytes that complete them
abbrev pub Begins : List ℕ → Type 0
Begins bytes = (more : List ℕ) × (tree : Pairs) × SpellsDocument tree (bytes ++ more)

-- the same for a document that is not too deep
abbrev pub BeginsWithinLimit : List ℕ → Type 0
BeginsWithinLimit bytes = (more : List ℕ) × (tree : Pairs) × SpellsDocument tree (bytes ++ more) × (depth tree ≤ most_open)

-- the byte there opens the first list too many: the bytes before it begin a document within the limit, and the bytes up to it begin only deeper ones
pub record IsTooDeepAt (bytes : List ℕ) (at : ℕ) : Type 0 where
  pub within : at < length bytes
  pub before : BeginsWithinLimit (take at bytes)
  pub begins : Begins (take (at + 1) bytes)
  pub deeper : (more : List ℕ) (tree : Pairs) → SpellsDocument tree (take (at + 1) bytes ++ more) → most_open < depth tree

-- the bytes are not valid GML, no list is too deep, and exactly the first `at` bytes begin a document
pub record IsSyntaxAt (bytes : List ℕ) (at : ℕ) : Type 0 where
  pub no_document : (tree : Pairs) → SpellsDocument tree bytes → ⊥
  pub not_too_deep : (deep : ℕ) → IsTooDeepAt bytes deep → ⊥
  pub within : at ≤ length bytes
  pub begins : Begins (take at bytes)
  pub longest : (n : ℕ) → at < n → n ≤ length bytes → Begins (take n bytes) → ⊥

-- the bytes are valid GML within the limit of depth, and spell the pairs
pub record IsDocument (tree : Pairs) (bytes : List ℕ) : Type 0 where
  pub spelled : SpellsDocument tree bytes
  pub within_limit : depth tree ≤ most_open

-- what the bytes are read as; out of memory is never such a reading
abbrev pub ParsesAs : List ℕ → Result Pairs GmlFault → Type 0
ParsesAs bytes (Ok tree) = IsDocument tree bytes
ParsesAs bytes (Err (Syntax at)) = IsSyntaxAt bytes at
ParsesAs bytes (Err (TooDeep at)) = IsTooDeepAt bytes at
ParsesAs bytes (Err Memory) = ⊥
