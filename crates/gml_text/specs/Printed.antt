-- The printed form of a tree, and which trees have one.
use Rattle.std.specs.Prelude.{ℕ, zero, suc, ◌≤◌, ◌+◌, List, [], ◌++◌, codes}
use Rattle.gml_text.specs.Bytes.{quote}
use Rattle.gml_text.specs.Tree.{Content, number, text, list, Pairs, no_pairs, pair, depth}
use Rattle.fixed_milli.specs.Number.{IsNumber}
use Rattle.gml_text.specs.Grammar.{IsKey, Lacks}
use Rattle.gml_text.specs.Parse.{most_open}

-- two spaces for each open list
abbrev pub indent : ℕ → List ℕ
indent zero = []
indent (suc level) = codes "  " ++ indent level

abbrev mutual
  -- the lines of pairs inside `level` open lists
  pub printed_inside : ℕ → Pairs → List ℕ
  printed_inside level no_pairs = []
  printed_inside level (pair key value rest) =
      (indent level ++ (key ++ (codes " " ++ (printed_value level value ++ codes "\n")))) ++ printed_inside level rest

  -- the value of a key: a list has its pairs on their own lines, and its closing bracket too
  pub printed_value : ℕ → Content → List ℕ
  printed_value level (number digits) = digits
  printed_value level (text inner) = codes "\"" ++ (inner ++ codes "\"")
  printed_value level (list inner) = codes "[\n" ++ (printed_inside (level + 1) inner ++ (indent level ++ codes "]"))

-- the printed form of a document
abbrev pub printed : Pairs → List ℕ
printed tree = printed_inside 0 tree

abbrev mutual
  -- the keys, numbers and texts are of the grammar
  pub IsGrammatical : Pairs → Type 0
  IsGrammatical no_pairs = Unit {0}
  IsGrammatical (pair key value rest) = IsKey key × IsGrammaticalValue value × IsGrammatical rest

  pub IsGrammaticalValue : Content → Type 0
  IsGrammaticalValue (number digits) = IsNumber digits
  IsGrammaticalValue (text inner) = Lacks quote inner
  IsGrammaticalValue (list inner) = IsGrammatical inner

-- a tree that a document may have
pub record IsPrintable (tree : Pairs) : Type 0 where
  pub grammatical : IsGrammatical tree
  pub within_limit : depth tree ≤ most_open
