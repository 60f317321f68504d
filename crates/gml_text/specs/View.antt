-- The tree that is the model of a document.
use Rattle.std.specs.Prelude.{◌≡◌, ℕ, List, [], ◌∷◌, map, Result, Ok, Err}
use Rattle.gml_text.specs.Tree.{Content, number, text, list, Pairs, no_pairs, pair}
use Rattle.gml_text.specs.declared.fault.GmlFault.{GmlFault}
use Rattle.gml_text.specs.declared.fault.GmlFault.TheVariants.{Memory}
use Rattle.gml_text.specs.declared.tree.Doc.{Doc}
use Rattle.gml_text.specs.declared.tree.Value.{Value, fold-Value}
use Rattle.gml_text.specs.declared.tree.Pair.{Pair, fold-Pair}
use Rattle.gml_text.specs.declared.tree.Value.TheOpen.{Value-F, Pair-F}

-- a key with its content
abbrev pub Entry : Type 0
Entry = List ℕ × Content

-- entries, one after the other
abbrev pub pairs_of : List Entry → Pairs
pairs_of [] = no_pairs
pairs_of (e ∷ es) = pair e.0 e.1 (pairs_of es)

-- one level of a value, where each pair inside is already an entry
abbrev pub content_step : Value-F Content Entry → Content
content_step (Value-F.Number bytes) = number bytes
content_step (Value-F.Text bytes) = text bytes
content_step (Value-F.List pairs) = list (pairs_of pairs.items)

-- one level of a pair
abbrev pub entry_step : Pair-F Content Entry → Entry
entry_step p = (p.key, p.value)

-- the model of a value
abbrev pub content : Value → Content
content = fold-Value Content Entry content_step entry_step

-- the model of a pair
abbrev pub entry : Pair → Entry
entry = fold-Pair Content Entry content_step entry_step

-- the model of a list of pairs
abbrev pub pairs : List Pair → Pairs
pairs ps = pairs_of (map entry ps)

-- the model of a document
abbrev pub tree : Doc → Pairs
tree doc = pairs doc.pairs.items

-- the result is this one, unless out of memory
abbrev pub Answers : Result Doc GmlFault → Result Pairs GmlFault → Type 0
Answers (Ok doc) answer = answer ≡ Ok (tree doc)
Answers (Err Memory) answer = Unit {0}
Answers (Err fault) answer = answer ≡ Err fault
