-- The laws of reading a diagram.
use Rattle.std.specs.Prelude.{◌≡◌, ℕ, Bool, true, false, not, List, [], ◌∷◌, ◌++◌, codes, bytes_eq, Err}
use Rattle.std.specs.List.{list_any}
use Rattle.gml_text.specs.Tree.{Content, number, text, list, Pairs, pair, ◌then◌}
use Rattle.gml_text.specs.Printed.{IsGrammaticalValue}
use Rattle.scene_model.specs.Scene.{Scene}
use Rattle.diagram_read.specs.declared.fault.DiagramFault.{DiagramFault}
use Rattle.diagram_read.specs.Values.{ListEntry, milli_of, is_no_number}
use Rattle.diagram_read.specs.Nodes.{node_in, with_nodes_in}
use Rattle.diagram_read.specs.Edges.{edge_in, with_edges_in}

-- the value is written as a number
abbrev pub is_number : Content → Bool
is_number (number bytes) = true
is_number (text bytes) = false
is_number (list inner) = false

-- the law: in a document that may be printed, as each that is read, exactly the numbers are read as numbers
abbrev pub NumbersAgree : Type 0
NumbersAgree = (value : Content) → IsGrammaticalValue value → is_no_number (milli_of value) ≡ not (is_number value)

-- the law: a fault of the first entries is the fault of all of them
pub record FirstFaultsCount : Type 0 where
  pub nodes : (s : Scene) (front more : List ListEntry) (f : DiagramFault) → with_nodes_in s front ≡ Err f → with_nodes_in s (front ++ more) ≡ Err f
  pub edges : (s : Scene) (front more : List ListEntry) (f : DiagramFault) → with_edges_in s front ≡ Err f → with_edges_in s (front ++ more) ≡ Err f

-- the key is none of these
abbrev pub is_other : List (List ℕ) → List ℕ → Bool
is_other keys key = not (list_any (λ k. bytes_eq key k) keys)

-- the keys that are read in a node's list and in an edge's
abbrev pub node_keys : List (List ℕ)
node_keys = codes "id" ∷ codes "graphics" ∷ codes "isGroup" ∷ codes "pin" ∷ []

abbrev pub edge_keys : List (List ℕ)
edge_keys = codes "source" ∷ codes "target" ∷ codes "sourcePin" ∷ codes "targetPin" ∷ codes "via" ∷ codes "nudgeWeight" ∷ []

-- the law: a pair with any other key changes nothing, wherever it is
pub record OthersArePassedOver : Type 0 where
  pub nodes : (s : Scene) (place : ℕ) (front more : Pairs) (key : List ℕ) (value : Content) → is_other node_keys key ≡ true
      → node_in s (place, front then pair key value more) ≡ node_in s (place, front then more)
  pub edges : (s : Scene) (place : ℕ) (front more : Pairs) (key : List ℕ) (value : Content) → is_other edge_keys key ≡ true
      → edge_in s (place, front then pair key value more) ≡ edge_in s (place, front then more)
