-- Labels of what edits added: of nodes by their ids, and of edges by their numbers.
use Rattle.std.specs.Prelude.{◌≡◌, ◌≢◌, ℕ, suc, ℤ, List, [], ◌∷◌, Option, None, Some, find, option_map, unwrap_or, All, if◌then◌else◌}
use Rattle.std.specs.Ordering.{int_eq}
use Rattle.gml_text.specs.Bytes.{quote}
use Rattle.gml_text.specs.Grammar.{Lacks}
use Rattle.gml_scene.specs.declared.labels.Label.{Label}
use Rattle.gml_scene.specs.declared.labels.LabelFault.{LabelFault}
use Rattle.gml_scene.specs.declared.labels.LabelFault.TheVariants.{Quote, Memory}

-- the labels of nodes, and of edges
pub record LabelLists : Type 0 where
  pub nodes : List Label
  pub edges : List Label

abbrev pub no_labels : LabelLists
no_labels = record { nodes = []; edges = [] }

-- the label of the node or edge with the number; empty if none is given
abbrev pub given_label : List Label → ℤ → List ℕ
given_label labels number = unwrap_or (option_map (λ l. l.text) (find (λ l. int_eq l.number number) labels)) []

-- the place, from 0, of the label of this node or edge, if one is given
abbrev pub label_place : List Label → ℤ → Option ℕ
label_place [] number = None
label_place (l ∷ ls) number = if int_eq l.number number then Some 0 else option_map suc (label_place ls number)

-- each label is a text in GML, which has no quote
abbrev pub AreTexts : List Label → Type 0
AreTexts labels = All (λ l. Lacks quote l.text) labels

pub record AreQuotable (labels : LabelLists) : Type 0 where
  pub nodes : AreTexts labels.nodes
  pub edges : AreTexts labels.edges

-- the text is the label of this one now, and each other has the label that it had
pub record IsRelabelled (number : ℤ) (text : List ℕ) (old new : List Label) : Type 0 where
  pub quotable : Lacks quote text
  pub label : given_label new number ≡ text
  pub others : (other : ℤ) → other ≢ number → given_label new other ≡ given_label old other

-- why a text is refused: it has a quote, or no memory is left
abbrev pub IsLabelFault : List ℕ → LabelFault → Type 0
IsLabelFault text Quote = Lacks quote text → ⊥
IsLabelFault text Memory = Lacks quote text
