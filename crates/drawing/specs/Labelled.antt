-- A label that is given to a box or to a connector.
use Rattle.std.specs.Prelude.{◌≡◌, ℕ, pos, List}
use Rattle.gml_scene.specs.Labels.{IsRelabelled, LabelLists}
use Rattle.drawing.specs.declared.labels.Labelled.{Labelled}
use Rattle.drawing.specs.declared.labels.Labelled.TheVariants.{Node, Edge}
use Rattle.drawing.specs.Drawing.{DrawingState}

-- this one has the text as its label now, and all others have the labels that they had
abbrev pub IsLabelled : Labelled → List ℕ → LabelLists → LabelLists → Type 0
IsLabelled (Node id) text old new = IsRelabelled id text old.nodes new.nodes × (new.edges ≡ old.edges)
IsLabelled (Edge number) text old new = IsRelabelled (pos number) text old.edges new.edges × (new.nodes ≡ old.nodes)

-- a label is given, and nothing else changes
pub record GivesLabel (what : Labelled) (text : List ℕ) (old new : DrawingState) : Type 0 where
  pub labels : IsLabelled what text old.labels new.labels
  pub session : new.session ≡ old.session
  pub document : new.document ≡ old.document
  pub reported : new.reported ≡ old.reported
  pub asked : new.asked ≡ old.asked
