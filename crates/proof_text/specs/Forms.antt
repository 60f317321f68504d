-- The forms of lines, each by its name and the words after it. No public clause cites this module.
use Rattle.std.specs.Prelude.{ℕ, ◌==◌, List, [], ◌∷◌, codes, bytes_eq, Option, None, Some, option_map, if◌then◌else◌}
use Rattle.std.specs.List.{slice_split}
use Rattle.fixed_milli.specs.Steps.{◌>>=◌}
use Rattle.plane_geom.specs.declared.point.Point.{Point}
use Rattle.proof_text.specs.declared.line.Line.{Line}
use Rattle.proof_text.specs.declared.line.Line.TheVariants.{Edge, Corner, Row}
use Rattle.proof_text.specs.Values.{natural, whole, index, label}

-- cut, or cost C
abbrev pub claim_form : List (List ℕ) → Option (Option ℕ)
claim_form (name ∷ []) = if bytes_eq name (codes "cut") then Some None else None
claim_form (name ∷ cost ∷ []) = if bytes_eq name (codes "cost") then option_map Some (natural cost) else None
claim_form _ = None

-- N and a claim
abbrev pub edge_form : List (List ℕ) → Option Line
edge_form (a ∷ claim) = do
  edge ← index a
  cost ← claim_form claim
  Some (Edge edge cost)
edge_form [] = None

-- X and Y
abbrev pub point_of : List ℕ → List ℕ → Option Point
point_of a b = do
  x ← whole a
  y ← whole b
  Some (record { x = x; y = y })

-- X Y
abbrev pub point_form : List (List ℕ) → Option Line
point_form (a ∷ b ∷ []) = option_map Corner (point_of a b)
point_form _ = None

-- EAST SOUTH WEST NORTH, of a row in this stage at this point
abbrev pub labels_form : ℕ → Point → List (List ℕ) → Option Line
labels_form stage at (a ∷ b ∷ c ∷ d ∷ []) = do
  east ← label a
  south ← label b
  west ← label c
  north ← label d
  Some (Row (record { stage = stage; at = at; east = east; south = south; west = west; north = north }))
labels_form stage at _ = None

-- STAGE X Y and labels
abbrev pub row_form : List (List ℕ) → Option Line
row_form (a ∷ b ∷ c ∷ labels) = do
  stage ← index a
  at ← point_of b c
  labels_form stage at labels
row_form _ = None

-- the line of a name and the words after it
abbrev pub form_of : List ℕ → List (List ℕ) → Option Line
form_of name args =
    if bytes_eq name (codes "edge") then edge_form args
    else if bytes_eq name (codes "point") then point_form args
    else if bytes_eq name (codes "label") then row_form args else None

-- the line of these words
abbrev pub line_of_words : List (List ℕ) → Option Line
line_of_words [] = None
line_of_words (name ∷ args) = form_of name args

-- the words of a line, which are separated by one blank
abbrev pub words : List ℕ → List (List ℕ)
words line = slice_split (λ b. b == 32) line

-- what a line says
abbrev pub line_of : List ℕ → Option Line
line_of line = line_of_words (words line)
