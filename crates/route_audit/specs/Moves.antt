-- Moves that lead from a row of labels. No public clause cites this module.
use Rattle.std.specs.Prelude.{ℕ, ◌≡◌, ◌+◌, ◌*◌, List, Option, Some}
use Rattle.plane_geom.specs.declared.point.Dir.{Dir}
use Rattle.plane_geom.specs.declared.floor.Floor.{Floor}
use Rattle.walk_model.specs.declared.task.Task.{Task}
use Rattle.walk_model.specs.Cost.{turn}
use Rattle.proof_model.specs.declared.proof.Claim.{Claim}
use Rattle.proof_model.specs.declared.proof.LabelRow.{LabelRow}
use Rattle.proof_model.specs.Labels.{label_in, label_of}
use Rattle.proof_model.specs.Places.{Place, IsMove}
use Rattle.proof_model.specs.Rules.{Suffices}

-- the place of the row in the heading
abbrev pub row_place : LabelRow → Dir → Place
row_place r h = record { stage = r.stage; at = r.at; heading = h }

-- from labels of the row, the value at the end of each move in the direction is at most the label and the move's cost
abbrev pub AreMovesInFound : Floor → Task → Claim → List LabelRow → LabelRow → Dir → Type 0
AreMovesInFound floor task claim rows row d =
    (h : Dir) (label cost : ℕ) (y : Place) → label_in row h ≡ Some label → y.heading ≡ d → IsMove floor task (row_place row h) cost y →
    Suffices claim (label_of rows y) (label + cost)

-- the value of a place with this label, or with none, is at most the row's label of the heading and the cost of a move of this number of steps to it
abbrev pub ArrivesWell : Claim → LabelRow → ℕ → ℕ → Dir → Option ℕ → Dir → Type 0
ArrivesWell claim row penalty steps d there h =
    (label : ℕ) → label_in row h ≡ Some label → Suffices claim there (label + (steps + penalty * turn h d))
