-- What a row of labels has to be. No public clause cites this module.
use Rattle.std.specs.Prelude.{ℕ, ◌≡◌, ◌<◌, ◌≤◌, Some, IsSome}
use Rattle.plane_geom.specs.declared.point.Dir.{Dir}
use Rattle.line_arena.specs.Arena.{Arena, StandsAt}
use Rattle.proof_model.specs.declared.proof.Claim.{Claim}
use Rattle.proof_model.specs.declared.proof.LabelRow.{LabelRow}
use Rattle.proof_model.specs.Labels.{label_in}
use Rattle.proof_model.specs.Rules.{IsLabelFor, most_label}

-- the label of the heading, if there is one, is one for the claim
abbrev pub HasRightLabel : Claim → LabelRow → Dir → Type 0
HasRightLabel claim row h = (label : ℕ) → label_in row h ≡ Some label → (label < most_label) × IsLabelFor claim label

-- the stage is one of a task with this number of checkpoints, and the row has a label, and each is one for the claim
pub record IsFitRow (last : ℕ) (claim : Claim) (r : LabelRow) : Type 0 where
  pub stage : r.stage ≤ last
  pub some : (h : Dir) × IsSome (label_in r h)
  pub right : (h : Dir) → HasRightLabel claim r h

-- the row is one for the claim at a crossing of the arena
pub record IsRowIn (a : Arena) (last : ℕ) (claim : Claim) (r : LabelRow) : Type 0 where
  pub fit : IsFitRow last claim r
  pub crossing : (c : ℕ) × StandsAt a c r.at
