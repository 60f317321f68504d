-- The cheapest choice that fits. No public clause cites this module.
use Rattle.std.specs.Prelude.{ℕ, ◌≡◌, ◌≤◌, Option, Some, None, List, Contains}
use Rattle.plane_geom.specs.declared.point.Point.{Point}
use Rattle.plane_geom.specs.declared.point.Dir.{Dir}
use Rattle.walk_model.specs.declared.task.Choice.{Choice}
use Rattle.walk_model.specs.Choice.{stub_length}

-- the choice is of this pin in this direction, and its stub has at most `most` steps
pub record FitsRun (place : Point) (way : Dir) (most : ℕ) (c : Choice) : Type 0 where
  pub pin : c.pin ≡ place
  pub dir : c.dir ≡ way
  pub short : stub_length c ≤ most

-- the choice is a cheapest of those in the list with the property
pub record IsCheapest (P : Choice → Type 0) (choices : List Choice) (c : Choice) : Type 0 where
  pub is_choice : Contains choices c
  pub holds : P c
  pub least : (other : Choice) → Contains choices other → P other → c.cost ≤ other.cost

-- a cheapest choice with the property, or none if no choice has it
abbrev pub IsCheapestIfAny : (Choice → Type 0) → List Choice → Option Choice → Type 0
IsCheapestIfAny P choices None = (c : Choice) → Contains choices c → P c → ⊥
IsCheapestIfAny P choices (Some c) = IsCheapest P choices c
