-- The verdict on a line: its cost, or the first rule that it breaks.
use Rattle.std.specs.Prelude.{ℕ, zero, suc, ◌≡◌, ◌+◌, ◌-◌, ◌<◌, ◌≤◌, ℤ, Some, List, [], ◌∷◌, take, length, slice_get, Contains, Result, Ok, Err}
use Rattle.plane_geom.specs.declared.point.Point.{Point}
use Rattle.plane_geom.specs.declared.rect.Solid.{Solid}
use Rattle.plane_geom.specs.Point.{IsStraight}
use Rattle.walk_model.specs.declared.task.Choice.{Choice}
use Rattle.walk_model.specs.declared.task.Task.{Task}
use Rattle.walk_model.specs.Walk.{Walk, MeetsAt}
use Rattle.walk_model.specs.Line.{Draws, IsStraightLine, steps_of}
use Rattle.walk_model.specs.Choice.{stub_length}
use Rattle.walk_model.specs.Legal.{Leaves, Arrives, Passes, IsLegal, cost_with}
use Rattle.route_check.specs.declared.verdict.Breach.{Breach}
use Rattle.route_check.specs.declared.verdict.Breach.TheVariants.{Slanted, StartOff, EndOff, Hits as HitsAt, MissesVia}

-- the line draws a walk that is legal with a start choice and an end choice of the task
pub record IsLegalLine (solids : List Solid) (task : Task) (points : List Point) : Type 0 where
  pub walk : Walk
  pub start : Choice
  pub end : Choice
  pub draws : Draws points walk
  pub is_start : Contains task.starts start
  pub is_end : Contains task.ends end
  pub legal : IsLegal solids task.via start walk end

-- some choices with which the line is legal cost this, and none cost less
pub record IsLeastCost (solids : List Solid) (task : Task) (points : List Point) (cost : ℕ) : Type 0 where
  pub line : IsLegalLine solids task points
  pub reached : cost_with task.penalty line.start line.walk line.end ≡ cost
  pub least : (other : IsLegalLine solids task points) → cost ≤ cost_with task.penalty other.start other.walk other.end

-- segment k, counted from 1, is the first that is neither vertical nor horizontal
abbrev pub FirstSlanted : Point → List Point → ℕ → Type 0
FirstSlanted p [] k = ⊥
FirstSlanted p (q ∷ qs) zero = ⊥
FirstSlanted p (q ∷ qs) (suc zero) = IsStraight p q → ⊥
FirstSlanted p (q ∷ qs) (suc (suc k)) = IsStraight p q × FirstSlanted q qs (suc k)

-- segment k of the line is its first that is neither vertical nor horizontal
abbrev pub IsFirstSlanted : List Point → ℕ → Type 0
IsFirstSlanted [] k = ⊥
IsFirstSlanted (p ∷ ps) k = FirstSlanted p ps k

-- all segments are straight, and the line begins with the stub of no start choice
pub record IsStartOff (task : Task) (points : List Point) : Type 0 where
  pub straight : IsStraightLine points
  pub none : (w : Walk) → Draws points w → (s : Choice) → Contains task.starts s → Leaves w s → ⊥

-- the line begins with the stub of a start choice, and its other steps end with the reversed stub of no end choice
pub record IsEndOff (task : Task) (points : List Point) : Type 0 where
  pub walk : Walk
  pub start : Choice
  pub draws : Draws points walk
  pub is_start : Contains task.starts start
  pub leaves : Leaves walk start
  pub none : (e : Choice) → Contains task.ends e → Arrives walk e →
      stub_length start + stub_length e ≤ length walk.steps → ⊥

-- the line leads from the stub of the start choice to the reversed stub of the end choice
pub record Joins (task : Task) (points : List Point) (s : Choice) (w : Walk) (e : Choice) : Type 0 where
  pub draws : Draws points w
  pub is_start : Contains task.starts s
  pub is_end : Contains task.ends e
  pub leaves : Leaves w s
  pub arrives : Arrives w e
  pub stubs_fit : stub_length s + stub_length e ≤ length w.steps

-- step k is on the stub of the choice at the walk's begin, or on that at its end, and may meet the solid of its node
pub data MayMeet (s : Choice) (w : Walk) (e : Choice) (k : ℕ) (node : ℤ) : Type 0 where
  at_start : k < stub_length s → node ≡ s.node → MayMeet s w e k node
  at_end : length w.steps - stub_length e ≤ k → node ≡ e.node → MayMeet s w e k node

-- step k meets the solid, and may not
abbrev pub StepHits : Choice → Walk → Choice → ℕ → Solid → Type 0
StepHits s w e k solid = MeetsAt solid.rect w k × (MayMeet s w e k solid.node → ⊥)

-- step k, counted from 0, is on segment number `segment` of the line, counted from 1
abbrev pub IsOnSegment : List Point → ℕ → ℕ → Type 0
IsOnSegment points k segment =
    (length (steps_of (take segment points)) ≤ k) × (k < length (steps_of (take (segment + 1) points)))

-- no step meets a solid which it may not meet
abbrev pub HitsNone : List Solid → Choice → Walk → Choice → Type 0
HitsNone solids s w e = (k : ℕ) → k < length w.steps → (solid : Solid) → Contains solids solid → StepHits s w e k solid → ⊥

-- the first step that meets a solid which it may not meet is on this segment, and the first such solid is of this node
pub record HitsFirst (solids : List Solid) (points : List Point) (s : Choice) (w : Walk) (e : Choice) (segment : ℕ) (node : ℤ) : Type 0 where
  pub step : ℕ
  pub within : step < length w.steps
  pub place : ℕ
  pub solid : Solid
  pub at_place : slice_get solids place ≡ Some solid
  pub hits : StepHits s w e step solid
  pub first_step : (k : ℕ) → k < step → (other : Solid) → Contains solids other → StepHits s w e k other → ⊥
  pub first_solid : (j : ℕ) → j < place → (other : Solid) → slice_get solids j ≡ Some other → StepHits s w e step other → ⊥
  pub on_segment : IsOnSegment points step segment
  pub of_node : node ≡ solid.node

-- the line leads from stub to stub, and its first hit is on this segment, of the solid of this node
pub record IsFirstHit (solids : List Solid) (task : Task) (points : List Point) (segment : ℕ) (node : ℤ) : Type 0 where
  pub walk : Walk
  pub start : Choice
  pub end : Choice
  pub joins : Joins task points start walk end
  pub first : HitsFirst solids points start walk end segment node

-- no step meets a solid which it may not meet, and checkpoint number `place`, counted from 1, is the first that is not passed in order
pub record IsMissed (solids : List Solid) (task : Task) (points : List Point) (place : ℕ) : Type 0 where
  pub walk : Walk
  pub start : Choice
  pub end : Choice
  pub joins : Joins task points start walk end
  pub free : HitsNone solids start walk end
  pub counted : 0 < place
  pub within : place ≤ length task.via
  pub passed : Passes walk (stub_length start) (length walk.steps - stub_length end) (take (place - 1) task.via)
  pub missed : Passes walk (stub_length start) (length walk.steps - stub_length end) (take place task.via) → ⊥

-- the breach is the first rule that the line breaks
abbrev pub IsBreach : List Solid → Task → List Point → Breach → Type 0
IsBreach solids task points (Slanted segment) = IsFirstSlanted points segment
IsBreach solids task points StartOff = IsStartOff task points
IsBreach solids task points EndOff = IsEndOff task points
IsBreach solids task points (HitsAt segment node) = IsFirstHit solids task points segment node
IsBreach solids task points (MissesVia place) = IsMissed solids task points place

-- the least cost of a legal line, or the first rule that a line breaks which is not legal
abbrev pub IsVerdict : List Solid → Task → List Point → Result ℕ Breach → Type 0
IsVerdict solids task points (Ok cost) = IsLeastCost solids task points cost
IsVerdict solids task points (Err breach) = (IsLegalLine solids task points → ⊥) × IsBreach solids task points breach

-- a line has at most one verdict
abbrev pub HasOneVerdict : List Solid → Task → List Point → Type 0
HasOneVerdict solids task points = (a b : Result ℕ Breach) → IsVerdict solids task points a → IsVerdict solids task points b → a ≡ b
