-- The rules by which labels prove a claim of a task, numbered from 2; rule 1 is about the scene.
use Rattle.std.specs.Prelude.{ℕ, ◌≡◌, ◌+◌, ◌^◌, ◌<◌, ◌≤◌, List, length, All, AllPairs, Option, Some, unwrap_or, IsSome, IsTrue}
use Rattle.plane_geom.specs.declared.point.Dir.{Dir}
use Rattle.plane_geom.specs.declared.floor.Floor.{Floor}
use Rattle.plane_geom.specs.Floor.{IsCrossing}
use Rattle.walk_model.specs.declared.task.Task.{Task}
use Rattle.walk_model.specs.Line.{IsPolyline}
use Rattle.route_check.specs.Verdict.{IsLeastCost}
use Rattle.plane_geom.specs.declared.point.Point.{Point}
use Rattle.proof_model.specs.declared.proof.Claim.{Claim}
use Rattle.proof_model.specs.declared.proof.Claim.TheVariants.{Cost, Cut}
use Rattle.proof_model.specs.declared.proof.LabelRow.{LabelRow}
use Rattle.proof_model.specs.Places.{Place, IsEntry, IsMove, IsExit}
use Rattle.proof_model.specs.Labels.{is_before, label_in, label_of}

-- labels and costs are below this
abbrev pub most_label : ℕ
most_label = 10 ^ 18

-- a label is below the claimed cost; for a cut it is 0
abbrev pub IsLabelFor : Claim → ℕ → Type 0
IsLabelFor (Cost cost points) label = label < cost
IsLabelFor Cut label = label ≡ 0

-- the row is of a crossing and of a stage of the task; it has a label, and each label is right for the claim and small
pub record IsRow (floor : Floor) (task : Task) (claim : Claim) (r : LabelRow) : Type 0 where
  pub crossing : IsCrossing floor r.at
  pub stage : r.stage ≤ length task.via
  pub some : (h : Dir) × IsSome (label_in r h)
  pub right : (h : Dir) (label : ℕ) → label_in r h ≡ Some label → IsLabelFor claim label
  pub small : (h : Dir) (label : ℕ) → label_in r h ≡ Some label → label < most_label

-- rule 2: the rows rise strictly by stage, then y, then x, and each is a row for the claim
pub record AreRows (floor : Floor) (task : Task) (claim : Claim) (rows : List LabelRow) : Type 0 where
  pub rise : AllPairs (λ a b. IsTrue (is_before a b)) rows
  pub each : All (IsRow floor task claim) rows

-- the line is legal, and this is its cost
pub record IsLineOf (floor : Floor) (task : Task) (points : List Point) (cost : ℕ) : Type 0 where
  pub polyline : IsPolyline points
  pub reached : IsLeastCost floor.solids task points cost
  pub small : cost < most_label

-- rule 3: a claimed cost is shown by its line; a cut needs no line
abbrev pub IsShown : Floor → Task → Claim → Type 0
IsShown floor task (Cost cost points) = IsLineOf floor task points cost
IsShown floor task Cut = Unit {0}

-- the value of a place with this label, or with none, is at most the cost; for a cut, the place has a label
abbrev pub Suffices : Claim → Option ℕ → ℕ → Type 0
Suffices (Cost most points) label cost = unwrap_or label most ≤ cost
Suffices Cut label cost = IsSome label

-- the value of the place is at most the cost; for a cut, the place has a label
abbrev pub IsFound : Claim → List LabelRow → Place → ℕ → Type 0
IsFound claim rows x cost = Suffices claim (label_of rows x) cost

-- a walk of this cost may end: it costs no less than is claimed; for a cut, none may
abbrev pub MayEnd : Claim → ℕ → Type 0
MayEnd (Cost least points) cost = least ≤ cost
MayEnd Cut cost = ⊥

-- rule 4: the value of each entry's place is at most the entry's cost
abbrev pub AreEntriesFound : Floor → Task → Claim → List LabelRow → Type 0
AreEntriesFound floor task claim rows = (x : Place) (cost : ℕ) → IsEntry floor task x cost → IsFound claim rows x cost

-- rule 5: from a labelled place, the value at each move's end is at most the label and the move's cost
abbrev pub AreMovesFound : Floor → Task → Claim → List LabelRow → Type 0
AreMovesFound floor task claim rows =
    (x y : Place) (label cost : ℕ) → label_of rows x ≡ Some label → IsMove floor task x cost y → IsFound claim rows y (label + cost)

-- rule 6: at a labelled place, the label and the cost of each ending are no less than is claimed
abbrev pub MayAllEnd : Floor → Task → Claim → List LabelRow → Type 0
MayAllEnd floor task claim rows =
    (x : Place) (label cost : ℕ) → label_of rows x ≡ Some label → IsExit floor task x cost → MayEnd claim (label + cost)

-- the rules 2 to 6 hold
pub record Proves (floor : Floor) (task : Task) (claim : Claim) (rows : List LabelRow) : Type 0 where
  pub right_rows : AreRows floor task claim rows
  pub shown : IsShown floor task claim
  pub entries : AreEntriesFound floor task claim rows
  pub moves : AreMovesFound floor task claim rows
  pub endings : MayAllEnd floor task claim rows

-- this is the least of the rules 2 to 6 that does not hold
pub data BreaksFirst (floor : Floor) (task : Task) (claim : Claim) (rows : List LabelRow) (rule : ℕ) : Type 0 where
  by_rows : (AreRows floor task claim rows → ⊥) → rule ≡ 2 → BreaksFirst floor task claim rows rule
  by_line : AreRows floor task claim rows → (IsShown floor task claim → ⊥) → rule ≡ 3 → BreaksFirst floor task claim rows rule
  by_entries : AreRows floor task claim rows → IsShown floor task claim → (AreEntriesFound floor task claim rows → ⊥) → rule ≡ 4 →
      BreaksFirst floor task claim rows rule
  by_moves : AreRows floor task claim rows → IsShown floor task claim → AreEntriesFound floor task claim rows →
      (AreMovesFound floor task claim rows → ⊥) → rule ≡ 5 → BreaksFirst floor task claim rows rule
  by_endings : AreRows floor task claim rows → IsShown floor task claim → AreEntriesFound floor task claim rows →
      AreMovesFound floor task claim rows → (MayAllEnd floor task claim rows → ⊥) → rule ≡ 6 → BreaksFirst floor task claim rows rule
