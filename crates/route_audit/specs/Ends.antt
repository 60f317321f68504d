-- Entries and endings of lists against labels. No public clause cites this module.
use Rattle.std.specs.Prelude.{ℕ, ◌≡◌, ◌+◌, ◌*◌, ◌<◌, ◌≤◌, List, Some, length}
use Rattle.plane_geom.specs.declared.point.Dir.{Dir}
use Rattle.line_arena.specs.Arena.{Arena, StandsAt}
use Rattle.walk_model.specs.declared.task.Task.{Task}
use Rattle.walk_model.specs.Cost.{turn}
use Rattle.search_problem.specs.declared.ends.Ending.{Ending}
use Rattle.search_problem.specs.declared.ends.Entry.{Entry}
use Rattle.proof_model.specs.declared.proof.Claim.{Claim}
use Rattle.proof_model.specs.declared.proof.LabelRow.{LabelRow}
use Rattle.proof_model.specs.Labels.{label_of}
use Rattle.proof_model.specs.Places.{Place}
use Rattle.proof_model.specs.Rules.{MayEnd, Suffices, most_label}

-- all labels are small enough to be added to
abbrev pub AreSmall : List LabelRow → Type 0
AreSmall rows = (x : Place) (label : ℕ) → label_of rows x ≡ Some label → label < most_label

-- the entry stands in the arena, in a stage of a task with this number of checkpoints
pub record IsEntryIn (a : Arena) (last : ℕ) (e : Entry) : Type 0 where
  pub stage : e.place.stage ≤ last
  pub here : StandsAt a e.place.crossing e.port

-- the ending stands in the arena, and costs little
pub record IsEndingIn (a : Arena) (e : Ending) : Type 0 where
  pub here : StandsAt a e.crossing e.port
  pub rest : e.rest ≤ 9000000000

-- the place of an entry, by its point
abbrev pub entry_place : Entry → Place
entry_place e = record { stage = e.place.stage; at = e.port; heading = e.place.heading }

-- the value of the entry's place is at most the entry's cost
abbrev pub IsEntryFound : Claim → List LabelRow → Entry → Type 0
IsEntryFound claim rows e = Suffices claim (label_of rows (entry_place e)) e.lead

-- a walk may end there that comes in the heading with a label
abbrev pub MayEndBy : Task → Claim → List LabelRow → Ending → Dir → Type 0
MayEndBy task claim rows e h =
    (label : ℕ) → label_of rows (record { stage = length task.via; at = e.port; heading = h }) ≡ Some label →
    MayEnd claim (label + (task.penalty * turn h e.dir + e.rest))

-- a walk may end there that comes in any heading with a label
abbrev pub MayEndAt : Task → Claim → List LabelRow → Ending → Type 0
MayEndAt task claim rows e = (h : Dir) → MayEndBy task claim rows e h
