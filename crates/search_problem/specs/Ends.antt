-- Where walks enter the lines of an arena and leave them, choice by choice.
use Rattle.std.specs.Prelude.{ℕ, ◌≡◌, ◌+◌, ◌<◌, List, All, AllPairs, Contains, Some, slice_get}
use Rattle.plane_geom.specs.declared.rect.Solid.{Solid}
use Rattle.plane_geom.specs.Point.{opposite}
use Rattle.line_arena.specs.Arena.{Arena, StandsAt}
use Rattle.walk_model.specs.declared.task.Choice.{Choice}
use Rattle.walk_model.specs.declared.task.Task.{Task}
use Rattle.walk_model.specs.Choice.{stub_length}
use Rattle.move_model.specs.declared.place.Place.{Place}
use Rattle.move_model.specs.Places.{HasFreeStub, IsEntry}
use Rattle.search_problem.specs.declared.ends.Entry.{Entry}
use Rattle.search_problem.specs.declared.ends.Ending.{Ending}

-- the entry is that of the start choice
pub record IsEntryOf (solids : List Solid) (a : Arena) (task : Task) (s : Choice) (e : Entry) : Type 0 where
  pub is_start : slice_get task.starts e.choice ≡ Some s
  pub port : e.port ≡ s.port
  pub enters : IsEntry solids a task.via s e.place
  pub lead : e.lead ≡ stub_length s + s.cost

-- the ending is that of the end choice
pub record IsEndingOf (solids : List Solid) (a : Arena) (task : Task) (c : Choice) (e : Ending) : Type 0 where
  pub is_end : slice_get task.ends e.choice ≡ Some c
  pub port : e.port ≡ c.port
  pub free : HasFreeStub solids c
  pub here : StandsAt a e.crossing c.port
  pub dir : e.dir ≡ opposite c.dir
  pub stub : e.stub ≡ stub_length c
  pub rest : e.rest ≡ stub_length c + c.cost

-- the entries are those of the first `count` start choices, in order
pub record AreEntries (solids : List Solid) (a : Arena) (task : Task) (count : ℕ) (entries : List Entry) : Type 0 where
  pub sound : All (λ e. (e.choice < count) × (s : Choice) × IsEntryOf solids a task s e) entries
  pub complete : (n : ℕ) (s : Choice) (x : Place) → n < count → slice_get task.starts n ≡ Some s → IsEntry solids a task.via s x →
      (e : Entry) × Contains entries e × (e.choice ≡ n)
  pub ordered : AllPairs (λ d e. d.choice < e.choice) entries

-- the endings are those of the first `count` end choices, in order
pub record AreEndings (solids : List Solid) (a : Arena) (task : Task) (count : ℕ) (endings : List Ending) : Type 0 where
  pub sound : All (λ e. (e.choice < count) × (c : Choice) × IsEndingOf solids a task c e) endings
  pub complete : (n crossing : ℕ) (c : Choice) → n < count → slice_get task.ends n ≡ Some c → HasFreeStub solids c →
      StandsAt a crossing c.port → (e : Ending) × Contains endings e × (e.choice ≡ n)
  pub ordered : AllPairs (λ d e. d.choice < e.choice) endings
