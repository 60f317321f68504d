-- Ways: moves in a row, from a place to an ending.
use Rattle.std.specs.Prelude.{ℕ, ◌≡◌, List, [], ◌∷◌, ◌++◌, replicate, Some, slice_get}
use Rattle.plane_geom.specs.declared.point.Point.{Point}
use Rattle.plane_geom.specs.declared.point.Dir.{Dir}
use Rattle.plane_geom.specs.declared.rect.Solid.{Solid}
use Rattle.plane_geom.specs.Point.{opposite}
use Rattle.line_arena.specs.Arena.{Arena, StandsAt}
use Rattle.walk_model.specs.declared.task.Choice.{Choice}
use Rattle.walk_model.specs.declared.task.Task.{Task}
use Rattle.walk_model.specs.Choice.{stub_length}
use Rattle.walk_model.specs.Order.{Triple}
use Rattle.walk_model.specs.Walk.{Walk}
use Rattle.move_model.specs.declared.place.Place.{Place}
use Rattle.move_model.specs.Places.{IsEntry, IsMove, IsEnding}

-- a move: its number of steps, and the place to which it leads
pub record Leg : Type 0 where
  pub steps : ℕ
  pub to : Place

-- the legs lead by moves from the first place to the second
abbrev pub Leads : Arena → List Point → Place → List Leg → Place → Type 0
Leads a via x [] y = x ≡ y
Leads a via x (l ∷ ls) y = IsMove a via x l.steps l.to × Leads a via l.to ls y

-- the legs lead by moves from the place to an ending of the choice
abbrev pub IsWay : List Solid → Arena → List Point → Place → List Leg → Choice → Type 0
IsWay solids a via x [] e = IsEnding solids a via e x
IsWay solids a via x (l ∷ ls) e = IsMove a via x l.steps l.to × IsWay solids a via l.to ls e

-- the unit steps of the legs
abbrev pub steps_along : List Leg → List Dir
steps_along [] = []
steps_along (l ∷ ls) = replicate l.steps l.to.heading ++ steps_along ls

-- the unit steps of a way: those of the legs, and then the stub of the end choice from the port to the pin
abbrev pub steps_of_way : List Leg → Choice → List Dir
steps_of_way [] e = replicate (stub_length e) (opposite e.dir)
steps_of_way (l ∷ ls) e = replicate l.steps l.to.heading ++ steps_of_way ls e

-- the walk that leaves by the stub of the start choice and continues along the way
abbrev pub walk_along : Choice → List Leg → Choice → Walk
walk_along s ls e = record { start = s.pin; steps = replicate (stub_length s) s.dir ++ steps_of_way ls e }

-- the walk with its choices enters the lines and follows a way
pub record GoesAlongWay (solids : List Solid) (a : Arena) (task : Task) (t : Triple) : Type 0 where
  pub start : Choice
  pub end : Choice
  pub is_start : slice_get task.starts t.start ≡ Some start
  pub is_end : slice_get task.ends t.end ≡ Some end
  pub entry : Place
  pub legs : List Leg
  pub enters : IsEntry solids a task.via start entry
  pub way : IsWay solids a task.via entry legs end
  pub walk : t.walk ≡ walk_along start legs end

-- some legs of the walk's way lead to the place, which is at the point, and `rest` are the remaining legs
pub record HasRest (solids : List Solid) (a : Arena) (task : Task) (t : Triple) (along : GoesAlongWay solids a task t) (y : Place) (q : Point) (rest : List Leg) : Type 0 where
  pub front : List Leg
  pub legs : along.legs ≡ front ++ rest
  pub leads : Leads a task.via along.entry front y
  pub here : StandsAt a y.crossing q
