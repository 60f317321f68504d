-- Places on the lines of an arena, the moves between them, and where walks enter the lines and leave them.
use Rattle.std.specs.Prelude.{ℕ, ◌≡◌, ◌≢◌, ◌<◌, ◌≤◌, List, All, Some, length, slice_get}
use Rattle.plane_geom.specs.declared.point.Point.{Point}
use Rattle.plane_geom.specs.declared.rect.Solid.{Solid}
use Rattle.plane_geom.specs.Point.{forward}
use Rattle.plane_geom.specs.Rect.{Meets}
use Rattle.line_arena.specs.Arena.{Arena, StandsAt, IsNearest}
use Rattle.walk_model.specs.declared.task.Choice.{Choice}
use Rattle.move_model.specs.declared.place.Place.{Place}

-- a walk that has passed k checkpoints before the point p has passed exactly j at p
pub record ComesTo (via : List Point) (k : ℕ) (p : Point) (j : ℕ) : Type 0 where
  pub from : k ≤ j
  pub within : j ≤ length via
  pub passed : (i : ℕ) → k ≤ i → i < j → slice_get via i ≡ Some p
  pub no_more : slice_get via j ≢ Some p

-- the straight segment from pin to port meets no solid except those of the choice's own node
abbrev pub HasFreeStub : List Solid → Choice → Type 0
HasFreeStub solids c = All (λ s. s.node ≢ c.node → Meets s.rect c.pin c.port → ⊥) solids

-- a walk leaves by the stub of the start choice, which is free, and enters the lines at the place
pub record IsEntry (solids : List Solid) (a : Arena) (via : List Point) (s : Choice) (x : Place) : Type 0 where
  pub free : HasFreeStub solids s
  pub here : StandsAt a x.crossing s.port
  pub heading : x.heading ≡ s.dir
  pub stage : ComesTo via 0 s.port x.stage

-- a move of n steps from the first place to the second, at the nearest crossing in its heading
pub record IsMove (a : Arena) (via : List Point) (x : Place) (n : ℕ) (y : Place) : Type 0 where
  pub begin : Point
  pub end : Point
  pub here : StandsAt a x.crossing begin
  pub there : StandsAt a y.crossing end
  pub next : IsNearest a y.heading x.crossing y.crossing
  pub straight : end ≡ forward y.heading n begin
  pub some : 0 < n
  pub stage : ComesTo via x.stage end y.stage

-- after all checkpoints a walk leaves the lines at the place, and arrives by the stub of the end choice, which is free
pub record IsEnding (solids : List Solid) (a : Arena) (via : List Point) (e : Choice) (x : Place) : Type 0 where
  pub free : HasFreeStub solids e
  pub here : StandsAt a x.crossing e.port
  pub stage : x.stage ≡ length via
