-- Legal walks, and the tasks that ask for them.
use Rattle.std.specs.Prelude.{ℕ, ◌≡◌, ◌≢◌, ◌+◌, ◌-◌, ◌<◌, ◌≤◌, ◌^◌, ℤ, Option, Some, None, List, [], ◌∷◌, take, drop, length, replicate, All}
use Rattle.plane_geom.specs.declared.point.Point.{Point}
use Rattle.plane_geom.specs.declared.rect.Solid.{Solid}
use Rattle.plane_geom.specs.Point.{PointIsOnSheet, opposite}
use Rattle.walk_model.specs.declared.task.Choice.{Choice}
use Rattle.walk_model.specs.declared.task.Task.{Task}
use Rattle.walk_model.specs.Walk.{Walk, point_at, end_of, MeetsAt}
use Rattle.walk_model.specs.Cost.{walk_cost}
use Rattle.walk_model.specs.Choice.{stub_length, AreChoices}

-- the walk begins at the pin, and its first steps are the stub
pub record Leaves (w : Walk) (c : Choice) : Type 0 where
  pub pin : w.start ≡ c.pin
  pub stub : take (stub_length c) w.steps ≡ replicate (stub_length c) c.dir

-- the walk ends at the pin, and its last steps are the stub reversed
pub record Arrives (w : Walk) (c : Choice) : Type 0 where
  pub pin : end_of w ≡ c.pin
  pub stub : drop (length w.steps - stub_length c) w.steps ≡ replicate (stub_length c) (opposite c.dir)

-- the steps from number `from` on and before number `to` meet no solid, except those of the node that may be met
abbrev pub IsFree : List Solid → Option ℤ → Walk → ℕ → ℕ → Type 0
IsFree solids may w from to =
    (k : ℕ) → from ≤ k → k < to → All (λ s. Some s.node ≢ may → MeetsAt s.rect w k → ⊥) solids

-- from its point number `from` to its point number `to` the walk passes the checkpoints in order
abbrev pub Passes : Walk → ℕ → ℕ → List Point → Type 0
Passes w from to [] = Unit {0}
Passes w from to (c ∷ cs) = (i : ℕ) × (from ≤ i) × (i ≤ to) × (point_at w i ≡ c) × Passes w i to cs

-- of the checkpoints the walk passes exactly the first `count` in order there
pub record PassesMost (w : Walk) (from to : ℕ) (via : List Point) (count : ℕ) : Type 0 where
  pub at_most : count ≤ length via
  pub passed : Passes w from to (take count via)
  pub no_more : count < length via → Passes w from to (take (count + 1) via) → ⊥

-- the walk is legal with this start choice and this end choice
pub record IsLegal (solids : List Solid) (via : List Point) (s : Choice) (w : Walk) (e : Choice) : Type 0 where
  pub leaves : Leaves w s
  pub arrives : Arrives w e
  pub stubs_fit : stub_length s + stub_length e ≤ length w.steps
  pub start_stub : IsFree solids (Some s.node) w 0 (stub_length s)
  pub between : IsFree solids None w (stub_length s) (length w.steps - stub_length e)
  pub end_stub : IsFree solids (Some e.node) w (length w.steps - stub_length e) (length w.steps)
  pub checkpoints : Passes w (stub_length s) (length w.steps - stub_length e) via

-- the cost of the walk with these choices
abbrev pub cost_with : ℕ → Choice → Walk → Choice → ℕ
cost_with penalty s w e = walk_cost penalty w.steps + s.cost + e.cost

-- a task that calls accept: at most 1024 choices of each end, at most 4 checkpoints, and a bend costs at most 10^9
pub record IsTask (t : Task) : Type 0 where
  pub starts : AreChoices t.starts
  pub ends : AreChoices t.ends
  pub few_starts : length t.starts ≤ 1024
  pub few_ends : length t.ends ≤ 1024
  pub via : All PointIsOnSheet t.via
  pub few : length t.via ≤ 4
  pub penalty : t.penalty ≤ 10 ^ 9
