-- The order of walks, first walks, and routes.
use Rattle.std.specs.Prelude.{ℕ, ◌≡◌, ◌+◌, List, length, Some, unwrap_or, slice_get}
use Rattle.std.specs.declared.cmp.Ordering.TheVariants.{Less}
use Rattle.std.specs.declared.cmp.Ordering.{Ordering}
use Rattle.std.specs.Option.{option_map}
use Rattle.std.specs.Ordering.{nat_cmp, int_cmp, ordering_then}
use Rattle.std.specs.Cmp.Lexicographic.{slice_cmp}
use Rattle.plane_geom.specs.declared.point.Dir.{Dir}
use Rattle.plane_geom.specs.declared.point.Dir.TheVariants.{East, South, West, North}
use Rattle.plane_geom.specs.declared.rect.Solid.{Solid}
use Rattle.walk_model.specs.declared.task.Choice.{Choice}
use Rattle.walk_model.specs.declared.task.Task.{Task}
use Rattle.walk_model.specs.declared.route.Route.{Route}
use Rattle.walk_model.specs.Walk.{Walk}
use Rattle.walk_model.specs.Cost.{walk_cost, runs}
use Rattle.walk_model.specs.Lean.{lean, line_lean}
use Rattle.walk_model.specs.Line.{Draws, steps_of}
use Rattle.walk_model.specs.Legal.{IsLegal}

-- a walk, with the places of its start choice and its end choice in the task
pub record Triple : Type 0 where
  pub start : ℕ
  pub walk : Walk
  pub end : ℕ

-- the walk is legal with the choices at these places
pub record IsLegalTriple (solids : List Solid) (task : Task) (t : Triple) : Type 0 where
  pub start : Choice
  pub end : Choice
  pub is_start : slice_get task.starts t.start ≡ Some start
  pub is_end : slice_get task.ends t.end ≡ Some end
  pub legal : IsLegal solids task.via start t.walk end

-- the connection cost of the choice at the place
abbrev pub pin_cost : List Choice → ℕ → ℕ
pin_cost choices place = unwrap_or (option_map (λ c. c.cost) (slice_get choices place)) 0

-- the cost of the walk with its choices
abbrev pub triple_cost : Task → Triple → ℕ
triple_cost task t = walk_cost task.penalty t.walk.steps + pin_cost task.starts t.start + pin_cost task.ends t.end

-- the place of a direction in the order East, South, West, North
abbrev pub rank : Dir → ℕ
rank East = 0
rank South = 1
rank West = 2
rank North = 3

-- the order of directions
abbrev pub dir_cmp : Dir → Dir → Ordering
dir_cmp d e = nat_cmp (rank d) (rank e)

-- the order of walks: by cost, number of runs, sum of run coordinates (lean), start choice, steps, where a prefix comes first, and end choice
abbrev pub compare_triples : Task → Triple → Triple → Ordering
compare_triples task a b =
    ordering_then (nat_cmp (triple_cost task a) (triple_cost task b))
    (ordering_then (nat_cmp (runs a.walk.steps) (runs b.walk.steps))
    (ordering_then (int_cmp (lean a.walk.start a.walk.steps) (lean b.walk.start b.walk.steps))
    (ordering_then (nat_cmp a.start b.start)
    (ordering_then (slice_cmp dir_cmp a.walk.steps b.walk.steps)
    (nat_cmp a.end b.end)))))

-- the first comes before the second
abbrev pub IsBefore : Task → Triple → Triple → Type 0
IsBefore task a b = compare_triples task a b ≡ Less

-- the walk is legal with its choices, and no legal one comes before it
pub record IsFirst (solids : List Solid) (task : Task) (t : Triple) : Type 0 where
  pub legal : IsLegalTriple solids task t
  pub first : (other : Triple) → IsLegalTriple solids task other → IsBefore task other t → ⊥

-- no walk is legal with any choices
abbrev pub HasNoWalk : List Solid → Task → Type 0
HasNoWalk solids task = (t : Triple) → IsLegalTriple solids task t → ⊥

-- the route goes along the walk with these choices, has its cost, and has a point at each end and where a run begins
pub record IsRouteOf (task : Task) (r : Route) (t : Triple) : Type 0 where
  pub draws : Draws r.points t.walk
  pub corners : length r.points ≡ runs t.walk.steps + 1
  pub start : r.start ≡ t.start
  pub end : r.end ≡ t.end
  pub cost : r.cost ≡ triple_cost task t

-- the order of routes by their own data: cost, number of runs, sum of run coordinates (lean), start choice, steps and end choice
abbrev pub compare_by_keys : Route → Route → Ordering
compare_by_keys a b =
    ordering_then (nat_cmp a.cost b.cost)
    (ordering_then (nat_cmp (runs (steps_of a.points)) (runs (steps_of b.points)))
    (ordering_then (int_cmp (line_lean a.points) (line_lean b.points))
    (ordering_then (nat_cmp a.start b.start)
    (ordering_then (slice_cmp dir_cmp (steps_of a.points) (steps_of b.points))
    (nat_cmp a.end b.end)))))
