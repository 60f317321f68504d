-- What is ahead of a walk: its cost, runs and sum of run coordinates (lean) from there.
use Rattle.std.specs.Prelude.{ℕ, ◌+◌, ◌*◌, ◌==◌, pos, ◌+ℤ◌, List, length, if◌then◌else◌}
use Rattle.std.specs.declared.cmp.Ordering.{Ordering}
use Rattle.std.specs.Ordering.{nat_cmp, int_cmp, ordering_then}
use Rattle.plane_geom.specs.declared.point.Point.{Point}
use Rattle.plane_geom.specs.declared.point.Dir.{Dir}
use Rattle.plane_geom.specs.Along.{way_of, across}
use Rattle.walk_model.specs.declared.task.Choice.{Choice}
use Rattle.walk_model.specs.declared.task.Task.{Task}
use Rattle.walk_model.specs.Cost.{turn, bends_after, runs, runs_after}
use Rattle.walk_model.specs.Lean.{lean, lean_after}
use Rattle.walk_model.specs.Choice.{stub_length}
use Rattle.walk_model.specs.Order.{Triple, triple_cost}
use Rattle.move_model.specs.declared.ahead.Ahead.{Ahead}
use Rattle.move_model.specs.declared.ahead.Stretch.{Stretch}

-- nothing is ahead
abbrev pub nothing : Ahead
nothing = record { cost = 0; runs = 0; lean = pos 0 }

-- what is ahead of a walk that arrives at the point with the heading and takes these steps, with an additional cost of `more` at their end
abbrev pub ahead : ℕ → Dir → Point → List Dir → ℕ → Ahead
ahead penalty heading p steps more = record {
  cost = length steps + penalty * bends_after heading steps + more;
  runs = runs_after heading steps;
  lean = lean_after heading p steps;
}

-- the same with a stretch in front, for a walk that enters the stretch with the heading
abbrev pub with_stretch : ℕ → Dir → Stretch → Ahead → Ahead
with_stretch penalty heading s v = record {
  cost = v.cost + s.steps + penalty * turn heading s.dir;
  runs = (if turn heading s.dir == 0 then 0 else 1) + v.runs;
  lean = (if turn heading s.dir == 0 then pos 0 else across (way_of s.dir) s.from) +ℤ v.lean;
}

-- the same with n steps straight on in front
abbrev pub with_steps : ℕ → Ahead → Ahead
with_steps n v = record { cost = v.cost + n; runs = v.runs; lean = v.lean }

-- the same with the stub of a start choice in front, and the choice's connection cost
abbrev pub with_start : Choice → Ahead → Ahead
with_start s v = record { cost = stub_length s + s.cost + v.cost; runs = 1 + v.runs; lean = across (way_of s.dir) s.pin +ℤ v.lean }

-- a whole walk with its choices
abbrev pub whole : Task → Triple → Ahead
whole task t = record { cost = triple_cost task t; runs = runs t.walk.steps; lean = lean t.walk.start t.walk.steps }

-- the order of what is ahead: by cost, runs and sum of run coordinates
abbrev pub ahead_cmp : Ahead → Ahead → Ordering
ahead_cmp v w = ordering_then (nat_cmp v.cost w.cost) (ordering_then (nat_cmp v.runs w.runs) (int_cmp v.lean w.lean))
