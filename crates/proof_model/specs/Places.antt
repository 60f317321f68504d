-- Places on the crossings of a floor, and the entries, moves and endings of walks there, each with its cost.
use Rattle.std.specs.Prelude.{ℕ, ◌≡◌, ◌+◌, ◌*◌, length, Contains}
use Rattle.plane_geom.specs.declared.point.Point.{Point}
use Rattle.plane_geom.specs.declared.point.Dir.{Dir}
use Rattle.plane_geom.specs.declared.floor.Floor.{Floor}
use Rattle.plane_geom.specs.Floor.{IsCrossing}
use Rattle.plane_geom.specs.Point.{opposite}
use Rattle.walk_model.specs.declared.task.Choice.{Choice}
use Rattle.walk_model.specs.declared.task.Task.{Task}
use Rattle.walk_model.specs.Choice.{stub_length}
use Rattle.walk_model.specs.Cost.{turn}
use Rattle.move_model.specs.Places.{ComesTo, HasFreeStub}
use Rattle.proof_model.specs.Crossings.{IsNextCrossing}

-- a crossing to which a walk has come in the heading, after it has passed `stage` checkpoints
pub record Place : Type 0 where
  pub stage : ℕ
  pub at : Point
  pub heading : Dir

-- a walk by the free stub of a start choice enters at the place, and has this cost by then
pub record IsEntry (floor : Floor) (task : Task) (x : Place) (cost : ℕ) : Type 0 where
  pub start : Choice
  pub is_start : Contains task.starts start
  pub crossing : IsCrossing floor x.at
  pub free : HasFreeStub floor.solids start
  pub stage : ComesTo task.via 0 start.port x.stage
  pub at : x.at ≡ start.port
  pub heading : x.heading ≡ start.dir
  pub costs : cost ≡ stub_length start + start.cost

-- a walk goes on from place x to place y, the next crossing in y's heading, at this cost
pub record IsMove (floor : Floor) (task : Task) (x : Place) (cost : ℕ) (y : Place) : Type 0 where
  pub steps : ℕ
  pub next : IsNextCrossing floor y.heading x.at steps y.at
  pub stage : ComesTo task.via x.stage y.at y.stage
  pub costs : cost ≡ steps + task.penalty * turn x.heading y.heading

-- a walk that has passed all checkpoints leaves the place by the free stub of an end choice, at this cost
pub record IsExit (floor : Floor) (task : Task) (x : Place) (cost : ℕ) : Type 0 where
  pub end : Choice
  pub is_end : Contains task.ends end
  pub crossing : IsCrossing floor x.at
  pub free : HasFreeStub floor.solids end
  pub stage : x.stage ≡ length task.via
  pub at : x.at ≡ end.port
  pub costs : cost ≡ task.penalty * turn x.heading (opposite end.dir) + stub_length end + end.cost
