-- The choices of a connector's end.
use Rattle.std.specs.Prelude.{ℕ, ◌≡◌, ◌<◌, ◌≤◌, ◌^◌, List, All, AllPairs}
use Rattle.plane_geom.specs.Point.{PointIsOnSheet, forward, distance}
use Rattle.walk_model.specs.declared.task.Choice.{Choice}

-- the number of steps of the stub, which leads from the pin to the port
abbrev pub stub_length : Choice → ℕ
stub_length c = distance c.pin c.port

-- the port is straight from the pin in the direction, at least one step away
pub record IsChoice (c : Choice) : Type 0 where
  pub pin : PointIsOnSheet c.pin
  pub port : PointIsOnSheet c.port
  pub straight : c.port ≡ forward c.dir (stub_length c) c.pin
  pub apart : 0 < stub_length c
  pub cost : c.cost ≤ 10 ^ 9

-- the choices of one end: they are of one node, and those of one pin in one direction have one port
pub record AreChoices (choices : List Choice) : Type 0 where
  pub each : All IsChoice choices
  pub one_node : AllPairs (λ c d. c.node ≡ d.node) choices
  pub one_port : AllPairs (λ c d. c.pin ≡ d.pin → c.dir ≡ d.dir → c.port ≡ d.port) choices
