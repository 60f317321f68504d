-- What is among the anchors of the slice is among those of the floor.
use Rattle.std.proofs.Common.{◌≡◌, List, All, Contains, refl, subst}
use Rattle.plane_geom.specs.declared.floor.Floor.{Floor}
use Rattle.plane_geom.specs.declared.point.Point.{Point}
use Rattle.walk_model.specs.declared.task.Choice.{Choice}
use Rattle.walk_model.specs.declared.task.Task.{Task}
use Rattle.walk_model.specs.Floors.{HasAnchorsOf}
use Rattle.search_tests.proofs.floors.has_anchors.Goals as goal

abbrev HasPorts : List Point → List Choice → Type 0
HasPorts anchors choices = All (λ c. Contains anchors c.port) choices

has_anchors : (floor : Floor) (task : Task) (anchors : List Point) → anchors ≡ floor.anchors → HasPorts anchors task.starts → HasPorts anchors task.ends → All (Contains anchors) task.via
    → HasAnchorsOf floor task
has_anchors floor task anchors same starts ends via = record {
  starts = subst (λ (ps : List Point). HasPorts ps task.starts) same starts;
  ends = subst (λ (ps : List Point). HasPorts ps task.ends) same ends;
  via = subst (λ (ps : List Point). All (Contains ps) task.via) same via;
}

pub returns-then-are_ports_among : goal.returns-then-are_ports_among
returns-then-are_ports_among c = λ t.
    let anchors : List Point = c.as_slice-anchors.result.now in
    has_anchors c.args.floor.now c.args.task.now anchors c.as_slice-anchors.ensures
    (subst (HasPorts anchors) c.as_slice.ensures (c.if-not-are_ports_among.ensures refl))
    (subst (HasPorts anchors) c.as_slice-2.ensures (c.if-are_ports_among.ensures refl))
    (subst (All (Contains anchors)) c.as_slice-then-are_ports_among.ensures (c.are_points_among.ensures t))
