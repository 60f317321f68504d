-- One coordinate at a time; and a walk in a direction stays as far beside and behind across it.
use Rattle.plane_geom.proofs.Headings.{forward_distance}
use Rattle.move_model.proofs.Bounds.{bends_grow, distance_grows, point_grows, within_bends}
use Rattle.move_model.proofs.laws.bounds_grow_slowly.Goals as goal

pub returns : goal.returns
returns c = record {
  begin = within_bends;
  steps = λ p d n. forward_distance d n p;
  rectangle = distance_grows;
  point = point_grows;
  bends = bends_grow;
}
