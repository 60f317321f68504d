-- The point where the walk stands is one more corner, or lies further on.
use Rattle.move_model.proofs.Corners.{drawn_begins, drawn_ends, drawn_on, drawn_turned}
use Rattle.move_model.proofs.laws.corners_draw_walks.Goals as goal

pub returns : goal.returns
returns c = record {
  begin = drawn_begins;
  straight = drawn_on;
  turned = λ points at h d w n o. drawn_turned points at h w o d n;
  ended = drawn_ends;
}
