-- From the segment to a step, and back.
use Rattle.plane_geom.proofs.Steps.{some_step, from_step}
use Rattle.plane_geom.proofs.rect.meets_by_steps.Goals as goal

pub returns : goal.returns
returns c = λ r p d n h. (some_step r p d n h, from_step r p d n)
