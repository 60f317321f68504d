-- By induction over the legs in front.
use Rattle.move_model.proofs.GoingOn.Joined.{legs_behind, steps_behind, way_behind, way_cut}
use Rattle.move_model.proofs.laws.ways_go_on.Goals as goal

pub returns : goal.returns
returns c = record { way = way_behind; steps = steps_behind; legs = legs_behind; behind = way_cut }
