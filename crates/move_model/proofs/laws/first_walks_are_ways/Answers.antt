-- From crossing to crossing along the steps between the ports.
use Rattle.move_model.proofs.Moving.FirstWays.{first_is_way}
use Rattle.move_model.proofs.laws.first_walks_are_ways.Goals as goal

pub returns : goal.returns
returns c = first_is_way
