-- A first walk is found by recursion over the steps that may follow.
use Rattle.walk_model.proofs.Ranking.First.{one_first}
use Rattle.walk_model.proofs.order.one_first_walk.Goals as goal

pub returns : goal.returns
returns c = one_first
