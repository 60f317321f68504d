-- The corners are where the runs end.
use Rattle.walk_model.proofs.Ranking.OneAnswer.{one_route}
use Rattle.walk_model.proofs.order.one_route.Goals as goal

pub returns : goal.returns
returns c = one_route
