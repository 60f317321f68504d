-- The corners are where the runs end.
use Rattle.walk_model.proofs.Ranking.SomeRoute.{some_route}
use Rattle.walk_model.proofs.order.some_route.Goals as goal

pub returns : goal.returns
returns c = some_route
