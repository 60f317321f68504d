-- A route has a point more than the walk has runs.
use Rattle.std.proofs.Common.{arith}
use Rattle.walk_laws.proofs.FewAndSmall.SmallWalks.{orthogonal_route, few_in_all, small_cost}
use Rattle.walk_laws.proofs.sizes.first_routes_are_small.Goals as goal

pub returns : goal.returns
returns c = record {
  orthogonal = λ floor task t r is_floor is_task on first route. orthogonal_route floor task t is_floor is_task on first r route;
  few = λ floor task t r is_floor is_task on first route. omega (arith, route.corners, few_in_all floor task t is_floor is_task on first);
  cost = λ floor task t r is_floor is_task on first route. omega (arith, route.cost, small_cost floor task t is_floor is_task on first);
}
