-- The names of the lines are their last points.
use Rattle.walk_laws.proofs.FewAndSmall.SmallWalks.{few_each_way, few_in_all, small_cost}
use Rattle.walk_laws.proofs.sizes.first_walks_are_small.Goals as goal

pub returns : goal.returns
returns c = record {
  each_way = λ floor task t is_floor is_task on first. few_each_way floor task t is_floor is_task on first;
  in_all = λ floor task t is_floor is_task on first. few_in_all floor task t is_floor is_task on first;
  cost = λ floor task t is_floor is_task on first. small_cost floor task t is_floor is_task on first;
}
