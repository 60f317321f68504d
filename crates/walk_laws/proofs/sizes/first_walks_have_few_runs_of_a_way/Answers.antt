-- The names of the lines are the lines.
use Rattle.walk_laws.proofs.FewAndSmall.FewRuns.{few_of_way}
use Rattle.walk_laws.proofs.sizes.first_walks_have_few_runs_of_a_way.Goals as goal

pub returns : goal.returns
returns c = λ floor task t way lines is_task on first kept all. few_of_way floor task t is_task on first lines kept way all
