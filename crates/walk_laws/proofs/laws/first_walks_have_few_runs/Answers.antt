-- The names of the lines are the lines.
use Rattle.walk_laws.proofs.FewAndSmall.FewRuns.{few_on_all}
use Rattle.walk_laws.proofs.laws.first_walks_have_few_runs.Goals as goal

pub returns : goal.returns
returns c = λ floor task t lines is_task on first kept all. few_on_all floor task t is_task on first lines kept all
