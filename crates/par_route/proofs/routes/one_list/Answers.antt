-- The law that tasks have one list of right answers.
use Rattle.par_route.proofs.OneList as laws
use Rattle.par_route.proofs.routes.one_list.Goals as goal

pub returns : goal.returns
returns c = laws.one_list
