-- By induction over the steps.
use Rattle.walk_laws.proofs.FewAndSmall.CountedRuns.{both_ways}
use Rattle.walk_laws.proofs.sizes.both_ways_are_all_runs.Goals as goal

pub returns : goal.returns
returns c = both_ways
