-- All starts in order, with the path from each.
use Rattle.existence_laws.proofs.Sharing.Shared.{some_shared_paths}
use Rattle.existence_laws.proofs.laws.some_shared_paths.Goals as goal

pub returns : goal.returns
returns c = some_shared_paths
