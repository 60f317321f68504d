-- The lines that stay are one list, and so are those that come.
use Rattle.graph_repair.proofs.OneCount.{one_count}
use Rattle.graph_repair.proofs.laws.one_write_count.Goals as goal

pub returns : goal.returns
returns c = one_count
