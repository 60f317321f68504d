-- The order of keys is total, and the last parts of two keys decide where nothing else does.
use Rattle.segment_order.proofs.OneOrder.{keys_total}
use Rattle.segment_order.proofs.order.one_order.Goals as goal

pub returns-clause-total : goal.returns-clause-total
returns-clause-total c = keys_total
