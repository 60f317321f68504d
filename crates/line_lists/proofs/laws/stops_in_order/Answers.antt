-- The order of the list is the order on the line.
use Rattle.line_lists.proofs.Later.{in_order}
use Rattle.line_lists.proofs.laws.stops_in_order.Goals as goal

pub returns : goal.returns
returns c = in_order
