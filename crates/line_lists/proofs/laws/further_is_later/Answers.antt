-- What lies further is a stop of the line, and a later one.
use Rattle.line_lists.proofs.Later.{later}
use Rattle.line_lists.proofs.laws.further_is_later.Goals as goal

pub returns : goal.returns
returns c = later
