-- What the order says of the places.
use Rattle.std.proofs.Common.{sym, ◌∙◌}
use Rattle.drawing.proofs.Places.{equal_within, greater_within, less_within}
use Rattle.drawing.proofs.changes.next.Goals as goal

pub returns-clause-less : goal.returns-clause-less
returns-clause-less c = λ is. less_within c.args.reported.now c.args.lines.now c.args.at c.args.place (sym c.order.ensures ∙ is)

pub returns-clause-equal : goal.returns-clause-equal
returns-clause-equal c = λ is. equal_within c.args.reported.now c.args.lines.now c.args.at c.args.place (sym c.order.ensures ∙ is)

pub returns-clause-greater : goal.returns-clause-greater
returns-clause-greater c = λ is. greater_within c.args.reported.now c.args.lines.now c.args.at c.args.place (sym c.order.ensures ∙ is) c.requires
