-- The line is listed up to the next stop, and less of it is left each time.
use Rattle.line_lists.proofs.Walking.{Walking, left_on}
use Rattle.line_lists.proofs.rows.push_stops.Given as goal

abbrev pub invariant-loop-next : goal.invariant-loop-next
invariant-loop-next l = Walking l.arena l.id l.line l.number l.initial.stops.items l.stops.items l.initial.numbers l.numbers l.next

abbrev pub decreases-loop-next : goal.decreases-loop-next
decreases-loop-next l = left_on l.line l.next
