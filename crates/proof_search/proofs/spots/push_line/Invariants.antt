-- The line is listed up to the next crossing, and less of it is left each time.
use Rattle.proof_search.proofs.RowsInOrder.Listing.{Listing, left_on}
use Rattle.proof_search.proofs.spots.push_line.Given as goal

abbrev pub invariant-loop-next : goal.invariant-loop-next
invariant-loop-next l = Listing l.arena l.fn.line l.fn.id l.initial.spots.items l.spots.items l.next

abbrev pub decreases-loop-next : goal.decreases-loop-next
decreases-loop-next l = left_on l.fn.line l.next
