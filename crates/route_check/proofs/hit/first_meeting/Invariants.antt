-- No step of the segments so far meets the rectangle.
use Rattle.route_check.proofs.Collisions.Meetings.{MeetsNoneSoFar}
use Rattle.route_check.proofs.hit.first_meeting.Given as goal

abbrev pub invariant-loop-i : goal.invariant-loop-i
invariant-loop-i l = MeetsNoneSoFar l.rect l.among l.fn.first l.rest l.i l.walked l.from
