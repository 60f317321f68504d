-- What was found so far, and what will be found in the rest.
use Rattle.std.proofs.Common.{length, ◌+◌, ◌-◌}
use Rattle.drawing.proofs.Places.{IsPassed}
use Rattle.drawing.proofs.changes.changes_between.Given as goal

abbrev pub invariant-loop-at : goal.invariant-loop-at
invariant-loop-at l = IsPassed l.reported l.lines l.at l.place l.changed.items l.gone.items

abbrev pub decreases-loop-at : goal.decreases-loop-at
decreases-loop-at l = (length l.reported - l.at) + (length l.lines - l.place)
