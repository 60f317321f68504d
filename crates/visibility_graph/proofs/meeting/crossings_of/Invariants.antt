-- The crossings of the lines so far are counted.
use Rattle.std.proofs.Common.{◌≡◌, take}
use Rattle.visibility_graph.specs.Meeting.{coming}
use Rattle.visibility_graph.proofs.meeting.crossings_of.Given as goal

abbrev pub invariant-loop-place : goal.invariant-loop-place
invariant-loop-place l = l.count ≡ coming (take l.place l.new) l.stay
