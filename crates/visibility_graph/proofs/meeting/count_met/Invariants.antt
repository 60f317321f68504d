-- Those so far that reach the line's whole line are counted.
use Rattle.std.proofs.Common.{◌≡◌, ◌≤◌, take}
use Rattle.std.specs.Prelude.{count_by}
use Rattle.visibility_graph.specs.Meeting.{reaches}
use Rattle.visibility_graph.proofs.meeting.count_met.Given as goal

abbrev pub invariant-loop-other : goal.invariant-loop-other
invariant-loop-other l = record {
  counted : l.count ≡ count_by (λ m. reaches m l.line.at) (take l.other-index l.here);
  few : l.count ≤ l.other-index;
}
