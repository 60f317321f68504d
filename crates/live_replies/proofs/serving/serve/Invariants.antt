-- The turns so far, and the room for a line.
use Rattle.std.proofs.Common.{◌≤◌, ◌-◌, vec_capacity}
use Rattle.host_edge.specs.Count.{NeverFalls}
use Rattle.live_replies.specs.Serves.{Serves}
use Rattle.live_replies.proofs.serving.serve.Given as goal

abbrev pub invariant-loop-count : goal.invariant-loop-count
invariant-loop-count g l = record {
  room : 4096 ≤ vec_capacity l.line;
  within : l.count ≤ 18446744073709551615;
  reads : NeverFalls (g.L.LineSource.faults l.fn.lines) (g.L.LineSource.faults l.lines);
  writes : NeverFalls (g.O.Sink.faults l.fn.out) (g.O.Sink.faults l.out);
  served : Serves l.count
      (record { rest = g.L.LineSource.rest l.fn.lines; held = g.O.Sink.held l.fn.out; live = l.fn.live })
      (record { rest = g.L.LineSource.rest l.lines; held = g.O.Sink.held l.out; live = l.live });
}

abbrev pub decreases-loop-count : goal.decreases-loop-count
decreases-loop-count g l = 18446744073709551615 - l.count
