-- What holds while pieces are written.
use Rattle.std.proofs.Common.{length, ◌-◌, ◌≡◌, ◌≤◌, take}
use Rattle.std.specs.Io.KnownBytes.{append_known}
use Rattle.host_edge.specs.Count.{NeverFalls}
use Rattle.host_edge.proofs.sink.write_all_to.Given as goal

-- the first bytes are written, and no fault was met before any call
abbrev pub invariant-loop-written : goal.invariant-loop-written
invariant-loop-written g l =
    let held = g.S.Sink.held in
    let faults = g.S.Sink.faults in
    record {
      within : l.written ≤ length l.bytes;
      put : held l.out ≡ append_known (held l.initial.out) (take l.written l.bytes);
      counts : NeverFalls (faults l.initial.out) (faults l.out);
      idle : l.written ≡ 0 → faults l.out ≡ faults l.initial.out;
    }

abbrev pub decreases-loop-written : goal.decreases-loop-written
decreases-loop-written g l = length l.bytes - l.written
