-- One more path is written.
use Rattle.std.proofs.Common.{arith}
use Rattle.reroute_c.specs.Checks.{shared_info}
use Rattle.reroute_c.proofs.Writing.{one_written}
use Rattle.reroute_c.proofs.checks.write_paths.Goals as goal

pub loop-at-preserved : goal.loop-at-preserved
loop-at-preserved c =
    rw c.loop-at.invariant (one_written shared_info c.args.paths.now c.args.out.now c.loop-at.at _ c.of.result (omega arith) (omega arith) c.of.ensures)
