-- One element on.
use Rattle.report_text.specs.Shared.{shared_line, shared_lines}
use Rattle.report_text.proofs.Lists.{one_pushed}
use Rattle.report_text.proofs.shared.push_shared_lines.Goals as goal

pub loop-path-preserved : goal.loop-path-preserved
loop-path-preserved c =
    one_pushed shared_line (shared_lines c.args.paths.now) c.loop-path.text.items c.push_shared_line.new.out.items c.args.paths.now c.loop-path.path-index _
    c.loop-path-test.true c.loop-path.invariant c.in_ok-push_shared_line.ensures
