-- One element on.
use Rattle.report_text.specs.Findings.{finding_lines, finding_line}
use Rattle.report_text.proofs.Lists.{one_pushed}
use Rattle.report_text.proofs.finding.push_finding_lines.Goals as goal

pub loop-finding-preserved : goal.loop-finding-preserved
loop-finding-preserved c =
    one_pushed finding_line (finding_lines c.args.findings.now) c.loop-finding.text.items c.push_finding_line.new.out.items c.args.findings.now c.loop-finding.finding-index _
    c.loop-finding-test.true c.loop-finding.invariant c.in_ok-push_finding_line.ensures
