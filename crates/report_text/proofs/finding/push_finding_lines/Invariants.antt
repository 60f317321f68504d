-- What is written so far, and the elements that are left, give the whole.
use Rattle.std.proofs.Common.{◌≡◌, ◌++◌, drop}
use Rattle.report_text.specs.Findings.{finding_lines}
use Rattle.report_text.proofs.finding.push_finding_lines.Given as goal

abbrev pub invariant-loop-finding : goal.invariant-loop-finding
invariant-loop-finding l = l.text.items ++ finding_lines (drop l.finding-index l.findings) ≡ finding_lines l.findings
