-- The text so far and the elements that are left give the whole.
use Rattle.std.proofs.Common.{◌≡◌, ◌++◌, drop}
use Rattle.report_text.specs.Shared.{shared_lines}
use Rattle.report_text.proofs.shared.push_shared_lines.Given as goal

abbrev pub invariant-loop-path : goal.invariant-loop-path
invariant-loop-path l = l.text.items ++ shared_lines (drop l.path-index l.paths) ≡ shared_lines l.paths
