-- What is written so far, and the elements that are left, give the whole.
use Rattle.std.proofs.Common.{◌≡◌, ◌++◌, drop}
use Rattle.report_text.specs.Routed.{routed_lines}
use Rattle.report_text.proofs.routed.push_routed_lines.Given as goal

abbrev pub invariant-loop-edge : goal.invariant-loop-edge
invariant-loop-edge l = l.text.items ++ routed_lines (drop l.edge-index l.edges) ≡ routed_lines l.edges
