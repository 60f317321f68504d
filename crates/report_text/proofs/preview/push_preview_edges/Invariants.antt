-- The text so far and the edges that are left give the whole.
use Rattle.std.proofs.Common.{◌≡◌, ◌++◌, drop}
use Rattle.report_text.specs.Previews.{preview_edge_lines}
use Rattle.report_text.proofs.preview.push_preview_edges.Given as goal

abbrev pub invariant-loop-edge : goal.invariant-loop-edge
invariant-loop-edge l = l.out.items ++ preview_edge_lines l.number (drop l.edge-index l.edges) ≡ l.fn.out.items ++ preview_edge_lines l.number l.edges
