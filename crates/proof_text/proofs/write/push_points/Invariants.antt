-- What is written so far, and the points that are left, give the whole.
use Rattle.std.proofs.Common.{◌≡◌, ◌++◌, drop, map}
use Rattle.proof_text.specs.Lines.{text_of_lines}
use Rattle.proof_text.specs.Text.{point_line}
use Rattle.proof_text.proofs.write.push_points.Given as goal

abbrev pub invariant-loop-point : goal.invariant-loop-point
invariant-loop-point l = l.out.items ++ text_of_lines (map point_line (drop l.point-index l.points)) ≡ l.fn.out.items ++ text_of_lines (map point_line l.points)
