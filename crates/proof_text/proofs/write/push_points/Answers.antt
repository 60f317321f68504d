-- One point on.
use Rattle.std.proofs.Common.{◌++◌, map, refl}
use Rattle.proof_text.specs.Lines.{ended_line, text_of_lines}
use Rattle.proof_text.specs.Text.{point_line}
use Rattle.proof_text.proofs.Writing.{written_on}
use Rattle.proof_text.proofs.write.push_points.Goals as goal

pub loop-point-preserved : goal.loop-point-preserved
loop-point-preserved c =
    written_on (λ p. ended_line (point_line p)) (λ ps. text_of_lines (map point_line ps)) (λ p ps. refl)
    (c.args.out.now.items ++ text_of_lines (map point_line c.args.points.now)) c.loop-point.out.items
    c.push_point_line.new.out.items c.args.points.now c.loop-point.point-index _
    c.loop-point-test.true c.loop-point.invariant c.in_ok-push_point_line.ensures
