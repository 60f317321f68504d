-- By the line that holds both crossings.
use Rattle.move_model.proofs.Stopping.RunLines.{begun_sooner, ended_later, held_longer, lie_on_line, run_between}
use Rattle.move_model.proofs.stations.runs_lie_on_lines.Goals as goal

pub returns : goal.returns
returns c = record {
  between = λ a d b e p q arena f at_p at_q. run_between a arena d b e p q f at_p at_q;
  line = λ a d b e p q arena f at_p at_q. lie_on_line a arena d b e p q f at_p at_q;
  sooner = λ a d z b r p q arena f at_r at_p. begun_sooner a arena d z b r p q f at_r at_p;
  later = λ a d e f p q r arena g at_q at_r. ended_later a arena d e f p q r g at_q at_r;
  held = held_longer;
}
