-- The lines of the working scene are those after a commit.
use Rattle.std.proofs.lemmas.Result.{IfOk-weaker}
use Rattle.drawing.proofs.Proposing.{proposed}
use Rattle.drawing.proofs.lines.Lines.of_working.Goals as goal

pub returns : goal.returns
returns c = IfOk-weaker c.of.result _ _ (λ lines drawn. proposed c.args.session.now c.args.working.now _ lines c.requires drawn) c.of.ensures
