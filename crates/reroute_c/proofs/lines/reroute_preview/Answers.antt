-- The fault is that of the session.
use Rattle.std.proofs.Common.{Option, subst}
use Rattle.std.specs.Prelude.{IfSome}
use Rattle.drawing.specs.Drawing.{DrawingState}
use Rattle.reroute_c.specs.Lines.{IsUnpreviewed}
use Rattle.reroute_c.proofs.Unpreviewed.{unpreviewed}
use Rattle.reroute_c.proofs.lines.reroute_preview.Goals as goal

pub returns-clause-fault : goal.returns-clause-fault
returns-clause-fault c = λ refused.
    subst (λ (d : Option DrawingState). IfSome d (λ s. IsUnpreviewed s.session c.of.result)) c.in-Some.ensures.was
    (unpreviewed c.preview_lines-answer.result c.in-Some.drawing.session c.of.result c.preview_lines-answer.ensures.fault c.of.ensures.fault refused)
