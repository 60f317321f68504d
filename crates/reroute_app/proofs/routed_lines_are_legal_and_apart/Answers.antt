-- The law of the lines that runs write.
use Rattle.reroute_app.proofs.Lines.{runs_write_good_lines}
use Rattle.reroute_app.proofs.routed_lines_are_legal_and_apart.Goals as goal

pub returns : goal.returns
returns c = runs_write_good_lines c.written_lines_are_legal_and_apart.ensures.legal c.written_lines_are_legal_and_apart.ensures.apart
