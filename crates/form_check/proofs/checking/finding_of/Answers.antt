-- A line that is read may be judged.
use Rattle.gml_text.specs.View.{tree}
use Rattle.form_check.proofs.Lines.{drawn_fits}
use Rattle.form_check.proofs.checking.finding_of.Goals as goal

pub line_finding-requires-clause-line : goal.line_finding-requires-clause-line
line_finding-requires-clause-line c = drawn_fits (tree c.args.doc.now) c.args.edge.now c.in_ok-line.line c.requires.doc c.in_ok-line.ensures
