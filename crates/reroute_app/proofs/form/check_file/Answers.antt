-- A diagram that is not read is the end, and one that is read is checked.
use Rattle.std.proofs.Common.{arith, refl}
use Rattle.gml_text.specs.View.{tree}
use Rattle.form_check.proofs.Counts.{document_few}
use Rattle.reroute_app.specs.Reads.{Ends}
use Rattle.form_check.specs.Checks.{Checks}
use Rattle.reroute_app.proofs.Stops.{diagram_goes_on, diagram_stops}
use Rattle.reroute_app.proofs.form.check_file.Goals as goal

pub returns-in_err-diagram-clause-outcome : goal.returns-in_err-diagram-clause-outcome
returns-in_err-diagram-clause-outcome g c =
    diagram_stops (g.F.Folder.files c.args.folder.now) c.args.name.now (λ tree s. Ends (Checks tree s)) (g.F.Folder.notes c.args.folder.now) (g.F.Folder.notes c.read_diagram.new.folder)
    c.in_err-diagram.field-0.0 c.from_residual.result c.in_err-diagram.ensures.stopped c.from_residual.ensures.1

pub check_lines-requires : goal.check_lines-requires
check_lines-requires g c =
    let has = c.in_ok-diagram.ensures.read in
    let short = has.read.short in
    document_few (tree c.in_ok-diagram.diagram.doc) has.bytes has.diagram.document (omega (arith, short))

pub returns-clause-outcome : goal.returns-clause-outcome
returns-clause-outcome g c =
    let new = g.F.Folder.notes c.read_diagram.new.folder in
    let d = c.in_ok-diagram.diagram in
    diagram_goes_on (g.F.Folder.files c.args.folder.now) c.args.name.now (λ tree s. Ends (Checks tree s)) (g.F.Folder.notes c.args.folder.now) new new c.in_ok-check_lines.field-0 (tree d.doc) d.scene
    c.in_ok-diagram.ensures.read (refl, c.in_ok-check_lines.ensures)
