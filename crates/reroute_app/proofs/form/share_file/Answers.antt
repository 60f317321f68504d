-- A diagram that is not read is the end, and the paths of one that is read are listed.
use Rattle.std.proofs.Common.{refl}
use Rattle.gml_text.specs.View.{tree}
use Rattle.reroute_app.specs.Reads.{Ends}
use Rattle.form_shared.specs.Shares.{ListsPaths}
use Rattle.reroute_app.proofs.Stops.{diagram_goes_on, diagram_stops}
use Rattle.reroute_app.proofs.form.share_file.Goals as goal

pub returns-in_err-diagram-clause-outcome : goal.returns-in_err-diagram-clause-outcome
returns-in_err-diagram-clause-outcome g c =
    diagram_stops (g.F.Folder.files c.args.folder.now) c.args.name.now (λ tree s. Ends (ListsPaths s)) (g.F.Folder.notes c.args.folder.now) (g.F.Folder.notes c.read_diagram.new.folder)
    c.in_err-diagram.field-0.0 c.from_residual.result c.in_err-diagram.ensures.stopped c.from_residual.ensures.1

pub returns-clause-outcome : goal.returns-clause-outcome
returns-clause-outcome g c =
    let new = g.F.Folder.notes c.read_diagram.new.folder in
    let d = c.in_ok-diagram.diagram in
    diagram_goes_on (g.F.Folder.files c.args.folder.now) c.args.name.now (λ tree s. Ends (ListsPaths s)) (g.F.Folder.notes c.args.folder.now) new new c.in_ok-share.field-0 (tree d.doc) d.scene
    c.in_ok-diagram.ensures.read (refl, c.in_ok-share.ensures)
