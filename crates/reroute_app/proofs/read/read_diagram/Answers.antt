-- Bytes that are not a valid diagram are the end of the read.
use Rattle.std.proofs.Common.{subst}
use Rattle.std.specs.Prelude.{IfErr}
use Rattle.reroute_app.specs.Diagram.{TakesDiagram}
use Rattle.reroute_app.specs.View.{StopsAt, never_two}
use Rattle.reroute_app.proofs.Stops.{bytes_stop}
use Rattle.reroute_app.proofs.read.read_diagram.Goals as goal

pub returns-clause-stopped : goal.returns-clause-stopped
returns-clause-stopped g c =
    bytes_stop (g.F.Folder.files c.args.folder.now) c.args.name.now c.in_ok-bytes.bytes.items (g.F.Folder.notes c.args.folder.now) (g.F.Folder.notes c.read_file.new.folder) c.diagram_of.result
    c.in_ok-bytes.ensures.read
    (subst (λ bs. IfErr c.diagram_of.result (StopsAt (TakesDiagram never_two bs (g.F.Folder.notes c.read_file.new.folder) (g.F.Folder.notes c.read_file.new.folder)))) c.deref.ensures.value
    (c.diagram_of.ensures.stopped (g.F.Folder.notes c.read_file.new.folder)))
