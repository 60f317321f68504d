-- A diagram that is not read, or too large, is the end.
use Rattle.gml_text.specs.View.{tree}
use Rattle.reroute_app.specs.Diagram.{ReadsSmall}
use Rattle.reroute_app.specs.View.{never}
use Rattle.reroute_app.proofs.Stops.{large_stops, stop_on, unread_stops}
use Rattle.reroute_app.proofs.read.read_small.Goals as goal

pub returns-in_err-diagram-clause-stopped : goal.returns-in_err-diagram-clause-stopped
returns-in_err-diagram-clause-stopped g c =
    let files = g.F.Folder.files c.args.folder.now in
    let old = g.F.Folder.notes c.args.folder.now in
    let new = g.F.Folder.notes c.read_diagram.new.folder in
    stop_on (ReadsSmall files c.args.name.now never old new) c.in_err-diagram.field-0.0 c.from_residual.result
    (unread_stops files c.args.name.now old new c.in_err-diagram.field-0.0 c.in_err-diagram.ensures.stopped) c.from_residual.ensures.1

pub returns-in_err-check_size-clause-stopped : goal.returns-in_err-check_size-clause-stopped
returns-in_err-check_size-clause-stopped g c =
    let files = g.F.Folder.files c.args.folder.now in
    let old = g.F.Folder.notes c.args.folder.now in
    let new = g.F.Folder.notes c.read_diagram.new.folder in
    let d = c.in_ok-diagram.diagram in
    stop_on (ReadsSmall files c.args.name.now never old new) c.in_err-check_size.field-0.0 c.from_residual-in_err-check_size.result
    (large_stops files c.args.name.now old new (tree d.doc) d.scene c.in_ok-diagram.ensures.read c.in_err-check_size.field-0.0 (c.in_err-check_size.ensures.stopped new))
    c.from_residual-in_err-check_size.ensures.1
