-- A diagram or a script that is not read is the end.
use Rattle.std.proofs.Common.{subst}
use Rattle.std.specs.Prelude.{Option}
use Rattle.host_edge.specs.Folder.{ExposedFiles}
use Rattle.gml_text.specs.View.{tree}
use Rattle.edit_script.specs.Script.{commands}
use Rattle.reroute_app.specs.Diagram.{ReadsDiagram, most_script_bytes, ReadsScript}
use Rattle.reroute_app.specs.Reads.{ReadsFile}
use Rattle.reroute_app.specs.View.{HasCommands, StopsAt, never, never_two, never_three}
use Rattle.reroute_app.specs.View.NotesTwo.{of_both}
use Rattle.reroute_app.proofs.Stops.{diagram_ends, script_unread, stop_on, stops_as}
use Rattle.reroute_app.proofs.read.read_both.Goals as goal

pub returns-in_err-diagram-clause-stopped : goal.returns-in_err-diagram-clause-stopped
returns-in_err-diagram-clause-stopped g c =
    let files = g.F.Folder.files c.args.folder.now in
    let old = g.F.Folder.notes c.args.folder.now in
    let new = g.F.Folder.notes c.read_diagram.new.folder in
    let course = ReadsScript files c.args.diagram.now c.args.script.now never_three old new in
    stop_on course c.in_err-diagram.field-0.0 c.from_residual.result
    (stops_as (ReadsDiagram files c.args.diagram.now never_two old new) course
    (diagram_ends files c.args.diagram.now (λ t s. ReadsFile files c.args.script.now most_script_bytes (λ bytes. never_three t s (commands bytes))) old new) c.in_err-diagram.field-0.0 c.in_err-diagram.ensures.stopped)
    c.from_residual.ensures.1

pub returns-in_err-commands-clause-stopped : goal.returns-in_err-commands-clause-stopped
returns-in_err-commands-clause-stopped g c =
    let files = g.F.Folder.files c.args.folder.now in
    let old = g.F.Folder.notes c.args.folder.now in
    let middle = g.F.Folder.notes c.read_diagram.new.folder in
    let new = g.F.Folder.notes c.read_commands.new.folder in
    let d = c.in_ok-diagram.diagram in
    stop_on (ReadsScript files c.args.diagram.now c.args.script.now never_three old new) c.in_err-commands.field-0.0 c.from_residual-in_err-commands.result
    (script_unread files c.args.diagram.now c.args.script.now old middle new (tree d.doc) d.scene c.in_ok-diagram.ensures.read c.in_err-commands.field-0.0
    (subst (λ (exposed : Option ExposedFiles). StopsAt (ReadsFile exposed c.args.script.now most_script_bytes never middle new) c.in_err-commands.field-0.0) c.read_diagram.ensures.files_kept c.in_err-commands.ensures.stopped))
    c.from_residual-in_err-commands.ensures.1

pub returns-in_err-commands-clause-notes : goal.returns-in_err-commands-clause-notes
returns-in_err-commands-clause-notes g c =
    of_both (g.F.Folder.notes c.read_diagram.new.folder) (tree c.in_ok-diagram.diagram.doc) c.in_ok-diagram.diagram.scene c.in_ok-diagram.ensures.read tt c.read_commands.ensures.notes

pub returns-clause-read : goal.returns-clause-read
returns-clause-read g c = record {
  middle = g.F.Folder.notes c.read_diagram.new.folder;
  has_diagram = c.in_ok-diagram.ensures.read;
  has_commands =
      subst (λ (exposed : Option ExposedFiles). HasCommands exposed c.args.script.now (g.F.Folder.notes c.read_diagram.new.folder) (g.F.Folder.notes c.read_commands.new.folder) c.in_ok-commands.commands.items)
      c.read_diagram.ensures.files_kept c.in_ok-commands.ensures.read;
}

pub returns-clause-notes : goal.returns-clause-notes
returns-clause-notes g c =
    of_both (g.F.Folder.notes c.read_diagram.new.folder) (tree c.in_ok-diagram.diagram.doc) c.in_ok-diagram.diagram.scene c.in_ok-diagram.ensures.read tt c.read_commands.ensures.notes
