-- A diagram or a script that is not read is the end, and what is read is replayed.
use Rattle.std.proofs.Common.{length, sym, ap, subst, ◌∙◌, arith}
use Rattle.std.specs.Prelude.{ℕ, List}
use Rattle.gml_text.specs.Tree.{Pairs}
use Rattle.gml_text.specs.View.{tree}
use Rattle.gml_text.proofs.Printing.{document_is_printable}
use Rattle.scene_model.specs.declared.edit.Command.{Command}
use Rattle.scene_model.specs.Scene.{Scene}
use Rattle.edit_script.proofs.Directed.{have_directions}
use Rattle.session_model.specs.Calls.{AreDirected}
use Rattle.reroute_app.specs.Reads.{Ends}
use Rattle.report_text.specs.Outcome.{Outcome}
use Rattle.form_route.specs.Routes.{Replays}
use Rattle.reroute_app.proofs.Scripts.{few_commands}
use Rattle.reroute_app.proofs.Stops.{script_goes_on, script_stops}
use Rattle.reroute_app.proofs.form.replay_files.Goals as goal

pub returns-in_err-both-clause-outcome : goal.returns-in_err-both-clause-outcome
returns-in_err-both-clause-outcome g c =
    script_stops (g.F.Folder.files c.args.folder.now) c.args.diagram.now c.args.script.now (λ t s commands. Ends (Replays t s commands c.args.options.count)) (g.F.Folder.notes c.args.folder.now)
    (g.F.Folder.notes c.read_both.new.folder) c.in_err-both.field-0.0 c.from_residual.result c.in_err-both.ensures.stopped c.from_residual.ensures.1

pub route-requires-clause-few : goal.route-requires-clause-few
route-requires-clause-few g c =
    let has = c.in_ok-both.ensures.read.has_commands in
    let few = few_commands has.bytes in
    let short = has.read.short in
    let long = ap length has.are_commands in
    let same = ap length c.deref.ensures.value in
    omega (arith, few, short, long, same)

pub route-requires-clause-directed : goal.route-requires-clause-directed
route-requires-clause-directed g c κs within =
    let has = c.in_ok-both.ensures.read.has_commands in
    subst AreDirected (sym (c.deref.ensures.value ∙ has.are_commands)) (have_directions has.bytes)

pub route-requires-clause-printable : goal.route-requires-clause-printable
route-requires-clause-printable g c κs within =
    let has = c.in_ok-both.ensures.read.has_diagram in
    document_is_printable (tree c.in_ok-both.both.diagram.doc) has.bytes has.diagram.document

pub returns-clause-outcome : goal.returns-clause-outcome
returns-clause-outcome g c =
    let files = g.F.Folder.files c.args.folder.now in
    let old = g.F.Folder.notes c.args.folder.now in
    let new = g.F.Folder.notes c.read_both.new.folder in
    let both = c.in_ok-both.both in
    let P : Pairs → Scene → List (ℕ × Command) → Outcome → Type 0 = λ t s commands. Replays t s commands c.args.options.count in
    script_goes_on files c.args.diagram.now c.args.script.now P old new (tree both.diagram.doc) both.diagram.scene both.commands.items c.deref.result.now c.in_ok-route.field-0
    c.in_ok-both.ensures.read c.deref.ensures.value c.in_ok-route.ensures
