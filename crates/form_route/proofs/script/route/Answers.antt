-- The result of a script is its report, followed by the diagram.
use Rattle.std.proofs.Common.{List, ap, subst, ◌∙◌}
use Rattle.std.specs.Prelude.{IfOk}
use Rattle.gml_text.specs.View.{tree}
use Rattle.diagram_read.specs.Scene.{scene_of}
use Rattle.report_text.specs.declared.reply.LineReply.{LineReply}
use Rattle.gml_scene.specs.Origins.{AreEdgesOf, AreNodesOf}
use Rattle.script_replay.specs.Replies.{world_after}
use Rattle.form_route.specs.Diagram.{IsOutput}
use Rattle.report_text.specs.Outcome.{hinted}
use Rattle.form_route.specs.Report.{has_refusal, script_status}
use Rattle.form_route.proofs.Made.{made, of_ok, so_of}
use Rattle.form_route.proofs.script.route.Goals as goal

pub output-written-requires-clause-nodes : goal.output-written-requires-clause-nodes
output-written-requires-clause-nodes g c =
    let s = c.args.scene in
    let commands = c.args.commands.now in
    so_of AreNodesOf (scene_of (tree c.args.doc.now)) s c.in_ok-replayed.replayed.session.world (world_after s commands) c.requires.source c.in_ok-replayed.ensures.world
    (c.replays_keep_origins.ensures.nodes s commands c.valid.ensures c.requires.directed)

pub output-written-requires-clause-edges : goal.output-written-requires-clause-edges
output-written-requires-clause-edges g c =
    let s = c.args.scene in
    let commands = c.args.commands.now in
    so_of AreEdgesOf (scene_of (tree c.args.doc.now)) s c.in_ok-replayed.replayed.session.world (world_after s commands) c.requires.source c.in_ok-replayed.ensures.world
    (c.replays_keep_origins.ensures.edges s commands c.valid.ensures c.requires.directed)

pub returns : goal.returns
returns g c =
    let t = tree c.args.doc.now in
    let count = c.args.options.count in
    let opening = c.in_ok-replayed.replayed.opening in
    let replies = c.in_ok-replayed.replayed.replies.items in
    let w = c.in_ok-replayed.replayed.session.world in
    let answers = c.in_ok-replayed.replayed.session.book in
    made t c.args.scene c.args.commands.now count replies w answers opening c.into_tally-tally.result c.in_ok-text.text.items c.status_of-status.result c.hint_of-hint.result c.hinted.result
    c.in_ok-replayed.ensures.world
    c.in_ok-replayed.ensures.replies
    c.in_ok-replayed.ensures.opening
    (subst (λ (rs : List LineReply). IsOutput t c.args.scene count opening rs w answers c.in_ok-text.text.items) c.deref.ensures.value
    (of_ok (λ was. IsOutput t was count opening c.deref.result.now w answers c.in_ok-text.text.items) (scene_of t) c.args.scene c.requires.source
    (of_ok (λ text. IfOk (scene_of t) (λ was. IsOutput t was count opening c.deref.result.now w answers text.items)) c.output-written.result c.in_ok-text.text c.in_ok-text.was c.output-written.ensures)))
    (c.status_of-status.ensures ∙ ap (λ rs. script_status (has_refusal rs w)) c.deref-2.ensures.value)
    (c.into_tally-tally.ensures ∙ c.in_ok-replayed.ensures.searched)
    c.hint_of-hint.ensures
    (c.hinted.ensures ∙ ap (λ o. hinted o c.hint_of-hint.result) c.counted.ensures)
