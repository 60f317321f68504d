-- What stops one part stops the whole.
use Rattle.gml_text.specs.View.{tree}
use Rattle.diagram_read.specs.Scene.{scene_of}
use Rattle.reroute_app.specs.Diagram.{TakesDiagram, TakesScene}
use Rattle.reroute_app.specs.View.{never, never_two}
use Rattle.reroute_app.proofs.Stops.{stops_as, stop_on, no_scene_ends}
use Rattle.reroute_app.proofs.read.diagram_of.Goals as goal

pub returns-in_err-doc-clause-stopped : goal.returns-in_err-doc-clause-stopped
returns-in_err-doc-clause-stopped c = λ notes.
    stop_on (TakesDiagram never_two c.args.bytes.now notes notes) c.in_err-doc.field-0.0 c.from_residual.result (c.in_err-doc.ensures.stopped notes) c.from_residual.ensures.1

pub returns-in_err-scene-clause-stopped : goal.returns-in_err-scene-clause-stopped
returns-in_err-scene-clause-stopped c = λ notes.
    let t = tree c.in_ok-doc.doc in
    stop_on (TakesDiagram never_two c.args.bytes.now notes notes) c.in_err-scene.field-0.0 c.from_residual-in_err-scene.result
    (stops_as (TakesScene never (scene_of t) notes notes) (TakesDiagram never_two c.args.bytes.now notes notes) (λ o is. no_scene_ends c.args.bytes.now t notes o c.in_ok-doc.ensures.ok is) c.in_err-scene.field-0.0 (c.in_err-scene.ensures.stopped notes))
    c.from_residual-in_err-scene.ensures.1
