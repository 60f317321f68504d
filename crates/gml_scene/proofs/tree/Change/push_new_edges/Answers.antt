-- One more new edge is written, and what is left follows.
use Rattle.std.specs.Prelude.{is_none, pos}
use Rattle.gml_text.specs.View.{pairs}
use Rattle.scene_model.specs.declared.edge.Edge.{Edge}
use Rattle.scene_store.proofs.Items.{item_at}
use Rattle.gml_scene.specs.Forms.{edge_pair}
use Rattle.gml_scene.specs.Labels.{given_label}
use Rattle.gml_scene.specs.Tree.{line_for}
use Rattle.gml_scene.proofs.Walks.{passed_more, passed_all}
use Rattle.gml_scene.proofs.tree.Change.push_new_edges.Goals as goal

pub loop-edge-preserved : goal.loop-edge-preserved
loop-edge-preserved c =
    let es = c.args.self.now.scene.now.edges in
    let read = c.edges-edge-items in
    passed_more (λ (e : Edge). edge_pair (given_label c.args.self.now.labels.now.edges (pos e.number)) (line_for c.args.self.now.routes.now e.number) e) (λ (x : Edge). is_none x.origin) es c.loop-edge.edge-index c.edge-item.result
    _ (pairs c.loop-edge.out.items) (pairs c.push_new_edge.new.out.items)
    c.loop-edge.invariant (item_at read.result.now es c.loop-edge.edge-index c.edge-item.result read.ensures.value c.loop-edge-test.true c.edge-item.is)
    c.in_ok-push_new_edge.ensures

pub returns : goal.returns
returns c =
    let read = c.edges-edge-items in
    passed_all (λ (e : Edge). edge_pair (given_label c.args.self.now.labels.now.edges (pos e.number)) (line_for c.args.self.now.routes.now e.number) e) (λ (x : Edge). is_none x.origin) read.result.now c.args.self.now.scene.now.edges
    c.loop-edge.edge-index _ (pairs c.loop-edge.out.items)
    c.loop-edge.invariant read.ensures.value c.loop-edge-test.false
