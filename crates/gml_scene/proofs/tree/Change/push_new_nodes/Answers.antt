-- One more new node is written, and what is left follows.
use Rattle.std.specs.Prelude.{is_none}
use Rattle.gml_text.specs.View.{pairs}
use Rattle.scene_model.specs.declared.node.Node.{Node}
use Rattle.scene_model.specs.Valid.{IsNode}
use Rattle.scene_store.proofs.Items.{item_at}
use Rattle.gml_scene.specs.Forms.{node_pair}
use Rattle.gml_scene.specs.Labels.{given_label}
use Rattle.gml_scene.proofs.Places.{held_here}
use Rattle.gml_scene.proofs.Walks.{passed_more, passed_all}
use Rattle.gml_scene.proofs.tree.Change.push_new_nodes.Goals as goal

pub push_new_node-requires : goal.push_new_node-requires
push_new_node-requires c =
    let ns = c.args.self.now.scene.now.nodes in
    let read = c.nodes-node-items in
    held_here IsNode ns c.loop-node.node-index c.node-item.result read.ensures.valid.nodes
    (item_at read.result.now ns c.loop-node.node-index c.node-item.result read.ensures.value c.loop-node-test.true c.node-item.is)

pub loop-node-preserved : goal.loop-node-preserved
loop-node-preserved c =
    let ns = c.args.self.now.scene.now.nodes in
    let read = c.nodes-node-items in
    passed_more (λ (n : Node). node_pair (given_label c.args.self.now.labels.now.nodes n.id) n) (λ (x : Node). is_none x.origin) ns c.loop-node.node-index c.node-item.result _ (pairs c.loop-node.out.items) (pairs c.push_new_node.new.out.items)
    c.loop-node.invariant (item_at read.result.now ns c.loop-node.node-index c.node-item.result read.ensures.value c.loop-node-test.true c.node-item.is)
    c.in_ok-push_new_node.ensures

pub returns : goal.returns
returns c =
    let read = c.nodes-node-items in
    passed_all (λ (n : Node). node_pair (given_label c.args.self.now.labels.now.nodes n.id) n) (λ (x : Node). is_none x.origin) read.result.now c.args.self.now.scene.now.nodes c.loop-node.node-index _ (pairs c.loop-node.out.items)
    c.loop-node.invariant read.ensures.value c.loop-node-test.false
