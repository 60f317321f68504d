-- A node that is read may be loaded, and its pins are counted.
use Rattle.std.proofs.Common.{◌≡◌, suc, [], ◌∷◌, length, ap, sym, ◌∙◌, arith, length-append}
use Rattle.gml_text.specs.View.{pairs}
use Rattle.scene_model.specs.Scene.{Scene, pin_count, via_count}
use Rattle.scene_model.specs.Loads.{with_node}
use Rattle.diagram_read.specs.Values.{ListEntry}
use Rattle.diagram_read.specs.Nodes.{node_in}
use Rattle.diagram_read.proofs.Counts.{pins_counted}
use Rattle.diagram_read.proofs.NodesRead.{IsRoomy, node_roomy}
use Rattle.diagram_read.proofs.Steps.{ok_holds}
use Rattle.diagram_read.proofs.scene.Reader.load_node.Goals as goal

pub load_node-requires : goal.load_node-requires
load_node-requires c =
    let s = c.args.self.now.scene in
    let few = c.args.self.now.few_pins in
    let counted = c.args.self.now.pins_counted in
    let roomy = ok_holds (node_in s (c.args.origin, pairs c.args.list.now)) c.in_ok-node.node (IsRoomy (pin_count s)) c.in_ok-node.ensures (node_roomy s (c.args.origin, pairs c.args.list.now) (omega (arith, few, counted))) in
    roomy.loadable

pub invariant_of-self : goal.invariant_of-self
invariant_of-self c =
    let r = c.args.self.now in
    let s = r.scene in
    let node = c.in_ok-node.node in
    let entry : ListEntry = (c.args.origin, pairs c.args.list.now) in
    let few = r.few_pins in
    let counted = r.pins_counted in
    let roomy = ok_holds (node_in s entry) node (IsRoomy (pin_count s)) c.in_ok-node.ensures (node_roomy s entry (omega (arith, few, counted))) in
    let room = roomy.few in
    let new : c.load_node.new.self ≡ with_node node s = c.in-Ok.ensures.1 in
    let pins = ap length c.as_slice-pins.ensures in
    record {
      nodes_counted = (let e = ap (λ (t : Scene). length t.nodes) new in let l = length-append s.nodes (node ∷ []) in let n = r.nodes_counted in omega (arith, e, l, n));
      pins_counted = (let e = ap pin_count new in let l = pins_counted node s in omega (arith, e, l, pins, counted));
      edges_counted = r.edges_counted ∙ sym (ap (λ (t : Scene). length t.edges) new);
      via_counted = r.via_counted ∙ sym (ap via_count new);
      few_pins = omega (arith, pins, room, counted);
      few_via = r.few_via;
      numbered = ap (λ (t : Scene). t.next_edge) new ∙ r.numbered ∙ sym (ap (λ (t : Scene). suc (length t.edges)) new);
    }
