-- An edge that is read may be loaded, and its checkpoints are counted.
use Rattle.std.proofs.Common.{◌≡◌, [], ◌∷◌, length, ap, sym, ◌∙◌, arith, length-append}
use Rattle.gml_text.specs.View.{pairs}
use Rattle.scene_model.specs.Scene.{Scene, pin_count, via_count}
use Rattle.scene_model.specs.Loads.{with_edge}
use Rattle.diagram_read.specs.Values.{ListEntry}
use Rattle.diagram_read.specs.Edges.{edge_in}
use Rattle.diagram_read.proofs.Counts.{via_counted}
use Rattle.diagram_read.proofs.EdgesRead.{IsRoomyEdge, edge_roomy}
use Rattle.diagram_read.proofs.Steps.{ok_holds}
use Rattle.diagram_read.proofs.scene.Reader.load_edge.Goals as goal

pub load_edge-requires : goal.load_edge-requires
load_edge-requires c =
    let r = c.args.self.now in
    let s = r.scene in
    let few = r.few_via in
    let counted = r.via_counted in
    let entry : ListEntry = (c.args.origin, pairs c.args.list.now) in
    let roomy = ok_holds (edge_in s entry) c.in_ok-edge.edge (IsRoomyEdge s) c.in_ok-edge.ensures (edge_roomy s entry r.numbered (omega (arith, few, counted))) in
    roomy.loadable

pub invariant_of-self : goal.invariant_of-self
invariant_of-self c =
    let r = c.args.self.now in
    let s = r.scene in
    let edge = c.in_ok-edge.edge in
    let entry : ListEntry = (c.args.origin, pairs c.args.list.now) in
    let few = r.few_via in
    let counted = r.via_counted in
    let roomy = ok_holds (edge_in s entry) edge (IsRoomyEdge s) c.in_ok-edge.ensures (edge_roomy s entry r.numbered (omega (arith, few, counted))) in
    let room = roomy.few in
    let number = roomy.number in
    let new : c.load_edge.new.self ≡ with_edge edge s = c.in-Ok.ensures.1 in
    let via = ap length c.as_slice-via.ensures in
    let l = length-append s.edges (edge ∷ []) in
    record {
      nodes_counted = r.nodes_counted ∙ sym (ap (λ (t : Scene). length t.nodes) new);
      pins_counted = r.pins_counted ∙ sym (ap pin_count new);
      edges_counted = (let e = ap (λ (t : Scene). length t.edges) new in let n = r.edges_counted in omega (arith, e, l, n));
      via_counted = (let e = ap via_count new in let v = via_counted edge s in omega (arith, e, v, via, counted));
      few_pins = r.few_pins;
      few_via = omega (arith, via, room, counted);
      numbered = (let e = ap (λ (t : Scene). length t.edges) new in let m = ap (λ (t : Scene). t.next_edge) new in omega (arith, e, m, l, number));
    }
