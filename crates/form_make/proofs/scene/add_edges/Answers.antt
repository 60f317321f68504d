-- One more generated edge, from two draws.
use Rattle.std.proofs.Common.{rules, ◌<◌, ◌+◌, length, sym, ap, arith, ◌∙◌, w64, to_z, of_z}
use Rattle.std.specs.Prelude.{pos}
use mir.Val.{SFits}
use Rattle.scene_model.specs.declared.edit.Edit.TheVariants.{AddEdge}
use Rattle.scene_model.specs.Scene.{Scene, empty_scene}
use Rattle.form_make.specs.Draws.{first}
use Rattle.form_make.specs.Made.{made_edge, made_node}
use Rattle.form_make.proofs.DrawLemmas.{first-zero, length-first, state_after-zero}
use Rattle.form_make.proofs.Unrefused.{edge_unrefused}
use Rattle.form_make.proofs.Steps.{edge_added, edit_after, kept, only_memory, two_draws}
use Rattle.form_make.proofs.scene.add_edges.Goals as goal

pub loop-place-init : goal.loop-place-init
loop-place-init c =
    let start = c.args.draws.now.state in
    let s : Scene = c.args.scene.now in
    let base : Scene = record empty_scene { nodes = first 36 (made_node c.requires.0) } in
    record {
      scene = c.requires.1 ∙ ap (λ es. record base { edges = es }) (sym (first-zero (made_edge start)))
          ∙ ap (λ (b : Scene). record b { edges = first 0 (made_edge start); next_edge = 1 }) (sym c.requires.1);
      draws = sym (state_after-zero start);
    }

pub done-requires : goal.done-requires
done-requires c =
    let k = c.loop-place._place in
    let start = c.args.draws.now.state in
    let i-fits : SFits w64 c.node_id.result = search rules in
    let j-fits : SFits w64 c.node_id-in-loop-place.result = search rules in
    let i = to_z w64 (of_z w64 c.node_id.result) in
    let j = to_z w64 (of_z w64 c.node_id-in-loop-place.result) in
    let few : length (first k (made_edge start)) < 512 = omega (arith, length-first k (made_edge start)) in
    only_memory (AddEdge i j 0 0) c.loop-place.scene c.add_edge.new.self c.add_edge.result
    (edge_unrefused c.requires.0 c.below-from.result c.other_place-to.result (k + 1) (first k (made_edge start)) i j
    c.below-from.ensures.low c.other_place-to.ensures.low c.other_place-to.ensures.other few (omega arith)
    (kept c.node_id.result (pos (c.below-from.result + 1)) i-fits c.node_id.ensures)
    (kept c.node_id-in-loop-place.result (pos (c.other_place-to.result + 1)) j-fits c.node_id-in-loop-place.ensures)
    c.loop-place.scene
    (c.loop-place.invariant.scene ∙ ap (λ (b : Scene). record b { edges = first k (made_edge start); next_edge = k + 1 }) c.requires.1))
    c.add_edge.ensures

pub loop-place-preserved : goal.loop-place-preserved
loop-place-preserved c =
    let k = c.loop-place._place in
    let start = c.args.draws.now.state in
    let i-fits : SFits w64 c.node_id.result = search rules in
    let j-fits : SFits w64 c.node_id-in-loop-place.result = search rules in
    let i = to_z w64 (of_z w64 c.node_id.result) in
    let j = to_z w64 (of_z w64 c.node_id-in-loop-place.result) in
    let two = two_draws start k c.loop-place.draws.state c.below-from.new.self.state c.below.new.self.state c.below-from.result c.below.result
    c.loop-place.invariant.draws c.below-from.ensures.state c.below.ensures.state c.below-from.ensures.drawn c.below.ensures.drawn in
    record {
      scene = edit_after (AddEdge i j 0 0) c.loop-place.scene c.add_edge.new.self c.add_edge.result c.in_ok-done.ensures c.add_edge.ensures
          ∙ edge_added start k i j c.below-from.result c.below.result c.other_place-to.result c.below.new.self.state two c.other_place-to.ensures.place
          (kept c.node_id.result (pos (c.below-from.result + 1)) i-fits c.node_id.ensures)
          (kept c.node_id-in-loop-place.result (pos (c.other_place-to.result + 1)) j-fits c.node_id-in-loop-place.ensures)
          c.args.scene.now c.loop-place.scene c.loop-place.invariant.scene;
      draws = two.end;
    }
