-- One more generated node, from four draws.
use Rattle.std.proofs.Common.{rules, ◌+◌, ◌/◌, ◌%◌, sym, ap, arith, ◌∙◌, w64, to_z, of_z}
use Rattle.std.specs.Prelude.{pos}
use mir.Val.{SFits}
use Rattle.scene_model.specs.declared.edit.Edit.TheVariants.{AddNode}
use Rattle.scene_model.specs.Scene.{empty_scene}
use Rattle.form_make.specs.Made.{made_coordinate, made_node, made_size}
use Rattle.form_make.proofs.DrawLemmas.{first-zero, state_after-zero}
use Rattle.form_make.proofs.Unrefused.{node_unrefused}
use Rattle.form_make.proofs.Steps.{edit_after, four_draws, kept, node_added, only_memory}
use Rattle.form_make.proofs.scene.add_nodes.Goals as goal

pub loop-place-init : goal.loop-place-init
loop-place-init c = record {
  scene = c.requires ∙ ap (λ ns. record empty_scene { nodes = ns }) (sym (first-zero (made_node c.args.draws.now.state)));
  draws = sym (state_after-zero c.args.draws.now.state);
}

pub done-requires : goal.done-requires
done-requires c =
    let k = c.loop-place.place in
    let i-fits : SFits w64 c.node_id.result = search rules in
    let x-fits : SFits w64 c.coordinate-x.result = search rules in
    let y-fits : SFits w64 c.coordinate-y.result = search rules in
    let w-fits : SFits w64 c.size-w.result = search rules in
    let h-fits : SFits w64 c.size-h.result = search rules in
    let i = to_z w64 (of_z w64 c.node_id.result) in
    let x = to_z w64 (of_z w64 c.coordinate-x.result) in
    let y = to_z w64 (of_z w64 c.coordinate-y.result) in
    let w = to_z w64 (of_z w64 c.size-w.result) in
    let h = to_z w64 (of_z w64 c.size-h.result) in
    only_memory (AddNode i x y w h) c.loop-place.scene c.add_node.new.self c.add_node.result
    (node_unrefused c.args.draws.now.state k i x y w h c.below.result c.below-in-loop-place.result c.below-in-loop-place-2.result c.below-in-loop-place-3.result
    (omega arith) c.below.ensures.low c.below-in-loop-place.ensures.low c.below-in-loop-place-2.ensures.low c.below-in-loop-place-3.ensures.low
    (kept c.node_id.result (pos (k + 1)) i-fits c.node_id.ensures)
    (kept c.coordinate-x.result (made_coordinate (k % 6) c.below.result) x-fits c.coordinate-x.ensures)
    (kept c.coordinate-y.result (made_coordinate (k / 6) c.below-in-loop-place.result) y-fits c.coordinate-y.ensures)
    (kept c.size-w.result (made_size c.below-in-loop-place-2.result) w-fits c.size-w.ensures)
    (kept c.size-h.result (made_size c.below-in-loop-place-3.result) h-fits c.size-h.ensures)
    c.loop-place.scene c.loop-place.invariant.scene)
    c.add_node.ensures

pub loop-place-preserved : goal.loop-place-preserved
loop-place-preserved c =
    let k = c.loop-place.place in
    let seed = c.args.draws.now.state in
    let i-fits : SFits w64 c.node_id.result = search rules in
    let x-fits : SFits w64 c.coordinate-x.result = search rules in
    let y-fits : SFits w64 c.coordinate-y.result = search rules in
    let w-fits : SFits w64 c.size-w.result = search rules in
    let h-fits : SFits w64 c.size-h.result = search rules in
    let i = to_z w64 (of_z w64 c.node_id.result) in
    let x = to_z w64 (of_z w64 c.coordinate-x.result) in
    let y = to_z w64 (of_z w64 c.coordinate-y.result) in
    let w = to_z w64 (of_z w64 c.size-w.result) in
    let h = to_z w64 (of_z w64 c.size-h.result) in
    let four = four_draws seed k c.loop-place.draws.state c.below.new.self.state c.below-in-loop-place.new.self.state c.below-in-loop-place-2.new.self.state c.below-in-loop-place-3.new.self.state
    c.below.result c.below-in-loop-place.result c.below-in-loop-place-2.result c.below-in-loop-place-3.result
    c.loop-place.invariant.draws c.below.ensures.state c.below-in-loop-place.ensures.state c.below-in-loop-place-2.ensures.state c.below-in-loop-place-3.ensures.state
    c.below.ensures.drawn c.below-in-loop-place.ensures.drawn c.below-in-loop-place-2.ensures.drawn c.below-in-loop-place-3.ensures.drawn in
    record {
      scene = edit_after (AddNode i x y w h) c.loop-place.scene c.add_node.new.self c.add_node.result c.in_ok-done.ensures c.add_node.ensures
          ∙ node_added seed k i x y w h c.below.result c.below-in-loop-place.result c.below-in-loop-place-2.result c.below-in-loop-place-3.result c.below-in-loop-place-3.new.self.state four
          (kept c.node_id.result (pos (k + 1)) i-fits c.node_id.ensures)
          (kept c.coordinate-x.result (made_coordinate (k % 6) c.below.result) x-fits c.coordinate-x.ensures)
          (kept c.coordinate-y.result (made_coordinate (k / 6) c.below-in-loop-place.result) y-fits c.coordinate-y.ensures)
          (kept c.size-w.result (made_size c.below-in-loop-place-2.result) w-fits c.size-w.ensures)
          (kept c.size-h.result (made_size c.below-in-loop-place-3.result) h-fits c.size-h.ensures)
          c.loop-place.scene c.loop-place.invariant.scene;
      draws = four.end;
    }
