-- One element on.
use Rattle.std.proofs.Common.{◌++◌, refl, ap, ◌∙◌}
use Rattle.std.specs.List.{flat_map}
use Rattle.scene_model.specs.Valid.{IsNode}
use Rattle.gml_scene.proofs.Places.{held_here}
use Rattle.scene_store.proofs.Items.{item_at}
use Rattle.report_text.proofs.Lists.{one_pushed}
use Rattle.live_replies.specs.Scene.{box_lines}
use Rattle.live_replies.proofs.scene.push_boxes.Goals as goal

pub push_box-requires : goal.push_box-requires
push_box-requires c =
    let nodes = c.args.nodes.now in
    held_here IsNode nodes c.loop-node.node-index c.node-item.result c.requires (item_at nodes nodes c.loop-node.node-index c.node-item.result refl c.loop-node-test.true c.node-item.is)

pub loop-node-preserved : goal.loop-node-preserved
loop-node-preserved c =
    one_pushed box_lines (c.args.out.now.items ++ flat_map box_lines c.args.nodes.now) c.loop-node.out.items c.push_box.new.out.items c.args.nodes.now c.loop-node.node-index c.node-item.result
    c.loop-node-test.true c.loop-node.invariant (c.in_ok-push_box.ensures ∙ ap (λ n. c.loop-node.out.items ++ box_lines n) c.node-item.is)
