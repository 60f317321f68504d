-- What is reported so far, and the elements that are left, give the whole.
use Rattle.std.proofs.Common.{◌≡◌, ◌++◌, drop}
use Rattle.std.specs.List.{flat_map}
use Rattle.live_replies.specs.Scene.{box_lines}
use Rattle.live_replies.proofs.scene.push_boxes.Given as goal

abbrev pub invariant-loop-node : goal.invariant-loop-node
invariant-loop-node l = l.out.items ++ flat_map box_lines (drop l.node-index l.nodes) ≡ l.fn.out.items ++ flat_map box_lines l.nodes
