-- What is reported so far, and the elements that are left, give the whole.
use Rattle.std.proofs.Common.{◌≡◌, ◌++◌, drop}
use Rattle.std.specs.List.{flat_map}
use Rattle.live_replies.specs.Scene.{connector_lines}
use Rattle.live_replies.proofs.scene.push_edges.Given as goal

abbrev pub invariant-loop-edge : goal.invariant-loop-edge
invariant-loop-edge l = l.out.items ++ flat_map (connector_lines l.drawing.session.book) (drop l.edge-index l.edges) ≡ l.fn.out.items ++ flat_map (connector_lines l.drawing.session.book) l.edges
