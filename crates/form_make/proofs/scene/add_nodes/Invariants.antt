-- The generated nodes so far are there, from four draws each.
use Rattle.std.proofs.Common.{◌≡◌, ◌*◌}
use Rattle.scene_model.specs.Scene.{empty_scene}
use Rattle.form_make.specs.Draws.{first, state_after}
use Rattle.form_make.specs.Made.{made_node}
use Rattle.form_make.proofs.scene.add_nodes.Given as goal

abbrev pub invariant-loop-place : goal.invariant-loop-place
invariant-loop-place l = record {
  scene : l.scene ≡ record empty_scene { nodes = first l.place (made_node l.fn.draws.state) };
  draws : l.draws.state ≡ state_after l.fn.draws.state (4 * l.place);
}
