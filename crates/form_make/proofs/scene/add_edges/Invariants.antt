-- The generated edges so far are there, from two draws each.
use Rattle.std.proofs.Common.{◌≡◌, ◌+◌, ◌*◌}
use Rattle.form_make.specs.Draws.{first, state_after}
use Rattle.form_make.specs.Made.{made_edge}
use Rattle.form_make.proofs.scene.add_edges.Given as goal

abbrev pub invariant-loop-place : goal.invariant-loop-place
invariant-loop-place l = record {
  scene : l.scene ≡ record l.fn.scene { edges = first l._place (made_edge l.fn.draws.state); next_edge = l._place + 1 };
  draws : l.draws.state ≡ state_after l.fn.draws.state (2 * l._place);
}
