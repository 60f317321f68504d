-- The checkpoints so far are those of the connectors so far, after the other points.
use Rattle.std.specs.Prelude.{◌≡◌, ◌++◌, not, take, filter}
use Rattle.std.specs.List.{flat_map}
use Rattle.scene_model.specs.Scene.{is_loop}
use Rattle.scene_store.proofs.routing.push_checkpoints.Given as goal

abbrev pub invariant-loop-edge : goal.invariant-loop-edge
invariant-loop-edge l = l.points.items ≡ l.initial.points.items ++ flat_map (λ e. e.via) (filter (λ e. not (is_loop e)) (take l.edge-index l.edge-items))
