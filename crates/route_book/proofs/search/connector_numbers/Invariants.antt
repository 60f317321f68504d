-- The numbers so far are those of the connectors so far.
use Rattle.std.proofs.Common.{◌≡◌, take, map, filter, not}
use Rattle.scene_model.specs.Scene.{is_loop}
use Rattle.route_book.proofs.search.connector_numbers.Given as goal

abbrev pub invariant-loop-edge : goal.invariant-loop-edge
invariant-loop-edge l = l.numbers.items ≡ map (λ e. e.number) (filter (λ e. not (is_loop e)) (take l.edge-index l.scene.edges))
