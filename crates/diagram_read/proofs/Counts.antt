-- How many pins and checkpoints a scene has with one more node or edge.
use Rattle.std.proofs.Common.{◌≡◌, ◌+◌, [], ◌∷◌, length, arith}
use Rattle.std.proofs.lemmas.List.Sums.{sum_by-append}
use Rattle.scene_model.specs.declared.node.Node.{Node}
use Rattle.scene_model.specs.declared.edge.Edge.{Edge}
use Rattle.scene_model.specs.Scene.{Scene, pin_count, via_count}
use Rattle.scene_model.specs.Loads.{with_node, with_edge}

pub pins_counted : (n : Node) (s : Scene) → pin_count (with_node n s) ≡ pin_count s + length n.pins
pins_counted n s = let e = sum_by-append (λ (m : Node). length m.pins) s.nodes (n ∷ []) in omega (arith, e)

pub via_counted : (e : Edge) (s : Scene) → via_count (with_edge e s) ≡ via_count s + length e.via
via_counted e s = let h = sum_by-append (λ (d : Edge). length d.via) s.edges (e ∷ []) in omega (arith, h)
