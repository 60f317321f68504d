-- Scenes that come from a diagram, and routes of a scene.
use Rattle.std.specs.Prelude.{◌≡◌, ◌≢◌, ◌<◌, List, All, AllPairs, IsSome, IsSomeAnd}
use Rattle.walk_model.specs.declared.route.WrittenRoute.{WrittenRoute}
use Rattle.scene_model.specs.declared.node.Node.{Node}
use Rattle.scene_model.specs.declared.edge.Edge.{Edge}
use Rattle.scene_model.specs.declared.edit.Edit.{Edit}
use Rattle.scene_model.specs.Scene.{Scene, node_with, edge_with}
use Rattle.scene_model.specs.Valid.{IsValid}
use Rattle.scene_model.specs.Edits.{changed}

-- a node of the diagram: the scene that was read has the node's id at the same origin
abbrev pub IsNodeOf : Scene → Node → Type 0
IsNodeOf was n = IsSome n.origin → IsSomeAnd (node_with was n.id) (λ m. m.origin ≡ n.origin)

-- an edge of the diagram: the scene that was read has its number at the same origin, with the same ends
abbrev pub IsEdgeOf : Scene → Edge → Type 0
IsEdgeOf was e = IsSome e.origin → IsSomeAnd (edge_with was e.number) (λ d. (d.origin ≡ e.origin) × (d.from ≡ e.from) × (d.to ≡ e.to))

-- each node and each edge with an origin is one of the diagram
abbrev pub AreNodesOf : Scene → Scene → Type 0
AreNodesOf was s = All (IsNodeOf was) s.nodes

abbrev pub AreEdgesOf : Scene → Scene → Type 0
AreEdgesOf was s = All (IsEdgeOf was) s.edges

-- the routes are of different connectors, in the order of the scene, in which numbers rise
pub record AreRoutesOf (s : Scene) (routes : List WrittenRoute) : Type 0 where
  pub rising : AllPairs (λ q r. q.edge < r.edge) routes
  pub connectors : All (λ r. IsSomeAnd (edge_with s r.edge) (λ e. e.from ≢ e.to)) routes

-- the law: a diagram's own scene has only nodes and edges of the diagram
pub record OwnScenesFit : Type 0 where
  pub nodes : (s : Scene) → IsValid s → AreNodesOf s s
  pub edges : (s : Scene) → IsValid s → AreEdgesOf s s

-- the law: each edit keeps this
pub record EditsKeepOrigins : Type 0 where
  pub nodes : (was s : Scene) (e : Edit) → AreNodesOf was s → AreNodesOf was (changed e s)
  pub edges : (was s : Scene) (e : Edit) → AreEdgesOf was s → AreEdgesOf was (changed e s)
