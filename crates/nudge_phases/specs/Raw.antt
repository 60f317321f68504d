-- The raw routes of a scene's answers.
use Rattle.std.specs.Prelude.{◌≡◌, ℕ, List, [], ◌∷◌, ◌++◌, Option, Some, None, slice_get}
use Rattle.std.specs.List.{AllZip}
use Rattle.segment_order.specs.Run.{runs_along}
use Rattle.walk_model.specs.declared.route.Answer.{Answer}
use Rattle.walk_model.specs.declared.route.Route.{Route}
use Rattle.walk_model.specs.declared.task.Choice.{Choice}
use Rattle.scene_model.specs.declared.edge.Edge.{Edge}
use Rattle.scene_model.specs.Scene.{Scene, edge_with}
use Rattle.scene_model.specs.Routing.{task_of}
use Rattle.channel_bundles.specs.declared.route.PhaseRoute.{PhaseRoute}

-- the route, with the number of its edge, if there is one
abbrev pub with_number : ℕ → Option Route → List (ℕ × Route)
with_number number None = []
with_number number (Some route) = (number, route) ∷ []

-- the answers with a route, each as the number of its edge and the route
abbrev pub routed : List Answer → List (ℕ × Route)
routed [] = []
routed (a ∷ answers) = with_number a.edge a.route ++ routed answers

-- the raw route of the edge with the number: the runs of its line, the ports of its choices, and the weight and checkpoints of its edge
pub record IsRawRoute (s : Scene) (number : ℕ) (route : Route) (raw : PhaseRoute) : Type 0 where
  pub edge : Edge
  pub is_edge : edge_with s number ≡ Some edge
  pub start : Choice
  pub is_start : slice_get (task_of s edge).starts route.start ≡ Some start
  pub end : Choice
  pub is_end : slice_get (task_of s edge).ends route.end ≡ Some end
  pub of_edge : raw.edge ≡ number
  pub runs : raw.runs.items ≡ runs_along number 1 route.points
  pub source : raw.anchors.source_port ≡ start.port
  pub target : raw.anchors.target_port ≡ end.port
  pub via : raw.anchors.via.items ≡ edge.via
  pub weight : raw.weight ≡ edge.weight

-- the raw routes of the answers that have a route, in their order
abbrev pub AreRawRoutes : Scene → List Answer → List PhaseRoute → Type 0
AreRawRoutes s answers raw = AllZip (λ p r. IsRawRoute s p.0 p.1 r) (routed answers) raw
