-- The connectors of a scene that have no route.
use Rattle.std.specs.Prelude.{◌≡◌, IfSome, List, All, filter, is_none, map}
use Rattle.walk_model.specs.declared.route.Answer.{Answer}
use Rattle.scene_model.specs.Scene.{Scene, edge_with}
use Rattle.scene_model.specs.Routing.{solids, task_of}
use Rattle.route_causes.specs.Causes.{IsCause}
use Rattle.route_causes.specs.declared.list.Unrouted.{Unrouted}

-- the cause is that of the connector's task among the solids of the scene
abbrev pub HasCause : Scene → Unrouted → Type 0
HasCause s u = IfSome (edge_with s u.edge) (λ e. IsCause (solids s) (task_of s e) u.cause)

-- these are the connectors that have no route by the answers, in order, each with its cause
pub record AreUnrouted (s : Scene) (answers : List Answer) (found : List Unrouted) : Type 0 where
  pub edges : map (λ u. u.edge) found ≡ map (λ a. a.edge) (filter (λ a. is_none a.route) answers)
  pub causes : All (HasCause s) found
