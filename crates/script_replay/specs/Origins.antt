-- The scenes of a replay come from the diagram that it began with.
use Rattle.std.specs.Prelude.{ℕ, List}
use Rattle.scene_model.specs.declared.edit.Command.{Command}
use Rattle.scene_model.specs.Scene.{Scene}
use Rattle.scene_model.specs.Valid.{IsValid}
use Rattle.session_model.specs.Calls.{AreDirected}
use Rattle.gml_scene.specs.Origins.{AreNodesOf, AreEdgesOf}
use Rattle.script_replay.specs.Replies.{world_after}

-- the law: each node and each edge of the present scene with an origin is one of the scene at the beginning
pub record ReplaysKeepOrigins : Type 0 where
  pub nodes : (s : Scene) (commands : List (ℕ × Command)) → IsValid s → AreDirected commands → AreNodesOf s (world_after s commands).present
  pub edges : (s : Scene) (commands : List (ℕ × Command)) → IsValid s → AreDirected commands → AreEdgesOf s (world_after s commands).present
