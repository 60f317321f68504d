-- The scenes of a replay come from the diagram that it began with.
use Rattle.std.proofs.Common.{ℕ, List, [], ◌∷◌, map}
use Rattle.std.specs.List.{AllByRecursion as Each}
use Rattle.scene_model.specs.declared.edit.Command.{Command}
use Rattle.scene_model.specs.Scene.{Scene}
use Rattle.scene_model.specs.World.{EditsKeep, IsDirectedCommand, opened}
use Rattle.session_model.specs.Calls.{AreDirected}
use Rattle.scene_model.proofs.Editing.Worlds.{played_keeps}
use Rattle.gml_scene.specs.Origins.{AreNodesOf, AreEdgesOf}
use Rattle.gml_scene.proofs.OriginsKept.{own_scenes_fit, edits_keep_origins}
use Rattle.script_replay.specs.Replies.{world_after}
use Rattle.script_replay.specs.Origins.{ReplaysKeepOrigins}

directed : (cs : List (ℕ × Command)) → AreDirected cs → Each IsDirectedCommand (map (λ c. c.1) cs)
directed [] d = tt
directed (c ∷ cs) d = (d.0, directed cs d.1)

-- what holds at the beginning and is kept by edits holds at the end
kept : (P : Scene → Type 0) (s : Scene) (cs : List (ℕ × Command)) → EditsKeep P → AreDirected cs → P s → P (world_after s cs).present
kept P s cs keeps d here = (played_keeps P keeps (map (λ c. c.1) cs) (opened s) (directed cs d) (record { past = tt; present = here; future = tt; working = tt })).present

pub replays_keep_origins : ReplaysKeepOrigins
replays_keep_origins = record {
  nodes = λ s cs valid d. kept (AreNodesOf s) s cs (λ e t is_directed are free. edits_keep_origins.nodes s t e are) d (own_scenes_fit.nodes s valid);
  edges = λ s cs valid d. kept (AreEdgesOf s) s cs (λ e t is_directed are free. edits_keep_origins.edges s t e are) d (own_scenes_fit.edges s valid);
}
