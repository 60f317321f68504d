-- Each scene of a drawing comes from its document.
use Rattle.std.proofs.Common.{◌≡◌, Result, Ok, Err, sym, ap, subst}
use Rattle.gml_text.specs.Printed.{IsPrintable}
use Rattle.gml_text.specs.Tree.{Pairs}
use Rattle.diagram_read.specs.Scene.{scene_of}
use Rattle.scene_model.specs.declared.edit.Command.{Command}
use Rattle.scene_model.specs.declared.edit.Command.TheVariants.{Bad}
use Rattle.scene_model.specs.declared.fault.SessionFault.{SessionFault}
use Rattle.scene_model.specs.Scene.{Scene}
use Rattle.scene_model.specs.Valid.{IsValid}
use Rattle.scene_model.specs.World.{World, EditsKeep, IsDirectedCommand, rolled_back, next_world, opened, or_rolled_back}
use Rattle.scene_model.proofs.Editing.Worlds.{after_keeps}
use Rattle.gml_scene.proofs.OriginsKept.{edits_keep_origins, own_scenes_fit}
use Rattle.session_model.specs.Calls.{IsCall}
use Rattle.session_model.specs.State.{State}
use Rattle.drawing.specs.Drawing.{ComesFrom, IsSource}

edits_keep : (was : Scene) → EditsKeep (ComesFrom was)
edits_keep was e s directed from free = record { nodes = edits_keep_origins.nodes was s e from.nodes; edges = edits_keep_origins.edges was s e from.edges }

source_after : (d : Pairs) (c : Command) (w : World) → IsDirectedCommand c → IsSource d w → IsSource d (next_world c w)
source_after d c w directed h = record {
  printable = h.printable;
  was = h.was;
  source = h.source;
  scenes = after_keeps (ComesFrom h.was) (edits_keep h.was) c w directed h.scenes;
}

-- the transaction is dropped
pub source_rolled_back : (d : Pairs) (w v : World) → v ≡ rolled_back w → IsSource d w → IsSource d v
source_rolled_back d w v is h = subst (IsSource d) (sym is) (source_after d Bad w tt h)

-- the session is called
pub source_called : (d : Pairs) (c : Command) (answer : Result Unit SessionFault) (old new : State) → IsDirectedCommand c → IsCall c answer old new → IsSource d old.world → IsSource d new.world
source_called d c (Ok done) old new directed call h = subst (IsSource d) (ap (or_rolled_back old.world) call.ok) (source_after d c old.world directed h)
source_called d c (Err fault) old new directed call h = source_rolled_back d old.world new.world call.err h

-- the scene of a document is opened
pub source_opened : (d : Pairs) (s : Scene) (w : World) → w ≡ opened s → scene_of d ≡ Ok s → IsPrintable d → IsValid s → IsSource d w
source_opened d s w is source printable valid = subst (IsSource d) (sym is) (record {
  printable = printable;
  was = s;
  source = source;
  scenes = record { past = tt; present = record { nodes = own_scenes_fit.nodes s valid; edges = own_scenes_fit.edges s valid }; future = tt; working = tt };
})
