-- What edits keep holds of each scene of a world.
use Rattle.std.proofs.Common.{◌≡◌, ℕ, zero, suc, List, [], ◌∷◌, take, Option, None, Some, refl}
use Rattle.std.specs.Prelude.{IfSome}
use Rattle.std.specs.List.{AllByRecursion as Each}
use Rattle.scene_model.specs.declared.fault.SceneFault.{SceneFault}
use Rattle.scene_model.specs.declared.edit.Edit.{Edit as SceneEdit}
use Rattle.scene_model.specs.declared.edit.Command.{Command}
use Rattle.scene_model.specs.declared.edit.Command.TheVariants.{Begin, Edit, Commit, Abort, Undo, Redo, Bad}
use Rattle.scene_model.specs.Scene.{Scene}
use Rattle.scene_model.specs.Valid.{IsValid}
use Rattle.scene_model.specs.Edits.{refusal, changed, edited_by, IsDirected}
use Rattle.scene_model.specs.World.{World, rolled_back, edit_working, one_scene_back, one_scene_on, taken, or_rolled_back, next_world, played, Everywhere, IsDirectedCommand, EditsKeep, ScenesStayValid}
use Rattle.scene_model.proofs.Editing.Validity.{keeps_valid}

each_take : {X : Type 0} (P : X → Type 0) (n : ℕ) (xs : List X) → Each P xs → Each P (take n xs)
each_take P zero xs e = tt
each_take P (suc n) [] e = tt
each_take P (suc n) (x ∷ xs) e = (e.0, each_take P n xs e.1)

module _ (P : Scene → Type 0) (keeps : EditsKeep P) where
  quiet : (w : World) → Everywhere P w → Everywhere P (rolled_back w)
  quiet w h = record { past = h.past; present = h.present; future = h.future; working = tt }

  edited_keeps : (w : World) (s : Scene) (e : SceneEdit) (r : Option SceneFault) → refusal e s ≡ r → IsDirected e → P s → Everywhere P w → Everywhere P (or_rolled_back w (edit_working w (edited_by r (changed e s))))
  edited_keeps w s e None free directed p h = record { past = h.past; present = h.present; future = h.future; working = keeps e s directed p free }
  edited_keeps w s e (Some fault) free directed p h = quiet w h

  back_keeps : (w : World) (past : List Scene) → Each P past → Everywhere P w → Everywhere P (or_rolled_back w (one_scene_back w past))
  back_keeps w [] e h = quiet w h
  back_keeps w (s ∷ ss) e h = record { past = e.1; present = e.0; future = (h.present, h.future); working = tt }

  on_keeps : (w : World) (future : List Scene) → Each P future → Everywhere P w → Everywhere P (or_rolled_back w (one_scene_on w future))
  on_keeps w [] e h = quiet w h
  on_keeps w (s ∷ ss) e h = record { past = (h.present, h.past); present = e.0; future = e.1; working = tt }

  taken_keeps : (c : Command) (working : Option Scene) (w : World) → IsDirectedCommand c → IfSome working P → Everywhere P w → Everywhere P (or_rolled_back w (taken c working w))
  taken_keeps Bad working w d p h = quiet w h
  taken_keeps Begin None w d p h = record { past = h.past; present = h.present; future = h.future; working = h.present }
  taken_keeps Begin (Some s) w d p h = quiet w h
  taken_keeps (Edit e) None w d p h = quiet w h
  taken_keeps (Edit e) (Some s) w d p h = edited_keeps w s e (refusal e s) refl d p h
  taken_keeps Commit None w d p h = quiet w h
  taken_keeps Commit (Some s) w d p h = record { past = each_take P 100 (w.present ∷ w.past) (h.present, h.past); present = p; future = tt; working = tt }
  taken_keeps Abort None w d p h = quiet w h
  taken_keeps Abort (Some s) w d p h = quiet w h
  taken_keeps Undo None w d p h = back_keeps w w.past h.past h
  taken_keeps Undo (Some s) w d p h = quiet w h
  taken_keeps Redo None w d p h = on_keeps w w.future h.future h
  taken_keeps Redo (Some s) w d p h = quiet w h

  pub after_keeps : (c : Command) (w : World) → IsDirectedCommand c → Everywhere P w → Everywhere P (next_world c w)
  after_keeps c w d h = taken_keeps c w.working w d h.working h

  -- the same after a list of commands
  pub played_keeps : (cs : List Command) (w : World) → Each IsDirectedCommand cs → Everywhere P w → Everywhere P (played cs w)
  played_keeps [] w d h = h
  played_keeps (c ∷ cs) w d h = played_keeps cs (next_world c w) d.1 (after_keeps c w d.0 h)

-- each scene of a world stays valid
pub stays_valid : ScenesStayValid
stays_valid cs w d h = played_keeps IsValid keeps_valid cs w d h
