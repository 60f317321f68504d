-- A refusal is answered as it is.
use Rattle.std.proofs.Common.{sym, refl}
use Rattle.scene_model.specs.Edits.{refusal, changed}
use Rattle.scene_store.proofs.Memory.{calm_edit, refused}
use Rattle.scene_store.proofs.scene.Scene.edit.Goals as goal

pub returns-in-Some : goal.returns-in-Some
returns-in-Some c =
    refused (refusal c.args.edit.now c.args.self.now) (changed c.args.edit.now c.args.self.now) c.args.self.now c.args.self.now c.in-Some.fault
    (calm_edit c.args.edit.now c.args.self.now) (sym c.in-Some.ensures) refl
