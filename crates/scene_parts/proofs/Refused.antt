-- The refusal of an edit, once its first tests have passed.
use Rattle.std.proofs.Common.{◌≡◌, ℕ, ◌-◌, false, None, Some, Option, [], ◌∷◌, length, refl}
use Rattle.std.specs.Prelude.{ℤ, slice_get}
use Rattle.scene_model.specs.declared.node.Node.{Node}
use Rattle.scene_model.specs.declared.pin.Pin.{Pin}
use Rattle.scene_model.specs.declared.fault.SceneFault.{SceneFault}
use Rattle.scene_model.specs.declared.edit.Edit.TheVariants.{DropPin}
use Rattle.scene_model.specs.Scene.{Scene, node_with}
use Rattle.scene_model.specs.Edits.{first_some, refusal, is_no_place, in_use}

alone : (o : Option SceneFault) → o ≡ first_some (o ∷ [])
alone None = refl
alone (Some f) = refl

-- of a pin that is there, whether it is in use
pub dropped : (s : Scene) (id : ℤ) (place : ℕ) (n : Node) (p : Pin) → node_with s id ≡ Some n → is_no_place (length n.pins) place ≡ false → slice_get n.pins (place - 1) ≡ Some p
    → in_use s n place p ≡ refusal (DropPin id place) s
dropped s id place n p known within at = rw (known, within, at) (alone (in_use s n place p))
