-- An edit that is not refused keeps the scene valid.
use Rattle.std.proofs.Common.{◌≡◌, Result, Ok, Err, None, sym, ap, subst, ◌∙◌}
use Rattle.std.specs.Prelude.{OnOk, OnErr}
use Rattle.scene_model.specs.declared.edit.Edit.{Edit}
use Rattle.scene_model.specs.Edits.{IsDirected, changed, refusal}
use Rattle.scene_model.specs.Scene.{Scene}
use Rattle.scene_model.specs.Valid.{IsValid}
use Rattle.scene_model.proofs.Editing.Validity.{keeps_valid}
use Rattle.scene_store.proofs.scene.Scene.change.Goals as goal

stays_valid : {T E : Type 0} (edit : Edit) (old new : Scene) (r : Result T E) → IsDirected edit → IsValid old → refusal edit old ≡ None
    → OnOk r (new ≡ changed edit old) → OnErr r (new ≡ old) → IsValid new
stays_valid edit old new (Ok x) directed valid free ok err = subst IsValid (sym ok) (keeps_valid edit old directed valid free)
stays_valid edit old new (Err e) directed valid free ok err = subst IsValid (sym err) valid

pub invariant_of-self : goal.invariant_of-self
invariant_of-self c = stays_valid c.args.edit.now c.self.inside.parts c.change.new.self c.change.result c.requires.directed c.self.invariant (ap (refusal c.args.edit.now) c.self.view_is ∙ c.requires.free) c.change.ensures.ok c.change.ensures.err
