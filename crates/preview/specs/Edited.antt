-- The result of edits in a row. No public clause cites this module.
use Rattle.std.specs.Prelude.{◌≡◌, List, None, Some}
use Rattle.scene_model.specs.declared.edit.Edit.{Edit}
use Rattle.scene_model.specs.Scene.{Scene}
use Rattle.scene_model.specs.Inverses.{redone}
use Rattle.preview.specs.declared.answer.Edited.{Edited}
use Rattle.preview.specs.declared.answer.Edited.TheVariants.{Done, Refused}
use Rattle.preview.specs.Previews.{first_refused}

-- the edits lead from the scene to this one, or this is the first that is refused
abbrev pub ComesTo : List Edit → Scene → Edited → Type 0
ComesTo edits s (Done after) = (first_refused 1 edits s ≡ None) × (after ≡ redone edits s)
ComesTo edits s (Refused place fault) = first_refused 1 edits s ≡ Some (place, fault)
