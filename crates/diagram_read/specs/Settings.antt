-- The settings of a diagram.
use Rattle.std.specs.Prelude.{ℕ, ℤ, List, codes, Option, Some, None, option_map, Result, Ok, Err, if◌then◌else◌}
use Rattle.fixed_milli.specs.declared.milli.MilliFault.{MilliFault}
use Rattle.fixed_milli.specs.declared.milli.MilliFault.TheVariants as milli
use Rattle.gml_text.specs.Tree.{Pairs}
use Rattle.scene_model.specs.declared.settings.Setting.{Setting}
use Rattle.scene_model.specs.declared.settings.Setting.TheVariants.{Penalty, Buffer, Nudge}
use Rattle.scene_model.specs.declared.edit.Edit.TheVariants.{Set}
use Rattle.scene_model.specs.Scene.{Scene}
use Rattle.scene_model.specs.Edits.{changed, out_of_limits}
use Rattle.diagram_read.specs.declared.fault.Part.TheVariants.{Router}
use Rattle.diagram_read.specs.declared.fault.DiagramFault.{DiagramFault}
use Rattle.diagram_read.specs.declared.fault.DiagramFault.TheVariants.{BadNumber, OutOfRange}
use Rattle.diagram_read.specs.Values.{value_at, milli_of}
use Rattle.diagram_read.specs.Faults.{◌>>=◌}

-- the scene with the setting changed, if a value is given
abbrev pub with_setting_read : Setting → Scene → Option (Result ℤ MilliFault) → Result Scene DiagramFault
with_setting_read what s None = Ok s
with_setting_read what s (Some (Err milli.NotNumber)) = Err (BadNumber Router 0)
with_setting_read what s (Some (Err milli.OutOfRange)) = Err (OutOfRange Router 0)
with_setting_read what s (Some (Ok value)) = if out_of_limits what value then Err (OutOfRange Router 0) else Ok (changed (Set what value) s)

-- the same for the value under the key of the list
abbrev pub with_setting_at : Setting → List ℕ → Pairs → Scene → Result Scene DiagramFault
with_setting_at what key router s = with_setting_read what s (option_map milli_of (value_at key router))

-- the scene with the settings in the `router` list, if there is one
abbrev pub with_settings_in : Option Pairs → Scene → Result Scene DiagramFault
with_settings_in None s = Ok s
with_settings_in (Some router) s = do
  first ← with_setting_at Penalty (codes "penalty") router s
  second ← with_setting_at Buffer (codes "buffer") router first
  with_setting_at Nudge (codes "nudge") router second
