-- Why a line of a script, or its end, is refused.
use Rattle.std.specs.Prelude.{ℕ, List, [], ◌++◌, codes, decimal}
use Rattle.std.specs.Fmt.{signed_decimal}
use Rattle.scene_model.specs.declared.fault.SceneFault.{SceneFault}
use Rattle.scene_model.specs.declared.fault.SceneFault.TheVariants as scene
use Rattle.scene_model.specs.declared.fault.SessionFault.{SessionFault}
use Rattle.scene_model.specs.declared.fault.SessionFault.TheVariants as session
use Rattle.report_text.specs.declared.refusal.Refusal.{Refusal}
use Rattle.report_text.specs.declared.refusal.Refusal.TheVariants.{Syntax, Command, Unfinished}

-- why an edit is refused; out of memory is not printed
abbrev pub edit_text : SceneFault → List ℕ
edit_text (scene.UnknownNode id) = codes "X4 UnknownNode " ++ signed_decimal id
edit_text (scene.UnknownEdge number) = codes "X5 UnknownEdge " ++ decimal number
edit_text (scene.NodeExists id) = codes "X6 NodeExists " ++ signed_decimal id
edit_text (scene.NodeInUse edge) = codes "X7 NodeInUse " ++ decimal edge
edit_text (scene.SameNode id) = codes "X8 SameNode " ++ signed_decimal id
edit_text (scene.OutOfRange word) = codes "X9 OutOfRange " ++ decimal word
edit_text (scene.PinOutside place) = codes "X10 PinOutside " ++ decimal place
edit_text (scene.UnknownPinClass class) = codes "X11 UnknownPinClass " ++ decimal class
edit_text (scene.NoSuchPlace place) = codes "X12 NoSuchPlace " ++ decimal place
edit_text (scene.TooMany limit) = codes "X13 TooMany " ++ decimal limit
edit_text (scene.PinInUse edge) = codes "X17 PinInUse " ++ decimal edge
edit_text scene.Memory = []

-- why a command is refused
abbrev pub command_text : SessionFault → List ℕ
command_text session.NoTransaction = codes "X2 NoTransaction"
command_text session.AlreadyOpen = codes "X3 AlreadyOpen"
command_text session.NothingToUndo = codes "X14 NothingToUndo"
command_text session.NothingToRedo = codes "X15 NothingToRedo"
command_text (session.Edit fault) = edit_text fault
command_text session.Memory = []

-- a refusal's code, its name and its value, if it has one
abbrev pub refusal_text : Refusal → List ℕ
refusal_text Syntax = codes "X1 Syntax"
refusal_text (Command fault) = command_text fault
refusal_text Unfinished = codes "X16 Unfinished"
