-- The pins so far are written.
use Rattle.std.proofs.Common.{◌≡◌, take}
use Rattle.gml_text.specs.Tree.{◌then◌}
use Rattle.gml_text.specs.View.{pairs}
use Rattle.gml_scene.specs.Changes.{all_of}
use Rattle.gml_scene.specs.Forms.{pin_pair}
use Rattle.gml_scene.proofs.forms.push_pins.Given as goal

abbrev pub invariant-loop-pin : goal.invariant-loop-pin
invariant-loop-pin l = pairs l.list.items ≡ pairs l.fn.list.items then all_of pin_pair (take l.pin-index l.pins)
