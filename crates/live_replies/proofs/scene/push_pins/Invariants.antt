-- What is reported so far, and the elements that are left, give the whole.
use Rattle.std.proofs.Common.{◌≡◌, ◌++◌, drop}
use Rattle.std.specs.List.{flat_map}
use Rattle.live_replies.specs.Scene.{pin_line}
use Rattle.live_replies.proofs.scene.push_pins.Given as goal

abbrev pub invariant-loop-pin : goal.invariant-loop-pin
invariant-loop-pin l = l.out.items ++ flat_map pin_line (drop l.pin-index l.pins) ≡ l.fn.out.items ++ flat_map pin_line l.pins
