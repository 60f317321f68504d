-- What is reported so far, and the elements that are left, give the whole.
use Rattle.std.proofs.Common.{◌≡◌, ◌++◌, drop}
use Rattle.std.specs.List.{flat_map}
use Rattle.live_replies.specs.Scene.{checkpoint_line}
use Rattle.live_replies.proofs.scene.push_checkpoints.Given as goal

abbrev pub invariant-loop-point : goal.invariant-loop-point
invariant-loop-point l = l.out.items ++ flat_map checkpoint_line (drop l.point-index l.via) ≡ l.fn.out.items ++ flat_map checkpoint_line l.via
