-- What holds while pairs are copied.
use Rattle.std.proofs.Common.{◌≡◌, take}
use Rattle.gml_text.specs.Tree.{◌then◌}
use Rattle.gml_text.specs.View.{pairs}
use Rattle.gml_scene.proofs.copies.+copies.Given as goal

abbrev pub invariant-push_copies-loop-pair : goal.invariant-push_copies-loop-pair
invariant-push_copies-loop-pair l = pairs l.out.items ≡ pairs l.fn.out.items then pairs (take l.pair-index l.list)
