-- The checkpoints so far are written.
use Rattle.std.proofs.Common.{◌≡◌, take}
use Rattle.gml_text.specs.Tree.{◌then◌}
use Rattle.gml_text.specs.View.{pairs}
use Rattle.gml_scene.specs.Changes.{all_of}
use Rattle.gml_scene.specs.Forms.{via_pair}
use Rattle.gml_scene.proofs.forms.push_via.Given as goal

abbrev pub invariant-loop-point : goal.invariant-loop-point
invariant-loop-point l = pairs l.list.items ≡ pairs l.fn.list.items then all_of via_pair (take l.point-index l.points)
