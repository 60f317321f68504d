-- The points so far are written.
use Rattle.std.proofs.Common.{◌≡◌, take}
use Rattle.gml_text.specs.View.{pairs}
use Rattle.gml_scene.specs.Changes.{all_of}
use Rattle.gml_scene.specs.Forms.{line_point}
use Rattle.gml_scene.proofs.forms.line_of.Given as goal

abbrev pub invariant-loop-point : goal.invariant-loop-point
invariant-loop-point l = pairs l.list.items ≡ all_of line_point (take l.point-index l.points)
