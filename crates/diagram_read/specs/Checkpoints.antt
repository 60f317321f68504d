-- The list of a checkpoint.
use Rattle.std.specs.Prelude.{pos, ◌||◌, codes, Option, Some, None, if◌then◌else◌}
use Rattle.fixed_milli.specs.Steps.{◌>>=◌}
use Rattle.plane_geom.specs.declared.point.Point.{Point}
use Rattle.gml_text.specs.Tree.{Content}
use Rattle.scene_model.specs.Edits.{is_off}
use Rattle.diagram_read.specs.Values.{as_list, exact_at}

-- a point of the field
abbrev pub on_field : Point → Option Point
on_field p = if is_off p.x (pos 0) || is_off p.y (pos 0) then None else Some p

-- the checkpoint that a value describes, if it is valid
abbrev pub checkpoint_of : Content → Option Point
checkpoint_of value = do
  pairs ← as_list value
  x ← exact_at (codes "x") pairs
  y ← exact_at (codes "y") pairs
  on_field (record { x = x; y = y })
