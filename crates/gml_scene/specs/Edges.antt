-- The list of an edge that is already in the diagram: only its line changes, and what differs from the edge that was read.
use Rattle.std.specs.Prelude.{ℕ, ◌==◌, ◌&&◌, Bool, List, codes, Option, Some, None, is_some, if◌then◌else◌}
use Rattle.std.specs.Cmp.Lexicographic.{pointwise}
use Rattle.std.specs.Ordering.{int_eq}
use Rattle.plane_geom.specs.declared.point.Point.{Point}
use Rattle.gml_text.specs.Tree.{Pairs, ◌then◌}
use Rattle.scene_model.specs.declared.edge.Edge.{Edge}
use Rattle.scene_model.specs.Scene.{is_loop}
use Rattle.diagram_read.specs.Values.{list_at}
use Rattle.gml_scene.specs.Changes.{all_of, put, put_only, without, change_list}
use Rattle.gml_scene.specs.Forms.{class_content, via_pair, line_content, line_pairs}

abbrev pub point_eq : Point → Point → Bool
point_eq a b = int_eq a.x b.x && int_eq a.y b.y

-- a class is written if it has changed
abbrev pub put_class : List ℕ → ℕ → ℕ → Pairs → Pairs
put_class key was now pairs = if was == now then pairs else put key (class_content now) pairs

-- all checkpoints are replaced, appended at the end, if they have changed
abbrev pub put_via : List Point → List Point → Pairs → Pairs
put_via was via pairs = if pointwise point_eq was via then pairs else without (codes "via") pairs then all_of via_pair via

-- with a line the first `Line` in the `graphics` is replaced and any further one removed; without one all are removed
abbrev pub put_line_in : Option (List Point) → Pairs → Pairs
put_line_in (Some points) graphics = put_only (codes "Line") (line_content points) graphics
put_line_in None graphics = without (codes "Line") graphics

-- the same in an edge's pairs, to which `graphics` are added for a line if there are none
abbrev pub put_line : Option (List Point) → Pairs → Pairs
put_line line pairs =
    if is_some (list_at (codes "graphics") pairs) then change_list (codes "graphics") (put_line_in line) pairs
    else pairs then line_pairs line

-- the pairs of an edge that was read as the first one and is now the second; those of a loop stay
abbrev pub edge_again : Edge → Edge → Option (List Point) → Pairs → Pairs
edge_again was e line pairs =
    if is_loop e then pairs
    else put_line line
    (put_via was.via e.via
    (put_class (codes "targetPin") was.to_class e.to_class
    (put_class (codes "sourcePin") was.from_class e.from_class pairs)))
