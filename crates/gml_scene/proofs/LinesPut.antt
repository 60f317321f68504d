-- The line of an edge goes into its `graphics`, or into new ones.
use Rattle.std.proofs.Common.{◌≡◌, ℕ, Option, Some, None, List, sym, ap, ◌∙◌}
use Rattle.std.specs.Prelude.{codes, is_some, if◌then◌else◌}
use Rattle.plane_geom.specs.declared.point.Point.{Point}
use Rattle.gml_text.specs.Tree.{Pairs, ◌then◌}
use Rattle.gml_scene.specs.Changes.{change_list, list_place}
use Rattle.gml_scene.specs.Forms.{line_pairs}
use Rattle.gml_scene.specs.Edges.{put_line_in, put_line}
use Rattle.gml_scene.proofs.PairLists.{place_listed}

pub line_here : (line : Option (List Point)) (ps : Pairs) (i : ℕ) → list_place (codes "graphics") ps ≡ Some i → change_list (codes "graphics") (put_line_in line) ps ≡ put_line line ps
line_here line ps i place =
    sym (ap (λ b. if b then change_list (codes "graphics") (put_line_in line) ps else ps then line_pairs line) (sym (place_listed (codes "graphics") ps) ∙ ap is_some place))

pub line_last : (line : Option (List Point)) (ps : Pairs) → list_place (codes "graphics") ps ≡ None → ps then line_pairs line ≡ put_line line ps
line_last line ps none =
    sym (ap (λ b. if b then change_list (codes "graphics") (put_line_in line) ps else ps then line_pairs line) (sym (place_listed (codes "graphics") ps) ∙ ap is_some none))
