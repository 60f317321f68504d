-- The tree of a scene and its routes may be printed where the diagram's may.
use Rattle.std.proofs.Common.{ℕ, suc, Bool, List, [], ◌∷◌, Option, Some, None, refl, arith}
use Rattle.std.specs.Prelude.{ℤ, pos, ◌*ℤ◌, ◌==◌, codes, bytes_eq, is_none, is_some, filter}
use Rattle.std.specs.Cmp.Lexicographic.{pointwise}
use Rattle.std.specs.Ordering.{int_eq}
use Rattle.plane_geom.specs.declared.point.Point.{Point}
use Rattle.gml_text.specs.Bytes.{quote}
use Rattle.gml_text.specs.Grammar.{IsKey, Lacks}
use Rattle.gml_text.specs.Tree.{Content, number, text, list, Pairs, no_pairs, pair}
use Rattle.gml_text.specs.Printed.{IsPrintable}
use Rattle.walk_model.specs.declared.route.WrittenRoute.{WrittenRoute}
use Rattle.scene_model.specs.declared.node.Node.{Node}
use Rattle.scene_model.specs.declared.edge.Edge.{Edge}
use Rattle.scene_model.specs.declared.pin.Pin.{Pin}
use Rattle.scene_model.specs.declared.settings.Settings.{Settings}
use Rattle.scene_model.specs.Scene.{Scene, default_settings, is_loop}
use Rattle.scene_model.specs.Letters.{letters}
use Rattle.diagram_read.specs.Values.{list_at}
use Rattle.gml_scene.specs.Changes.{one}
use Rattle.gml_scene.specs.Forms.{length_content, class_content, id_content, point_pairs, cost_pairs, pin_pairs, pin_pair, via_pair, line_point, line_content, line_pairs, box_pairs, label_pairs, node_pair, node_pairs, class_pairs, edge_pairs, edge_pair, settings_pairs}
use Rattle.gml_scene.specs.Labels.{AreQuotable, LabelLists, given_label}
use Rattle.gml_scene.specs.Nodes.{pin_eq, put_length, put_box, put_pins, node_again}
use Rattle.gml_scene.specs.Edges.{point_eq, put_class, put_via, put_line_in, put_line, edge_again}
use Rattle.gml_scene.specs.Tree.{line_for, node_from, edge_from, kept_node, kept_edge, kept, kept_from, put_settings, settings_eq, router_pairs, appended, graph_again, tree_of}
use Rattle.gml_scene.proofs.Numerals.{decimal_number, signed_decimal_number, milli_number, letters_lack}
use Rattle.gml_scene.proofs.Labelling.{labels_lack}
use Rattle.gml_scene.proofs.Fitting.{Fits, FitsValue, Keeps, none_fit, one_fits, number_fits, text_fits, list_fits, then_fits, all_fit, choice_fits, put_fits, without_fits, put_only_fits, change_fits}

length_fits : (d : ℕ) (key : List ℕ) (z : ℤ) → IsKey key → Fits d (one key (length_content z))
length_fits d key z is_key = one_fits d key (length_content z) is_key (number_fits d _ (milli_number z))

class_fits : (d : ℕ) (key : List ℕ) (class : ℕ) → IsKey key → Fits d (one key (class_content class))
class_fits d key class is_key = one_fits d key (class_content class) is_key (number_fits d _ (decimal_number class))

id_fits : (d : ℕ) (key : List ℕ) (id : ℤ) → IsKey key → Fits d (one key (id_content id))
id_fits d key id is_key = one_fits d key (id_content id) is_key (number_fits d _ (signed_decimal_number id))

inner_fits : (d : ℕ) (key : List ℕ) (inner : Pairs) → IsKey key → Fits d inner → Fits (suc d) (one key (list inner))
inner_fits d key inner is_key fits = one_fits (suc d) key (list inner) is_key (list_fits d inner fits)

point_fits : (d : ℕ) (p : Point) → Fits d (point_pairs p)
point_fits d p = then_fits d _ _ (length_fits d (codes "x") p.x (refl, refl)) (length_fits d (codes "y") p.y (refl, refl))

via_fits : (d : ℕ) (p : Point) → Fits (suc d) (via_pair p)
via_fits d p = inner_fits d (codes "via") (point_pairs p) (refl, refl) (point_fits d p)

cost_fits : (d : ℕ) (cost : ℤ) → Fits d (cost_pairs cost)
cost_fits d cost = choice_fits d (int_eq cost (pos 0)) no_pairs _ (none_fit d) (length_fits d (codes "cost") cost (refl, refl))

pin_fits : (d : ℕ) (p : Pin) → Fits (suc d) (pin_pair p)
pin_fits d p =
    inner_fits d (codes "pin") (pin_pairs p) (refl, refl)
    (then_fits d _ _ (class_fits d (codes "class") p.class (refl, refl))
    (then_fits d _ _ (length_fits d (codes "x") p.dx (refl, refl))
    (then_fits d _ _ (length_fits d (codes "y") p.dy (refl, refl))
    (then_fits d _ _ (one_fits d (codes "dirs") (text (letters p.dirs)) (refl, refl) (text_fits d (letters p.dirs) (letters_lack p.dirs)))
    (cost_fits d p.cost)))))

line_point_fits : (d : ℕ) (p : Point) → Fits (suc d) (line_point p)
line_point_fits d p = inner_fits d (codes "point") (point_pairs p) (refl, refl) (point_fits d p)

line_fits : (d : ℕ) (points : List Point) → FitsValue (suc (suc d)) (line_content points)
line_fits d points = list_fits (suc d) _ (all_fit (suc d) line_point points (line_point_fits d))

graphics_fits : (d : ℕ) (line : Option (List Point)) → Fits (suc (suc (suc d))) (line_pairs line)
graphics_fits d None = none_fit (suc (suc (suc d)))
graphics_fits d (Some points) =
    inner_fits (suc (suc d)) (codes "graphics") _ (refl, refl) (one_fits (suc (suc d)) (codes "Line") (line_content points) (refl, refl) (line_fits d points))

box_fits : (d : ℕ) (n : Node) → Fits d (box_pairs n)
box_fits d n =
    then_fits d _ _ (length_fits d (codes "x") n.x (refl, refl))
    (then_fits d _ _ (length_fits d (codes "y") n.y (refl, refl))
    (then_fits d _ _ (length_fits d (codes "w") (pos 2 *ℤ n.half_w) (refl, refl))
    (length_fits d (codes "h") (pos 2 *ℤ n.half_h) (refl, refl))))

label_fits : (d : ℕ) (label : List ℕ) → Lacks quote label → Fits d (label_pairs label)
label_fits d [] lacks = none_fit d
label_fits d (b ∷ bytes) lacks = one_fits d (codes "label") (text (b ∷ bytes)) (refl, refl) (text_fits d (b ∷ bytes) lacks)

node_fits : (d : ℕ) (label : List ℕ) (n : Node) → Lacks quote label → Fits (suc (suc d)) (node_pair label n)
node_fits d label n lacks =
    inner_fits (suc d) (codes "node") (node_pairs label n) (refl, refl)
    (then_fits (suc d) _ _ (id_fits (suc d) (codes "id") n.id (refl, refl))
    (then_fits (suc d) _ _ (label_fits (suc d) label lacks)
    (then_fits (suc d) _ _ (inner_fits d (codes "graphics") (box_pairs n) (refl, refl) (box_fits d n))
    (all_fit (suc d) pin_pair n.pins (pin_fits d)))))

end_class_fits : (d : ℕ) (key : List ℕ) (class : ℕ) → IsKey key → Fits d (class_pairs key class)
end_class_fits d key class is_key = choice_fits d (class == 0) no_pairs _ (none_fit d) (class_fits d key class is_key)

edge_fits : (d : ℕ) (label : List ℕ) (line : Option (List Point)) (e : Edge) → Lacks quote label → Fits (suc (suc (suc (suc d)))) (edge_pair label line e)
edge_fits d label line e lacks =
    let deep = suc (suc (suc d)) in
    inner_fits deep (codes "edge") (edge_pairs label line e) (refl, refl)
    (then_fits deep _ _ (id_fits deep (codes "source") e.from (refl, refl))
    (then_fits deep _ _ (id_fits deep (codes "target") e.to (refl, refl))
    (then_fits deep _ _ (label_fits deep label lacks)
    (then_fits deep _ _ (end_class_fits deep (codes "sourcePin") e.from_class (refl, refl))
    (then_fits deep _ _ (end_class_fits deep (codes "targetPin") e.to_class (refl, refl))
    (then_fits deep _ _ (all_fit deep via_pair e.via (via_fits (suc (suc d))))
    (graphics_fits d line)))))))

settings_fit : (d : ℕ) (t : Settings) → Fits d (settings_pairs t)
settings_fit d t =
    then_fits d _ _ (length_fits d (codes "penalty") t.penalty (refl, refl))
    (then_fits d _ _ (length_fits d (codes "buffer") t.buffer (refl, refl))
    (length_fits d (codes "nudge") t.nudge (refl, refl)))

put_length_fits : (d : ℕ) (key : List ℕ) (was now : ℤ) → IsKey key → Keeps d (put_length key was now)
put_length_fits d key was now is_key ps fits =
    choice_fits d (int_eq was now) ps _ fits (put_fits d key (length_content now) ps is_key (number_fits d _ (milli_number now)) fits)

put_box_fits : (d : ℕ) (was n : Node) → Keeps d (put_box was n)
put_box_fits d was n ps fits =
    put_length_fits d (codes "h") (pos 2 *ℤ was.half_h) (pos 2 *ℤ n.half_h) (refl, refl) _
    (put_length_fits d (codes "w") (pos 2 *ℤ was.half_w) (pos 2 *ℤ n.half_w) (refl, refl) _
    (put_length_fits d (codes "y") was.y n.y (refl, refl) _
    (put_length_fits d (codes "x") was.x n.x (refl, refl) ps fits)))

put_pins_fits : (d : ℕ) (was pins : List Pin) → Keeps (suc d) (put_pins was pins)
put_pins_fits d was pins ps fits =
    choice_fits (suc d) (pointwise pin_eq was pins) ps _ fits
    (then_fits (suc d) _ _ (without_fits (suc d) (codes "pin") ps fits) (all_fit (suc d) pin_pair pins (pin_fits d)))

node_again_fits : (d : ℕ) (was n : Node) → Keeps (suc d) (node_again was n)
node_again_fits d was n ps fits =
    put_pins_fits d was.pins n.pins _ (change_fits d (codes "graphics") (put_box was n) ps (put_box_fits d was n) fits)

put_class_fits : (d : ℕ) (key : List ℕ) (was now : ℕ) → IsKey key → Keeps d (put_class key was now)
put_class_fits d key was now is_key ps fits =
    choice_fits d (was == now) ps _ fits (put_fits d key (class_content now) ps is_key (number_fits d _ (decimal_number now)) fits)

put_via_fits : (d : ℕ) (was via : List Point) → Keeps (suc d) (put_via was via)
put_via_fits d was via ps fits =
    choice_fits (suc d) (pointwise point_eq was via) ps _ fits
    (then_fits (suc d) _ _ (without_fits (suc d) (codes "via") ps fits) (all_fit (suc d) via_pair via (via_fits d)))

put_line_in_fits : (d : ℕ) (line : Option (List Point)) → Keeps (suc (suc d)) (put_line_in line)
put_line_in_fits d (Some points) ps fits = put_only_fits (suc (suc d)) (codes "Line") (line_content points) ps (refl, refl) (line_fits d points) fits
put_line_in_fits d None ps fits = without_fits (suc (suc d)) (codes "Line") ps fits

put_line_fits : (d : ℕ) (line : Option (List Point)) → Keeps (suc (suc (suc d))) (put_line line)
put_line_fits d line ps fits =
    let deep = suc (suc (suc d)) in
    choice_fits deep (is_some (list_at (codes "graphics") ps)) _ _
    (change_fits (suc (suc d)) (codes "graphics") (put_line_in line) ps (put_line_in_fits d line) fits)
    (then_fits deep ps (line_pairs line) fits (graphics_fits d line))

edge_again_fits : (d : ℕ) (was e : Edge) (line : Option (List Point)) → Keeps (suc (suc (suc d))) (edge_again was e line)
edge_again_fits d was e line ps fits =
    let deep = suc (suc (suc d)) in
    choice_fits deep (is_loop e) ps _ fits
    (put_line_fits d line _
    (put_via_fits (suc (suc d)) was.via e.via _
    (put_class_fits deep (codes "targetPin") was.to_class e.to_class (refl, refl) _
    (put_class_fits deep (codes "sourcePin") was.from_class e.from_class (refl, refl) ps fits))))

kept_node_fits : (d : ℕ) (key : List ℕ) (inner : Pairs) (was now : Option Node) → IsKey key → Fits (suc d) inner → Fits (suc (suc d)) (kept_node key inner was now)
kept_node_fits d key inner (Some was) (Some n) is_key fits = inner_fits (suc d) key _ is_key (node_again_fits d was n inner fits)
kept_node_fits d key inner None now is_key fits = none_fit (suc (suc d))
kept_node_fits d key inner (Some was) None is_key fits = none_fit (suc (suc d))

kept_edge_fits : (d : ℕ) (key : List ℕ) (inner : Pairs) (routes : List WrittenRoute) (was now : Option Edge) → IsKey key → Fits (suc (suc (suc d))) inner
    → Fits (suc (suc (suc (suc d)))) (kept_edge key inner routes was now)
kept_edge_fits d key inner routes (Some was) (Some e) is_key fits = inner_fits (suc (suc (suc d))) key _ is_key (edge_again_fits d was e (line_for routes e.number) inner fits)
kept_edge_fits d key inner routes None now is_key fits = none_fit (suc (suc (suc (suc d))))
kept_edge_fits d key inner routes (Some was) None is_key fits = none_fit (suc (suc (suc (suc d))))

-- a graph has at least as many open lists as a whole edge in it
abbrev deep : ℕ → ℕ
deep d = suc (suc (suc (suc d)))

kept_fits : (d : ℕ) (was s : Scene) (routes : List WrittenRoute) (place : ℕ) (key : List ℕ) (v : Content) → IsKey key → FitsValue (deep d) v → Fits (deep d) (kept was s routes place key v)
kept_fits d was s routes place key (list inner) is_key fits =
    let within : Fits (suc (suc (suc d))) inner = record { grammatical = fits.grammatical; within = (let a = fits.within in omega (arith, a)) } in
    choice_fits (deep d) (bytes_eq key (codes "node")) _ _
    (kept_node_fits (suc (suc d)) key inner (node_from was place) (node_from s place) is_key within)
    (choice_fits (deep d) (bytes_eq key (codes "edge")) _ _
    (kept_edge_fits d key inner routes (edge_from was place) (edge_from s place) is_key within)
    (one_fits (deep d) key (list inner) is_key fits))
kept_fits d was s routes place key (number bytes) is_key fits = one_fits (deep d) key (number bytes) is_key fits
kept_fits d was s routes place key (text bytes) is_key fits = one_fits (deep d) key (text bytes) is_key fits

kept_from_fits : (d : ℕ) (was s : Scene) (routes : List WrittenRoute) (place : ℕ) (ps : Pairs) → Fits (deep d) ps → Fits (deep d) (kept_from was s routes place ps)
kept_from_fits d was s routes place no_pairs fits = fits
kept_from_fits d was s routes place (pair key v rest) fits =
    then_fits (deep d) _ _
    (kept_fits d was s routes place key v fits.grammatical.0 (record { grammatical = fits.grammatical.1; within = (let a = fits.within in omega (arith, a)) }))
    (kept_from_fits d was s routes (suc place) rest (record { grammatical = fits.grammatical.2; within = (let a = fits.within in omega (arith, a)) }))

put_settings_fits : (d : ℕ) (was t : Settings) → Keeps d (put_settings was t)
put_settings_fits d was t ps fits =
    put_length_fits d (codes "nudge") was.nudge t.nudge (refl, refl) _
    (put_length_fits d (codes "buffer") was.buffer t.buffer (refl, refl) _
    (put_length_fits d (codes "penalty") was.penalty t.penalty (refl, refl) ps fits))

router_fits : (d : ℕ) (t : Settings) → Fits (suc d) (router_pairs t)
router_fits d t = choice_fits (suc d) (settings_eq t default_settings) no_pairs _ (none_fit (suc d)) (inner_fits d (codes "router") (settings_pairs t) (refl, refl) (settings_fit d t))

module _ (labels : LabelLists) (quotable : AreQuotable labels) where
  new_node_fits : (d : ℕ) (n : Node) → Fits (suc (suc d)) (node_pair (given_label labels.nodes n.id) n)
  new_node_fits d n = node_fits d (given_label labels.nodes n.id) n (labels_lack labels.nodes n.id quotable.nodes)

  new_edge_fits : (d : ℕ) (line : Option (List Point)) (e : Edge) → Fits (deep d) (edge_pair (given_label labels.edges (pos e.number)) line e)
  new_edge_fits d line e = edge_fits d (given_label labels.edges (pos e.number)) line e (labels_lack labels.edges (pos e.number) quotable.edges)

  appended_fits : (d : ℕ) (s : Scene) (routes : List WrittenRoute) (has_router : Bool) → Fits (deep d) (appended s labels routes has_router)
  appended_fits d s routes has_router =
      then_fits (deep d) _ _ (choice_fits (deep d) has_router no_pairs _ (none_fit (deep d)) (router_fits (suc (suc (suc d))) s.settings))
      (then_fits (deep d) _ _
      (all_fit (deep d) (λ (n : Node). node_pair (given_label labels.nodes n.id) n) (filter (λ n. is_none n.origin) s.nodes) (new_node_fits (suc (suc d))))
      (all_fit (deep d) (λ (e : Edge). edge_pair (given_label labels.edges (pos e.number)) (line_for routes e.number) e) (filter (λ e. is_none e.origin) s.edges)
      (λ e. new_edge_fits d (line_for routes e.number) e)))

  graph_again_fits : (d : ℕ) (was s : Scene) (routes : List WrittenRoute) → Keeps (deep d) (graph_again was s labels routes)
  graph_again_fits d was s routes graph fits =
      then_fits (deep d) _ _
      (change_fits (suc (suc (suc d))) (codes "router") (put_settings was.settings s.settings) _ (put_settings_fits (suc (suc (suc d))) was.settings s.settings) (kept_from_fits d was s routes 0 graph fits))
      (appended_fits d s routes (is_some (list_at (codes "router") graph)))

  -- the law that is proved here
  pub printable_again : (tree : Pairs) (was s : Scene) (routes : List WrittenRoute) → IsPrintable tree → IsPrintable (tree_of tree was s labels routes)
  printable_again tree was s routes printable =
      let fits = change_fits 63 (codes "graph") (graph_again was s labels routes) tree (graph_again_fits 59 was s routes) (record { grammatical = printable.grammatical; within = printable.within_limit }) in
      record { grammatical = fits.grammatical; within_limit = fits.within }
