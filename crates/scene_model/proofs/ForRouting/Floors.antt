-- The floor of a valid scene serves the task of each connector.
use Rattle.std.proofs.Common.{◌≡◌, ◌≢◌, ℕ, ◌+◌, ◌*◌, ◌<◌, ◌≤◌, ◌^◌, Bool, true, false, not, Some, List, [], ◌∷◌, ◌++◌, map, length, refl, sym, ap, subst, ◌∙◌, arith, int_eq, ◌==◌, length-append}
use Rattle.std.specs.Prelude.{ℤ, pos, ◌+ℤ◌, ◌-ℤ◌, ◌≤ℤ◌, ◌<ℤ◌, unsigned_abs, if◌then◌else◌, All, Contains, filter, sum_by}
use Rattle.std.specs.List.{AllByRecursion as Each, flat_map}
use Rattle.std.proofs.lemmas.Int.{ints}
use Rattle.std.proofs.lemmas.List.{length-map}
use Rattle.std.proofs.lemmas.List.Sums.{sum_by-cons}
use Rattle.std.proofs.lemmas.List.Filters.{length-filter_both}
use Rattle.std.proofs.lemmas.Bool.Decides.{Decides-int_eq}
use Rattle.std.proofs.lemmas.List.Elements.{All-from_recursion, recursion_from_All, All-contains_itself, All-contains, All-filter, All-weaker}
use Rattle.plane_geom.specs.declared.point.Point.{Point}
use Rattle.plane_geom.specs.declared.point.Dir.{Dir}
use Rattle.plane_geom.specs.declared.point.Dir.TheVariants.{East, South, West, North}
use Rattle.plane_geom.specs.declared.rect.Rect.{Rect}
use Rattle.plane_geom.specs.declared.rect.Solid.{Solid}
use Rattle.plane_geom.specs.Point.{PointIsOnSheet}
use Rattle.plane_geom.specs.Rect.{RectIsOnSheet, HasInside}
use Rattle.plane_geom.specs.declared.point.Way.{Way}
use Rattle.plane_geom.specs.declared.point.Way.TheVariants.{Vertical, Horizontal}
use Rattle.plane_geom.specs.Along.{across}
use Rattle.plane_geom.specs.Floor.{IsSolid, IsFloor, HasCoordinates, first_side, last_side}
use Rattle.walk_model.specs.declared.task.Choice.{Choice}
use Rattle.walk_model.specs.Choice.{IsChoice, AreChoices}
use Rattle.walk_model.specs.Legal.{IsTask}
use Rattle.walk_model.specs.Floors.{IsOutside}
use Rattle.plane_geom.proofs.Headings.{same_point}
use Rattle.scene_model.specs.declared.node.Node.{Node}
use Rattle.scene_model.specs.declared.edge.Edge.{Edge}
use Rattle.scene_model.specs.declared.pin.Pin.{Pin}
use Rattle.scene_model.specs.declared.pin.Dirs.{Dirs}
use Rattle.scene_model.specs.Scene.{Scene, node_with, connectors, is_loop}
use Rattle.scene_model.specs.Valid.{IsNode, IsEdge, IsValid, IsPin, IsPlaced, IsOnField}
use Rattle.scene_model.specs.Routing.{box, buffered_box, solid_of, solids, centre_pin, pins_of_class, place_of, port, choice, directions, choices_of, choices_with, task_of, anchors, floor_of}
use Rattle.scene_model.specs.Floors.{HoldsTask, FloorsHoldTasks, FloorsFit}
use Rattle.scene_model.proofs.Editing.Entries.{Pairs, pairs_to, pairs_from, each_weaker, each_filter, found_has, key_found, only_found}
use Rattle.scene_model.proofs.Editing.Nodes.{id_of, few_pins}
use Rattle.scene_model.proofs.Editing.EdgeEdits.{found_by}

-- what holds of each element of a list that is built of others
split_append : {X : Type 0} (P : X → Type 0) (xs ys : List X) → Each P (xs ++ ys) → Each P xs × Each P ys
split_append P [] ys e = (tt, e)
split_append P (x ∷ xs) ys e = let r = split_append P xs ys e.1 in ((e.0, r.0), r.1)

join_append : {X : Type 0} (P : X → Type 0) (xs ys : List X) → Each P xs → Each P ys → Each P (xs ++ ys)
join_append P [] ys e h = h
join_append P (x ∷ xs) ys e h = (e.0, join_append P xs ys e.1 h)

split_flat : {X Y : Type 0} (P : Y → Type 0) (f : X → List Y) (xs : List X) → Each P (flat_map f xs) → Each (λ x. Each P (f x)) xs
split_flat P f [] e = tt
split_flat P f (x ∷ xs) e = let r = split_append P (f x) (flat_map f xs) e in (r.0, split_flat P f xs r.1)

pub join_flat : {X Y : Type 0} (P : Y → Type 0) (f : X → List Y) (xs : List X) → Each (λ x. Each P (f x)) xs → Each P (flat_map f xs)
join_flat P f [] e = tt
join_flat P f (x ∷ xs) e = join_append P (f x) (flat_map f xs) e.0 (join_flat P f xs e.1)

split_map : {X Y : Type 0} (P : Y → Type 0) (g : X → Y) (xs : List X) → Each P (map g xs) → Each (λ x. P (g x)) xs
split_map P g [] e = tt
split_map P g (x ∷ xs) e = (e.0, split_map P g xs e.1)

pub join_map : {X Y : Type 0} (P : Y → Type 0) (g : X → Y) (xs : List X) → Each (λ x. P (g x)) xs → Each P (map g xs)
join_map P g [] e = tt
join_map P g (x ∷ xs) e = (e.0, join_map P g xs e.1)

each_of : {X : Type 0} (P : X → Type 0) → ((x : X) → P x) → (xs : List X) → Each P xs
each_of P h [] = tt
each_of P h (x ∷ xs) = (h x, each_of P h xs)

pairs_of : {X : Type 0} (P : X → Type 0) (R : X → X → Type 0) → ((x y : X) → P x → P y → R x y) → (xs : List X) → Each P xs → Pairs R xs
pairs_of P R h [] e = tt
pairs_of P R h (x ∷ xs) e = (each_weaker P (R x) (λ y p. h x y e.0 p) xs e.1, pairs_of P R h xs e.1)

-- how far the buffer reaches
pub record IsBuffer (b : ℤ) : Type 0 where
  pub low : pos 1 ≤ℤ b
  pub high : b ≤ℤ pos (10 ^ 6)

pub box_on_sheet : (n : Node) → IsNode n → RectIsOnSheet (box n)
box_on_sheet n v =
    let x = v.x in let y = v.y in let w = v.half_w in let h = v.half_h in
    record {
      left = record { low = omega (arith, ints, x, w); high = omega (arith, ints, x, w) };
      top = record { low = omega (arith, ints, y, h); high = omega (arith, ints, y, h) };
      right = record { low = omega (arith, ints, x, w); high = omega (arith, ints, x, w) };
      bottom = record { low = omega (arith, ints, y, h); high = omega (arith, ints, y, h) };
    }

pub buffered_on_sheet : (b : ℤ) (n : Node) → IsNode n → IsBuffer b → RectIsOnSheet (buffered_box b n)
buffered_on_sheet b n v l =
    let x = v.x in let y = v.y in let w = v.half_w in let h = v.half_h in let low = l.low in let high = l.high in
    record {
      left = record { low = omega (arith, ints, x, w, low, high); high = omega (arith, ints, x, w, low, high) };
      top = record { low = omega (arith, ints, y, h, low, high); high = omega (arith, ints, y, h, low, high) };
      right = record { low = omega (arith, ints, x, w, low, high); high = omega (arith, ints, x, w, low, high) };
      bottom = record { low = omega (arith, ints, y, h, low, high); high = omega (arith, ints, y, h, low, high) };
    }

pin_on_sheet : (n : Node) (p : Pin) → IsNode n → IsPlaced n p → PointIsOnSheet (place_of n p)
pin_on_sheet n p v q =
    let x = v.x in let y = v.y in let w = v.half_w in let h = v.half_h in let dx = q.x in let dy = q.y in
    record {
      x = record { low = omega (arith, ints, x, w, dx); high = omega (arith, ints, x, w, dx) };
      y = record { low = omega (arith, ints, y, h, dy); high = omega (arith, ints, y, h, dy) };
    }

-- a side lies so far from the pin as the straight way to it is long
ahead : (a b c : ℤ) → a ≤ℤ b → b ≡ a +ℤ pos (unsigned_abs (a -ℤ b) + unsigned_abs (c -ℤ c))
ahead a b c l = omega (arith, ints, l)

behind : (a b c : ℤ) → b ≤ℤ a → b ≡ a -ℤ pos (unsigned_abs (a -ℤ b) + unsigned_abs (c -ℤ c))
behind a b c l = omega (arith, ints, l)

ahead_y : (a b c : ℤ) → a ≤ℤ b → b ≡ a +ℤ pos (unsigned_abs (c -ℤ c) + unsigned_abs (a -ℤ b))
ahead_y a b c l = omega (arith, ints, l)

behind_y : (a b c : ℤ) → b ≤ℤ a → b ≡ a -ℤ pos (unsigned_abs (c -ℤ c) + unsigned_abs (a -ℤ b))
behind_y a b c l = omega (arith, ints, l)

low_side : (x w d b : ℤ) → pos 0 ≤ℤ w → unsigned_abs d ≤ unsigned_abs w → pos 1 ≤ℤ b → ((x -ℤ w) -ℤ b) <ℤ (x +ℤ d)
low_side x w d b h l m = omega (arith, ints, h, l, m)

high_side : (x w d b : ℤ) → pos 0 ≤ℤ w → unsigned_abs d ≤ unsigned_abs w → pos 1 ≤ℤ b → (x +ℤ d) <ℤ ((x +ℤ w) +ℤ b)
high_side x w d b h l m = omega (arith, ints, h, l, m)

far : (a b c : ℤ) → a <ℤ b → 0 < unsigned_abs (a -ℤ b) + unsigned_abs (c -ℤ c)
far a b c l = omega (arith, ints, l)

far_back : (a b c : ℤ) → b <ℤ a → 0 < unsigned_abs (a -ℤ b) + unsigned_abs (c -ℤ c)
far_back a b c l = omega (arith, ints, l)

far_y : (a b c : ℤ) → a <ℤ b → 0 < unsigned_abs (c -ℤ c) + unsigned_abs (a -ℤ b)
far_y a b c l = omega (arith, ints, l)

far_back_y : (a b c : ℤ) → b <ℤ a → 0 < unsigned_abs (c -ℤ c) + unsigned_abs (a -ℤ b)
far_back_y a b c l = omega (arith, ints, l)

below : (a b : ℤ) → a <ℤ b → a ≤ℤ b
below a b l = omega (arith, ints, l)

never_below_itself : (a : ℤ) → a <ℤ a → ⊥
never_below_itself a l = absurd (omega (arith, ints, l))

is_choice : (b : ℤ) (n : Node) (p : Pin) (d : Dir) → IsNode n → IsBuffer b → IsPlaced n p → IsChoice (choice b n p d)
is_choice b n p East v l q =
    let sheet = buffered_on_sheet b n v l in
    let pin = pin_on_sheet n p v q in
    let over = high_side n.x n.half_w p.dx b v.half_w q.x l.low in
    record {
      pin = pin;
      port = record { x = sheet.right; y = pin.y };
      straight = same_point _ _ (ahead (n.x +ℤ p.dx) ((n.x +ℤ n.half_w) +ℤ b) (n.y +ℤ p.dy) (below _ _ over)) refl;
      apart = far (n.x +ℤ p.dx) ((n.x +ℤ n.half_w) +ℤ b) (n.y +ℤ p.dy) over;
      cost = q.cost;
    }
is_choice b n p South v l q =
    let sheet = buffered_on_sheet b n v l in
    let pin = pin_on_sheet n p v q in
    let over = high_side n.y n.half_h p.dy b v.half_h q.y l.low in
    record {
      pin = pin;
      port = record { x = pin.x; y = sheet.bottom };
      straight = same_point _ _ refl (ahead_y (n.y +ℤ p.dy) ((n.y +ℤ n.half_h) +ℤ b) (n.x +ℤ p.dx) (below _ _ over));
      apart = far_y (n.y +ℤ p.dy) ((n.y +ℤ n.half_h) +ℤ b) (n.x +ℤ p.dx) over;
      cost = q.cost;
    }
is_choice b n p West v l q =
    let sheet = buffered_on_sheet b n v l in
    let pin = pin_on_sheet n p v q in
    let over = low_side n.x n.half_w p.dx b v.half_w q.x l.low in
    record {
      pin = pin;
      port = record { x = sheet.left; y = pin.y };
      straight = same_point _ _ (behind (n.x +ℤ p.dx) ((n.x -ℤ n.half_w) -ℤ b) (n.y +ℤ p.dy) (below _ _ over)) refl;
      apart = far_back (n.x +ℤ p.dx) ((n.x -ℤ n.half_w) -ℤ b) (n.y +ℤ p.dy) over;
      cost = q.cost;
    }
is_choice b n p North v l q =
    let sheet = buffered_on_sheet b n v l in
    let pin = pin_on_sheet n p v q in
    let over = low_side n.y n.half_h p.dy b v.half_h q.y l.low in
    record {
      pin = pin;
      port = record { x = pin.x; y = sheet.top };
      straight = same_point _ _ refl (behind_y (n.y +ℤ p.dy) ((n.y -ℤ n.half_h) -ℤ b) (n.x +ℤ p.dx) (below _ _ over));
      apart = far_back_y (n.y +ℤ p.dy) ((n.y -ℤ n.half_h) -ℤ b) (n.x +ℤ p.dx) over;
      cost = q.cost;
    }

wide : (x w b : ℤ) → pos 0 ≤ℤ w → pos 1 ≤ℤ b → ((x -ℤ w) -ℤ b) <ℤ ((x +ℤ w) +ℤ b)
wide x w b h l = omega (arith, ints, h, l)

-- a port lies on its side of the buffered box, so not inside
port_outside : (r : Rect) (p : Point) (d : Dir) → HasInside r (port r p d) → ⊥
port_outside r p East h = never_below_itself r.right h.x.1
port_outside r p South h = never_below_itself r.bottom h.y.1
port_outside r p West h = never_below_itself r.left h.x.0
port_outside r p North h = never_below_itself r.top h.y.0

all_placed : (n : Node) → IsNode n → Each (IsPlaced n) (centre_pin ∷ n.pins)
all_placed n v = (
  record { x = omega arith; y = omega arith; cost = omega arith },
  each_weaker (IsPin n.half_w n.half_h) (IsPlaced n)
      (λ p h. let cost = h.cost in let low = h.low_cost in record { x = h.x; y = h.y; cost = omega (arith, ints, cost, low) })
      n.pins (recursion_from_All (IsPin n.half_w n.half_h) n.pins v.pins),
)

of_class_by : (P : Pin → Type 0) (n : Node) (class : ℕ) (b : Bool) → Each P (centre_pin ∷ n.pins) → Each P (if b then centre_pin ∷ [] else filter (λ p. p.class == class) n.pins)
of_class_by P n class true e = (e.0, tt)
of_class_by P n class false e = each_filter P (λ p. p.class == class) n.pins e.1

-- what holds of all choices of a node holds of those of a class
each_choice : (P : Choice → Type 0) (b : ℤ) (n : Node) (class : ℕ) → Each P (choices_of b n (centre_pin ∷ n.pins)) → Each P (choices_of b n (pins_of_class n class))
each_choice P b n class e =
    join_flat P (λ p. map (choice b n p) (directions p.dirs)) (pins_of_class n class)
    (of_class_by (λ p. Each P (map (choice b n p) (directions p.dirs))) n class (class == 0)
    (split_flat P (λ p. map (choice b n p) (directions p.dirs)) (centre_pin ∷ n.pins) e))

-- a fact of each pin in each of its directions
each_made : (P : Choice → Type 0) (b : ℤ) (n : Node) → ((p : Pin) (d : Dir) → IsPlaced n p → P (choice b n p d)) → IsNode n → Each P (choices_of b n (centre_pin ∷ n.pins))
each_made P b n h v =
    join_flat P (λ p. map (choice b n p) (directions p.dirs)) (centre_pin ∷ n.pins)
    (each_weaker (IsPlaced n) (λ p. Each P (map (choice b n p) (directions p.dirs)))
    (λ p q. join_map P (choice b n p) (directions p.dirs) (each_of (λ d. P (choice b n p d)) (λ d. h p d q) (directions p.dirs)))
    (centre_pin ∷ n.pins) (all_placed n v))

are_choices : (b : ℤ) (n : Node) (class : ℕ) → IsNode n → IsBuffer b → AreChoices (choices_of b n (pins_of_class n class))
are_choices b n class v l =
    let cs : List Choice = choices_of b n (pins_of_class n class) in
    record {
      each = All-from_recursion IsChoice cs (each_choice IsChoice b n class (each_made IsChoice b n (λ p d q. is_choice b n p d v l q) v));
      one_node = pairs_to (λ c d. c.node ≡ d.node) cs
          (pairs_of (λ c. c.node ≡ n.id) (λ c d. c.node ≡ d.node) (λ c d h k. h ∙ sym k) cs
          (each_choice (λ c. c.node ≡ n.id) b n class (each_made (λ c. c.node ≡ n.id) b n (λ p d q. refl) v)));
      one_port = pairs_to (λ c d. c.pin ≡ d.pin → c.dir ≡ d.dir → c.port ≡ d.port) cs
          (pairs_of (λ c. c.port ≡ port (buffered_box b n) c.pin c.dir) (λ c d. c.pin ≡ d.pin → c.dir ≡ d.dir → c.port ≡ d.port)
          (λ c d h k pin dir. h ∙ ap (λ z. port (buffered_box b n) z c.dir) pin ∙ ap (λ z. port (buffered_box b n) d.pin z) dir ∙ sym k) cs
          (each_choice (λ c. c.port ≡ port (buffered_box b n) c.pin c.dir) b n class (each_made (λ c. c.port ≡ port (buffered_box b n) c.pin c.dir) b n (λ p d q. refl) v)));
    }

few_directions : (d : Dirs) → length (directions d) ≤ 4
few_directions d = by d.east d.south d.west d.north
  where
    by : (e s w n : Bool) → length {A = Dir} ((if e then East ∷ [] else []) ++ ((if s then South ∷ [] else []) ++ ((if w then West ∷ [] else []) ++ (if n then North ∷ [] else [])))) ≤ 4
    by true true true true = omega arith
    by true true true false = omega arith
    by true true false true = omega arith
    by true true false false = omega arith
    by true false true true = omega arith
    by true false true false = omega arith
    by true false false true = omega arith
    by true false false false = omega arith
    by false true true true = omega arith
    by false true true false = omega arith
    by false true false true = omega arith
    by false true false false = omega arith
    by false false true true = omega arith
    by false false true false = omega arith
    by false false false true = omega arith
    by false false false false = omega arith

-- four choices of a pin at most
choices_count : (b : ℤ) (n : Node) (ps : List Pin) → length (choices_of b n ps) ≤ 4 * length ps
choices_count b n [] = omega arith
choices_count b n (p ∷ ps) =
    let l = length-append (map (choice b n p) (directions p.dirs)) (choices_of b n ps) in
    let m = length-map (directions p.dirs) (choice b n p) in
    let here = few_directions p.dirs in
    let more = choices_count b n ps in
    omega (arith, l, m, here, more)

few_of_class : (n : Node) (class : ℕ) (b : Bool) → length n.pins ≤ 256 → length (if b then centre_pin ∷ [] else filter (λ p. p.class == class) n.pins) ≤ 256
few_of_class n class true few = omega arith
few_of_class n class false few = let l = length-filter_both (λ p. p.class == class) (λ p. not (p.class == class)) (λ p. refl) n.pins in omega (arith, l, few)

choices_at : (s : Scene) (id : ℤ) (class : ℕ) (n : Node) → node_with s id ≡ Some n → choices_with s.settings.buffer class (node_with s id) ≡ choices_of s.settings.buffer n (pins_of_class n class)
choices_at s id class n known = ap (choices_with s.settings.buffer class) known

field_point : (p : Point) → IsOnField p → PointIsOnSheet p
field_point p h =
    let x = h.x in let y = h.y in
    record { x = record { low = omega (arith, ints, x); high = omega (arith, ints, x) }; y = record { low = omega (arith, ints, y); high = omega (arith, ints, y) } }

module _ (s : Scene) (v : IsValid s) where
  abbrev buffer : ℤ
  buffer = s.settings.buffer

  is_buffer : IsBuffer s.settings.buffer
  is_buffer = record { low = v.settings.buffer; high = v.settings.low_buffer }

  is_node : (id : ℤ) (n : Node) → node_with s id ≡ Some n → IsNode n
  is_node id n known = found_has (λ m. int_eq m.id id) IsNode s.nodes n known (recursion_from_All IsNode s.nodes v.nodes)

  end_choices : (id : ℤ) (class : ℕ) (n : Node) → node_with s id ≡ Some n → AreChoices (choices_with s.settings.buffer class (node_with s id))
  end_choices id class n known = subst AreChoices (sym (choices_at s id class n known)) (are_choices s.settings.buffer n class (is_node id n known) is_buffer)

  few_choices : (id : ℤ) (class : ℕ) (n : Node) → node_with s id ≡ Some n → length (choices_with s.settings.buffer class (node_with s id)) ≤ 1024
  few_choices id class n known =
      let class_few = few_of_class n class (class == 0) (few_pins s id n v known) in
      let count = choices_count s.settings.buffer n (pins_of_class n class) in
      let at = ap length (choices_at s id class n known) in
      omega (arith, class_few, count, at)

  pub is_task : (e : Edge) → IsEdge s e → IsTask (task_of s e)
  is_task e h =
      let source = found_by (node_with s e.from) e.from_class h.from in
      let target = found_by (node_with s e.to) e.to_class h.to in
      let penalty = v.settings.penalty in
      let low = v.settings.low_penalty in
      record {
        starts = end_choices e.from e.from_class source.0 source.1;
        ends = end_choices e.to e.to_class target.0 target.1;
        few_starts = few_choices e.from e.from_class source.0 source.1;
        few_ends = few_choices e.to e.to_class target.0 target.1;
        via = All-weaker IsOnField PointIsOnSheet field_point e.via h.via;
        few = h.few_via;
        penalty = omega (arith, ints, penalty, low);
      }

  solid_by : (P : Solid → Type 0) (n : Node) (b : Bool) → P (record { node = n.id; rect = buffered_box s.settings.buffer n }) → Each P (if b then [] else record { node = n.id; rect = buffered_box s.settings.buffer n } ∷ [])
  solid_by P n true h = tt
  solid_by P n false h = (h, tt)

  -- a fact of the solid of each node
  each_solid : (P : Solid → Type 0) → Each (λ n. P (record { node = n.id; rect = buffered_box s.settings.buffer n })) s.nodes → Each P (solids s)
  each_solid P e =
      join_flat P (solid_of s.settings.buffer) s.nodes
      (each_weaker (λ n. P (record { node = n.id; rect = buffered_box s.settings.buffer n })) (λ n. Each P (solid_of s.settings.buffer n)) (λ n h. solid_by P n n.group h) s.nodes e)

  solids_on_sheet : Each (λ t. RectIsOnSheet t.rect) (solids s)
  solids_on_sheet =
      each_solid (λ t. RectIsOnSheet t.rect)
      (each_weaker IsNode (λ n. RectIsOnSheet (buffered_box s.settings.buffer n)) (λ n h. buffered_on_sheet s.settings.buffer n h is_buffer) s.nodes (recursion_from_All IsNode s.nodes v.nodes))

  -- the solids of a node are its buffered box
  own_solid : (id : ℤ) (n : Node) → node_with s id ≡ Some n → Each (λ t. t.node ≡ n.id → t.rect ≡ buffered_box s.settings.buffer n) (solids s)
  own_solid id n known =
      let own : n.id ≡ id = key_found id_of int_eq Decides-int_eq id s.nodes n known in
      each_solid (λ t. t.node ≡ n.id → t.rect ≡ buffered_box s.settings.buffer n)
      (each_weaker (λ m. m.id ≡ id → m ≡ n) (λ m. m.id ≡ n.id → buffered_box s.settings.buffer m ≡ buffered_box s.settings.buffer n)
      (λ m only same. ap (buffered_box s.settings.buffer) (only (same ∙ own))) s.nodes
      (only_found id_of int_eq Decides-int_eq id s.nodes n (pairs_from (λ x y. x.id ≢ y.id) s.nodes v.ids_differ) known))

  -- each port of the node is an anchor
  ports_held : (id : ℤ) (class : ℕ) (n : Node) → node_with s id ≡ Some n → Each (λ c. Contains (anchors s) c.port) (choices_of s.settings.buffer n (pins_of_class n class))
  ports_held id class n known =
      let ports = λ (m : Node). map (λ c. c.port) (choices_of s.settings.buffer m (centre_pin ∷ m.pins)) in
      let held = (split_append (Contains (anchors s)) (flat_map ports s.nodes) (flat_map (λ e. e.via) (connectors s)) (recursion_from_All (Contains (anchors s)) (anchors s) (All-contains_itself (anchors s)))).0 in
      each_choice (λ c. Contains (anchors s) c.port) s.settings.buffer n class
      (split_map (Contains (anchors s)) (λ c. c.port) (choices_of s.settings.buffer n (centre_pin ∷ n.pins))
      (found_has (λ m. int_eq m.id id) (λ m. Each (Contains (anchors s)) (ports m)) s.nodes n known (split_flat (Contains (anchors s)) ports s.nodes held)))

  via_held : (e : Edge) → Contains (connectors s) e → All (Contains (anchors s)) e.via
  via_held e has =
      let ports = λ (m : Node). map (λ c. c.port) (choices_of s.settings.buffer m (centre_pin ∷ m.pins)) in
      let held = (split_append (Contains (anchors s)) (flat_map ports s.nodes) (flat_map (λ d. d.via) (connectors s)) (recursion_from_All (Contains (anchors s)) (anchors s) (All-contains_itself (anchors s)))).1 in
      All-from_recursion (Contains (anchors s)) e.via
      (All-contains (λ d. Each (Contains (anchors s)) d.via) (connectors s) e
      (All-from_recursion (λ d. Each (Contains (anchors s)) d.via) (connectors s) (split_flat (Contains (anchors s)) (λ d. d.via) (connectors s) held)) has)

  starts_held : (id : ℤ) (class : ℕ) (n : Node) → node_with s id ≡ Some n → All (λ c. Contains (anchors s) c.port) (choices_with s.settings.buffer class (node_with s id))
  starts_held id class n known =
      subst (All (λ c. Contains (anchors s) c.port)) (sym (choices_at s id class n known))
      (All-from_recursion (λ c. Contains (anchors s) c.port) (choices_of s.settings.buffer n (pins_of_class n class)) (ports_held id class n known))

  -- no port lies inside a solid of its own node
  outside_own : (id : ℤ) (class : ℕ) (n : Node) → node_with s id ≡ Some n
      → All (IsOutside (solids s)) (choices_with s.settings.buffer class (node_with s id))
  outside_own id class n known =
      let P : Choice → Type 0 = IsOutside (solids s) in
      subst (All P) (sym (choices_at s id class n known))
      (All-from_recursion P (choices_of s.settings.buffer n (pins_of_class n class))
      (each_choice P s.settings.buffer n class
      (each_made P s.settings.buffer n
      (λ p d q. All-from_recursion (λ t. t.node ≡ n.id → HasInside t.rect (port (buffered_box s.settings.buffer n) (place_of n p) d) → ⊥) (solids s)
      (each_weaker (λ t. t.node ≡ n.id → t.rect ≡ buffered_box s.settings.buffer n) (λ t. t.node ≡ n.id → HasInside t.rect (port (buffered_box s.settings.buffer n) (place_of n p) d) → ⊥)
      (λ t is same inside. port_outside (buffered_box s.settings.buffer n) (place_of n p) d
      (subst (λ r. HasInside r (port (buffered_box s.settings.buffer n) (place_of n p) d)) (is same) inside))
      (solids s) (own_solid id n known)))
      (is_node id n known))))

  pub holds_task : (e : Edge) → IsEdge s e → Contains (connectors s) e → HoldsTask s e
  holds_task e edge has =
      let source = found_by (node_with s e.from) e.from_class edge.from in
      let target = found_by (node_with s e.to) e.to_class edge.to in
      let ends = outside_own e.to e.to_class target.0 target.1 in
      record {
        task = record { is_task = is_task e edge; starts = outside_own e.from e.from_class source.0 source.1; ends = ends };
        floor = record {
          solids = All-from_recursion (λ t. RectIsOnSheet t.rect) (solids s) solids_on_sheet;
          anchors = record {
            starts = starts_held e.from e.from_class source.0 source.1;
            ends = starts_held e.to e.to_class target.0 target.1;
            via = via_held e has;
          };
          outside = ends;
        };
      }

  is_solid : (n : Node) → IsNode n → IsSolid (record { node = n.id; rect = buffered_box s.settings.buffer n })
  is_solid n h =
      let w = h.half_w in let height = h.half_h in let low = v.settings.buffer in
      record {
        on_sheet = buffered_on_sheet s.settings.buffer n h is_buffer;
        wide = wide n.x n.half_w s.settings.buffer w low;
        high = wide n.y n.half_h s.settings.buffer height low;
      }

  few_solids : (ns : List Node) → length (flat_map (solid_of s.settings.buffer) ns) ≤ length ns
  few_solids [] = omega arith
  few_solids (n ∷ ns) =
      let l = length-append (solid_of s.settings.buffer n) (flat_map (solid_of s.settings.buffer) ns) in
      let one = one_solid n n.group in
      let more = few_solids ns in
      omega (arith, l, one, more)
    where
      one_solid : (n : Node) (b : Bool) → length {A = Solid} (if b then [] else record { node = n.id; rect = buffered_box s.settings.buffer n } ∷ []) ≤ 1
      one_solid n true = omega arith
      one_solid n false = omega arith

  anchors_on_sheet : Each PointIsOnSheet (anchors s)
  anchors_on_sheet =
      let ports = λ (m : Node). map (λ c. c.port) (choices_of s.settings.buffer m (centre_pin ∷ m.pins)) in
      join_append PointIsOnSheet (flat_map ports s.nodes) (flat_map (λ e. e.via) (connectors s))
      (join_flat PointIsOnSheet ports s.nodes
      (each_weaker IsNode (λ m. Each PointIsOnSheet (ports m))
      (λ m h. join_map PointIsOnSheet (λ c. c.port) (choices_of s.settings.buffer m (centre_pin ∷ m.pins))
      (each_made (λ c. PointIsOnSheet c.port) s.settings.buffer m (λ p d q. (is_choice s.settings.buffer m p d h is_buffer q).port) h))
      s.nodes (recursion_from_All IsNode s.nodes v.nodes)))
      (join_flat PointIsOnSheet (λ e. e.via) (connectors s)
      (each_filter (λ e. Each PointIsOnSheet e.via) (λ d. not (is_loop d)) s.edges
      (each_weaker (IsEdge s) (λ e. Each PointIsOnSheet e.via)
      (λ e h. each_weaker IsOnField PointIsOnSheet field_point e.via (recursion_from_All IsOnField e.via h.via))
      s.edges (recursion_from_All (IsEdge s) s.edges v.edges))))

  -- the coordinates at which the lines of a node's box and pins run
  abbrev own_coordinates : Way → Node → List ℤ
  own_coordinates way n =
      first_side way (buffered_box s.settings.buffer n) ∷ last_side way (buffered_box s.settings.buffer n) ∷ map (λ p. across way (place_of n p)) (centre_pin ∷ n.pins)

  abbrev coordinates : Way → List ℤ
  coordinates way = flat_map (own_coordinates way) s.nodes ++ flat_map (λ e. map (across way) e.via) s.edges

  count_own : (way : Way) (ns : List Node) → length (flat_map (own_coordinates way) ns) ≡ 3 * length ns + sum_by (λ n. length n.pins) ns
  count_own way [] = refl
  count_own way (n ∷ ns) =
      let l = length-append (own_coordinates way n) (flat_map (own_coordinates way) ns) in
      let m = length-map n.pins (λ p. across way (place_of n p)) in
      let more = count_own way ns in
      let total = sum_by-cons (λ k. length k.pins) n ns in
      omega (arith, l, m, more, total)

  count_via : (way : Way) (es : List Edge) → length (flat_map (λ e. map (across way) e.via) es) ≡ sum_by (λ e. length e.via) es
  count_via way [] = refl
  count_via way (e ∷ es) =
      let l = length-append (map (across way) e.via) (flat_map (λ d. map (across way) d.via) es) in
      let m = length-map e.via (across way) in
      let more = count_via way es in
      let total = sum_by-cons (λ d. length d.via) e es in
      omega (arith, l, m, more, total)

  few_coordinates : (way : Way) → length (coordinates way) ≤ 1280
  few_coordinates way =
      let l = length-append (flat_map (own_coordinates way) s.nodes) (flat_map (λ e. map (across way) e.via) s.edges) in
      let own = count_own way s.nodes in
      let via = count_via way s.edges in
      let nodes = v.few_nodes in let pins = v.few_pins in let few = v.few_via in
      omega (arith, l, own, via, nodes, pins, few)

  -- a port stands at a side's coordinate or at its pin's
  port_at : (way : Way) (n : Node) (p : Pin) (zs : List ℤ) (d : Dir) → Contains zs (first_side way (buffered_box s.settings.buffer n)) → Contains zs (last_side way (buffered_box s.settings.buffer n))
      → Contains zs (across way (place_of n p)) → Contains zs (across way (choice s.settings.buffer n p d).port)
  port_at Vertical n p zs East first last own = last
  port_at Vertical n p zs South first last own = own
  port_at Vertical n p zs West first last own = first
  port_at Vertical n p zs North first last own = own
  port_at Horizontal n p zs East first last own = own
  port_at Horizontal n p zs South first last own = last
  port_at Horizontal n p zs West first last own = own
  port_at Horizontal n p zs North first last own = first

  ports_at : (way : Way) (n : Node) (zs : List ℤ) → Each (Contains zs) (own_coordinates way n)
      → Each (λ p. Contains zs (across way p)) (map (λ c. c.port) (choices_of s.settings.buffer n (centre_pin ∷ n.pins)))
  ports_at way n zs h =
      let P : Choice → Type 0 = λ c. Contains zs (across way c.port) in
      join_map (λ p. Contains zs (across way p)) (λ c. c.port) (choices_of s.settings.buffer n (centre_pin ∷ n.pins))
      (join_flat P (λ p. map (choice s.settings.buffer n p) (directions p.dirs)) (centre_pin ∷ n.pins)
      (each_weaker (λ p. Contains zs (across way (place_of n p))) (λ p. Each P (map (choice s.settings.buffer n p) (directions p.dirs)))
      (λ p own. join_map P (choice s.settings.buffer n p) (directions p.dirs) (each_of (λ d. P (choice s.settings.buffer n p d)) (λ d. port_at way n p zs d h.0 h.1.0 own) (directions p.dirs)))
      (centre_pin ∷ n.pins) (split_map (Contains zs) (λ p. across way (place_of n p)) (centre_pin ∷ n.pins) h.1.1)))

  has_coordinates : (way : Way) → HasCoordinates (floor_of s) way (coordinates way)
  has_coordinates way =
      let zs : List ℤ = coordinates way in
      let all = split_append (Contains zs) (flat_map (own_coordinates way) s.nodes) (flat_map (λ e. map (across way) e.via) s.edges) (recursion_from_All (Contains zs) zs (All-contains_itself zs)) in
      let own = split_flat (Contains zs) (own_coordinates way) s.nodes all.0 in
      let via = split_flat (Contains zs) (λ e. map (across way) e.via) s.edges all.1 in
      let ports = λ (m : Node). map (λ c. c.port) (choices_of s.settings.buffer m (centre_pin ∷ m.pins)) in
      record {
        first_sides = All-from_recursion (λ t. Contains zs (first_side way t.rect)) (solids s)
            (each_solid (λ t. Contains zs (first_side way t.rect)) (each_weaker (λ n. Each (Contains zs) (own_coordinates way n)) (λ n. Contains zs (first_side way (buffered_box s.settings.buffer n))) (λ n h. h.0) s.nodes own));
        last_sides = All-from_recursion (λ t. Contains zs (last_side way t.rect)) (solids s)
            (each_solid (λ t. Contains zs (last_side way t.rect)) (each_weaker (λ n. Each (Contains zs) (own_coordinates way n)) (λ n. Contains zs (last_side way (buffered_box s.settings.buffer n))) (λ n h. h.1.0) s.nodes own));
        anchors = All-from_recursion (λ p. Contains zs (across way p)) (anchors s)
            (join_append (λ p. Contains zs (across way p)) (flat_map ports s.nodes) (flat_map (λ e. e.via) (connectors s))
            (join_flat (λ p. Contains zs (across way p)) ports s.nodes
            (each_weaker (λ n. Each (Contains zs) (own_coordinates way n)) (λ n. Each (λ p. Contains zs (across way p)) (ports n)) (λ n h. ports_at way n zs h) s.nodes own))
            (join_flat (λ p. Contains zs (across way p)) (λ e. e.via) (connectors s)
            (each_filter (λ e. Each (λ p. Contains zs (across way p)) e.via) (λ d. not (is_loop d)) s.edges
            (each_weaker (λ e. Each (Contains zs) (map (across way) e.via)) (λ e. Each (λ p. Contains zs (across way p)) e.via) (λ e h. split_map (Contains zs) (across way) e.via h) s.edges via))));
      }

  pub is_floor : IsFloor (floor_of s)
  is_floor = record {
    solids = All-from_recursion IsSolid (solids s)
        (each_solid IsSolid (each_weaker IsNode (λ n. IsSolid (record { node = n.id; rect = buffered_box s.settings.buffer n })) is_solid s.nodes (recursion_from_All IsNode s.nodes v.nodes)));
    anchors = All-from_recursion PointIsOnSheet (anchors s) anchors_on_sheet;
    few = let l = few_solids s.nodes in let few = v.few_nodes in omega (arith, l, few);
    coordinates = λ way. (coordinates way, few_coordinates way, has_coordinates way);
  }

-- a connector is an edge of the scene
connector_is : (s : Scene) (v : IsValid s) (e : Edge) → Contains (connectors s) e → IsEdge s e
connector_is s v e has = All-contains (IsEdge s) (connectors s) e (All-filter (λ d. not (is_loop d)) (IsEdge s) s.edges v.edges) has

pub floors_hold_tasks : FloorsHoldTasks
floors_hold_tasks s e v has = holds_task s v e (connector_is s v e has) has

pub floors_fit : FloorsFit
floors_fit s v = is_floor s v
