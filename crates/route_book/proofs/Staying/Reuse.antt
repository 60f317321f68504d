-- The answer of a connector that is not stale is right in the new scene.
use Rattle.std.proofs.Common.{◌≡◌, ◌⊎◌, inl, inr, ℕ, zero, suc, ◌<◌, ◌≤◌, ℤ, Bool, true, false, eqb, cond, Option, Some, None, List, [], ◌∷◌, ◌++◌, map, refl, sym, ap, subst, ◌∙◌, arith, int_eq, true≢false, le_of_suc-le-suc, ◌==◌}
use Rattle.std.specs.Prelude.{◌+ℤ◌, ◌-ℤ◌, unsigned_abs, Contains, find, filter, not, slice_get, option_map, if◌then◌else◌}
use Rattle.std.specs.List.{AllByRecursion as Each, AllZip, flat_map}
use Rattle.std.proofs.lemmas.Int.{ints}
use Rattle.std.proofs.lemmas.Option.{none-some, same_Some}
use Rattle.std.proofs.lemmas.Bool.Decides.{Decides-int_eq, Decides-eqb}
use Rattle.std.proofs.lemmas.List.Elements.{recursion_from_All, All-contains_itself}
use Rattle.plane_geom.specs.declared.rect.Rect.{Rect}
use Rattle.plane_geom.specs.declared.rect.Solid.{Solid}
use Rattle.plane_geom.specs.Rect.{grown}
use Rattle.walk_model.specs.declared.task.Choice.{Choice}
use Rattle.walk_model.specs.declared.route.Answer.{Answer}
use Rattle.walk_model.specs.declared.route.Route.{Route}
use Rattle.walk_model.specs.Order.{Triple, IsRouteOf, triple_cost}
use Rattle.walk_model.specs.Answers.{IsAnswer}
use Rattle.scene_model.specs.declared.node.Node.{Node}
use Rattle.scene_model.specs.declared.edge.Edge.{Edge}
use Rattle.scene_model.specs.declared.pin.Pin.{Pin}
use Rattle.scene_model.specs.Scene.{Scene, node_with, edge_with, connectors, is_loop}
use Rattle.scene_model.specs.Valid.{IsValid}
use Rattle.scene_model.specs.Routing.{box, solids, centre_pin, pins_of_class, place_of, port, choice, directions, choices_of, choices_with, task_of}
use Rattle.scene_model.specs.Answers.{IsAnswerOf, AreAnswers}
use Rattle.scene_model.specs.Stale.{Shape, shape, looks, answer_of, IsPinOf, IsOpen, IsLengthBy}
use Rattle.scene_model.specs.Stale as scene
use Rattle.scene_model.proofs.Editing.Entries.{found_cases, found_has, key_found, only_found, each_filter, each_weaker, found_passes, none_passes}
use Rattle.scene_model.proofs.Editing.Nodes.{id_of}
use Rattle.scene_model.proofs.Editing.Edges.{number_of, numbers_differ}
use Rattle.scene_model.proofs.ForRouting.Floors.{join_flat, join_map}
use Rattle.route_book.proofs.Staying.Stays.{IsReachedBy, MeetsNone}
use Rattle.route_book.specs.Kept.{CurrentAnswersStay}
use Rattle.route_book.proofs.Staying.Kept.{stays_first, stays_none}

-- solids are equal or they are not
dec_and : {P Q R : Type 0} → (P ⊎ (P → ⊥)) → (Q ⊎ (Q → ⊥)) → (P → Q → R) → (R → P) → (R → Q) → R ⊎ (R → ⊥)
dec_and (inl p) (inl q) make left right = inl (make p q)
dec_and (inl p) (inr n) make left right = inr (λ r. n (right r))
dec_and (inr n) q make left right = inr (λ r. n (left r))

int_dec_by : (a b : ℤ) (t : Bool) → int_eq a b ≡ t → (a ≡ b) ⊎ (a ≡ b → ⊥)
int_dec_by a b true e = inl ((Decides-int_eq a b).0 e)
int_dec_by a b false e = inr (λ h. true≢false (sym ((Decides-int_eq a b).1 h) ∙ e))

int_dec : (a b : ℤ) → (a ≡ b) ⊎ (a ≡ b → ⊥)
int_dec a b = int_dec_by a b (int_eq a b) refl

solid_dec : (s t : Solid) → (s ≡ t) ⊎ (s ≡ t → ⊥)
solid_dec s t =
    dec_and {P = s.node ≡ t.node} {Q = s.rect ≡ t.rect} (int_dec s.node t.node)
    (dec_and {P = (s.rect.left ≡ t.rect.left) × (s.rect.top ≡ t.rect.top)} {Q = (s.rect.right ≡ t.rect.right) × (s.rect.bottom ≡ t.rect.bottom)}
    (dec_and {P = s.rect.left ≡ t.rect.left} {Q = s.rect.top ≡ t.rect.top} (int_dec s.rect.left t.rect.left) (int_dec s.rect.top t.rect.top) (λ p q. (p, q)) (λ r. r.0) (λ r. r.1))
    (dec_and {P = s.rect.right ≡ t.rect.right} {Q = s.rect.bottom ≡ t.rect.bottom} (int_dec s.rect.right t.rect.right) (int_dec s.rect.bottom t.rect.bottom) (λ p q. (p, q)) (λ r. r.0) (λ r. r.1))
    (λ p q. λ i. record { left = p.0 i; top = p.1 i; right = q.0 i; bottom = q.1 i })
    (λ r. (ap (λ z. z.left) r, ap (λ z. z.top) r)) (λ r. (ap (λ z. z.right) r, ap (λ z. z.bottom) r)))
    (λ p q. λ i. record { node = p i; rect = q i }) (λ r. ap (λ z. z.node) r) (λ r. ap (λ z. z.rect) r)

not_later : (x : Solid) (xs : List Solid) (s : Solid) → (x ≡ s → ⊥) → (Contains xs s → ⊥) → Contains (x ∷ xs) s → ⊥
not_later x xs s n m (zero, l, e) = n e
not_later x xs s n m (suc k, l, e) = m (k, le_of_suc-le-suc l, e)

contains_by : (x : Solid) (xs : List Solid) (s : Solid) → (x ≡ s) ⊎ (x ≡ s → ⊥) → Contains xs s ⊎ (Contains xs s → ⊥) → Contains (x ∷ xs) s ⊎ (Contains (x ∷ xs) s → ⊥)
contains_by x xs s (inl e) r = inl (0, omega arith, e)
contains_by x xs s (inr n) (inl (k, l, e)) = inl (suc k, omega (arith, l), e)
contains_by x xs s (inr n) (inr m) = inr (not_later x xs s n m)

contains_dec : (xs : List Solid) (s : Solid) → Contains xs s ⊎ (Contains xs s → ⊥)
contains_dec [] s = inr (λ h. let l : h.0 < 0 = h.1 in absurd (omega (arith, l)))
contains_dec (x ∷ xs) s = contains_by x xs s (solid_dec x s) (contains_dec xs s)

-- the choices of a class, from the data of a node that a search uses
made : ℤ → ℕ → ℤ → ℤ → ℤ → Rect → List Pin → List Choice
made b class id x y r pins =
    flat_map (λ p. map (λ d. record { node = id; pin = record { x = x +ℤ p.dx; y = y +ℤ p.dy }; dir = d; port = port (grown r b) (record { x = x +ℤ p.dx; y = y +ℤ p.dy }) d; cost = unsigned_abs p.cost }) (directions p.dirs))
    (if class == 0 then centre_pin ∷ [] else filter (λ p. p.class == class) pins)

as_made : (b : ℤ) (n : Node) (class : ℕ) → choices_of b n (pins_of_class n class) ≡ made b class n.id n.x n.y (box n) n.pins
unfolding made
as_made b n class = refl

same_made : (b : ℤ) (class : ℕ) (n m : Node) → n.id ≡ m.id → box n ≡ box m → n.pins ≡ m.pins → choices_of b n (pins_of_class n class) ≡ choices_of b m (pins_of_class m class)
same_made b class n m id rect pins =
    let left : n.x -ℤ n.half_w ≡ m.x -ℤ m.half_w = ap (λ r. r.left) rect in
    let right : n.x +ℤ n.half_w ≡ m.x +ℤ m.half_w = ap (λ r. r.right) rect in
    let top : n.y -ℤ n.half_h ≡ m.y -ℤ m.half_h = ap (λ r. r.top) rect in
    let bottom : n.y +ℤ n.half_h ≡ m.y +ℤ m.half_h = ap (λ r. r.bottom) rect in
    let x : n.x ≡ m.x = omega (arith, ints, left, right) in
    let y : n.y ≡ m.y = omega (arith, ints, top, bottom) in
    as_made b n class ∙ (λ i. made b class (id i) (x i) (y i) (rect i) (pins i)) ∙ sym (as_made b m class)

shape_of : Node → Shape
shape_of n = record { rect = box n; group = n.group; pins = n.pins }

same_by : (b : ℤ) (class : ℕ) (o p : Option Node) → ((n m : Node) → o ≡ Some n → p ≡ Some m → n.id ≡ m.id)
    → option_map (λ n. record { rect = box n; group = n.group; pins = n.pins }) o ≡ option_map {U = Shape} (λ n. record { rect = box n; group = n.group; pins = n.pins }) p → choices_with b class o ≡ choices_with b class p
same_by b class None None ids e = refl
same_by b class None (Some m) ids e = absurd (none-some _ e)
same_by b class (Some n) None ids e = absurd (none-some _ (sym e))
same_by b class (Some n) (Some m) ids e =
    let s = same_Some _ _ e in same_made b class n m (ids n m refl refl) (ap (λ z. z.rect) s) (ap (λ z. z.pins) s)

-- where the node looks the same, so do the choices
same_choices : (old new : Scene) (b : ℤ) (class : ℕ) (id : ℤ) → shape old id ≡ shape new id → choices_with b class (node_with old id) ≡ choices_with b class (node_with new id)
same_choices old new b class id e =
    same_by b class (node_with old id) (node_with new id)
    (λ n m there here. key_found id_of int_eq Decides-int_eq id old.nodes n there ∙ sym (key_found id_of int_eq Decides-int_eq id new.nodes m here)) e

-- the task of the edge as it was is that of the new edge in the old scene
old_task : (old new : Scene) (was e : Edge) → looks old was ≡ looks new e → task_of old was ≡ task_of old e
old_task old new was e same =
    λ i. record {
      starts = choices_with old.settings.buffer (same i).from_class (node_with old (same i).from);
      ends = choices_with old.settings.buffer (same i).to_class (node_with old (same i).to);
      via = (same i).via;
      penalty = unsigned_abs old.settings.penalty;
    }

-- and that is its task in the new scene
new_task : (old new : Scene) (was e : Edge) → looks old was ≡ looks new e → old.settings.penalty ≡ new.settings.penalty → task_of old e ≡ task_of new e
new_task old new was e same penalty =
    let from : was.from ≡ e.from = ap (λ l. l.from) same in
    let to : was.to ≡ e.to = ap (λ l. l.to) same in
    let buffer : old.settings.buffer ≡ new.settings.buffer = ap (λ l. l.buffer) same in
    let source : shape old was.from ≡ shape new e.from = ap (λ l. l.source) same in
    let target : shape old was.to ≡ shape new e.to = ap (λ l. l.target) same in
    let starts = ap (λ b. choices_with b e.from_class (node_with old e.from)) buffer ∙ same_choices old new new.settings.buffer e.from_class e.from (ap (shape old) (sym from) ∙ source) in
    let ends = ap (λ b. choices_with b e.to_class (node_with old e.to)) buffer ∙ same_choices old new new.settings.buffer e.to_class e.to (ap (shape old) (sym to) ∙ target) in
    λ i. record { starts = starts i; ends = ends i; via = e.via; penalty = unsigned_abs (penalty i) }

-- the answer of the edge as it was
zip_by : (s : Scene) (k : ℕ) (x : Edge) (y a : Answer) (xs : List Edge) (ys : List Answer) → IsAnswerOf s x y
    → cond (y.edge == k) (Some y) (find (λ z. z.edge == k) ys) ≡ Some a
    → (find (λ z. z.edge == k) ys ≡ Some a → (d : Edge) × (find (λ z. z.number == k) xs ≡ Some d) × IsAnswerOf s d a)
    → (d : Edge) × (cond (x.number == k) (Some x) (find (λ z. z.number == k) xs) ≡ Some d) × IsAnswerOf s d a
zip_by s k x y a xs ys h found later = elim (found_cases (y.edge == k) y a (find (λ z. z.edge == k) ys) found) as (λ _. (d : Edge) × (cond (x.number == k) (Some x) (find (λ z. z.number == k) xs) ≡ Some d) × IsAnswerOf s d a) [
  | inl c ↦ (x, ap (λ b. cond b (Some x) (find (λ z. z.number == k) xs)) (ap (λ z. z == k) (sym h.edge) ∙ c.0), subst (IsAnswerOf s x) c.1 h)
  | inr c ↦ let r = later c.1 in (r.0, ap (λ b. cond b (Some x) (find (λ z. z.number == k) xs)) (ap (λ z. z == k) (sym h.edge) ∙ c.0) ∙ r.1, r.2)
]

zip_found : (s : Scene) (k : ℕ) (a : Answer) (xs : List Edge) (ys : List Answer) → AllZip (IsAnswerOf s) xs ys → find (λ z. z.edge == k) ys ≡ Some a
    → (d : Edge) × (find (λ z. z.number == k) xs ≡ Some d) × IsAnswerOf s d a
zip_found s k a [] [] h found = absurd (none-some _ found)
zip_found s k a [] (y ∷ ys) h found = absurd h
zip_found s k a (x ∷ xs) [] h found = absurd h
zip_found s k a (x ∷ xs) (y ∷ ys) h found = zip_by s k x y a xs ys h.0 found (zip_found s k a xs ys h.1)

pub was_answered : (old : Scene) (answers : List Answer) (k : ℕ) (was : Edge) (a : Answer) → IsValid old → AreAnswers old answers → edge_with old k ≡ Some was → answer_of answers k ≡ Some a → IsAnswerOf old was a
was_answered old answers k was a v right known found =
    let d = zip_found old k a (connectors old) answers right found in
    let only = each_filter (λ z. z.number ≡ k → z ≡ was) (λ z. not (is_loop z)) old.edges (only_found number_of eqb Decides-eqb k old.edges was (numbers_differ old v) known) in
    let same = found_has (λ z. z.number == k) (λ z. z.number ≡ k → z ≡ was) (connectors old) d.0 d.1 only (key_found number_of eqb Decides-eqb k (connectors old) d.0 d.1) in
    subst (λ z. IsAnswerOf old z a) same d.2

there_by : (old : Scene) (k : ℕ) (d : Edge) (o : Option Edge) → edge_with old k ≡ o → find (λ z. z.number == k) (connectors old) ≡ Some d → (was : Edge) × (edge_with old k ≡ Some was)
there_by old k d (Some was) e found = (was, e)
there_by old k d None e found =
    let none = each_filter (λ z. (z.number == k) ≡ false) (λ z. not (is_loop z)) old.edges (none_passes (λ z. z.number == k) old.edges e) in
    absurd (true≢false (sym (found_passes (λ z. z.number == k) (connectors old) d found) ∙ found_has (λ z. z.number == k) (λ z. (z.number == k) ≡ false) (connectors old) d found none))

-- an edge that has an answer was in the old scene
pub answered_edge : (old : Scene) (answers : List Answer) (k : ℕ) (a : Answer) → AreAnswers old answers → answer_of answers k ≡ Some a → (was : Edge) × (edge_with old k ≡ Some was)
answered_edge old answers k a right found = let d = zip_found old k a (connectors old) answers right found in there_by old k d.0 (edge_with old k) refl d.1

-- a choice comes from a pin
record ComesFrom (s : Scene) (id : ℤ) (class : ℕ) (c : Choice) : Type 0 where
  node : Node
  pin : Pin
  is_pin : IsPinOf s id class node pin
  place : c.pin ≡ place_of node pin
  cost : c.cost ≡ unsigned_abs pin.cost

each_of : {X : Type 0} (P : X → Type 0) → ((x : X) → P x) → (xs : List X) → Each P xs
each_of P h [] = tt
each_of P h (x ∷ xs) = (h x, each_of P h xs)

come_by : (s : Scene) (b : ℤ) (id : ℤ) (class : ℕ) (o : Option Node) → node_with s id ≡ o → Each (ComesFrom s id class) (choices_with b class o)
come_by s b id class None known = tt
come_by s b id class (Some n) known =
    join_flat (ComesFrom s id class) (λ p. map (choice b n p) (directions p.dirs)) (pins_of_class n class)
    (each_weaker (Contains (pins_of_class n class)) (λ p. Each (ComesFrom s id class) (map (choice b n p) (directions p.dirs)))
    (λ p has. join_map (ComesFrom s id class) (choice b n p) (directions p.dirs)
    (each_of (λ d. ComesFrom s id class (choice b n p d)) (λ d. record { node = n; pin = p; is_pin = (known, has); place = refl; cost = refl }) (directions p.dirs)))
    (pins_of_class n class) (recursion_from_All (Contains (pins_of_class n class)) (pins_of_class n class) (All-contains_itself (pins_of_class n class))))

each_at : {X : Type 0} (P : X → Type 0) (xs : List X) (i : ℕ) (x : X) → Each P xs → slice_get xs i ≡ Some x → P x
each_at P [] i x e h = absurd (none-some _ h)
each_at P (y ∷ ys) zero x e h = subst P (same_Some _ _ h) e.0
each_at P (y ∷ ys) (suc i) x e h = each_at P ys i x e.1 h

-- what is within reach by the task is within reach by the scene too
scene_reached : (s : Scene) (e : Edge) (r : Rect) (m n : ℕ) → m ≤ n → IsReachedBy (task_of s e) r m → scene.IsWithinReach s e r n
scene_reached s e r m n l h =
    let source = each_at (ComesFrom s e.from e.from_class) (task_of s e).starts h.i h.start (come_by s s.settings.buffer e.from e.from_class (node_with s e.from) refl) h.is_start in
    let target = each_at (ComesFrom s e.to e.to_class) (task_of s e).ends h.j h.end (come_by s s.settings.buffer e.to e.to_class (node_with s e.to) refl) h.is_end in
    let first = source.cost in
    let last = target.cost in
    let reached = h.reached in
    record {
      source = source.node;
      target = target.node;
      start = source.pin;
      end = target.pin;
      is_start = source.is_pin;
      is_end = target.is_pin;
      by = h.by;
      within = h.within;
      way = h.way;
      is_way = subst (λ p. IsLengthBy h.by p (e.via ++ place_of target.node target.pin ∷ []) h.way) source.place (subst (λ p. IsLengthBy h.by h.start.pin (e.via ++ p ∷ []) h.way) target.place h.is_way);
      reached = omega (arith, first, last, reached, l);
    }

module _ (old new : Scene) (e : Edge) where
  added_by : (r : Route) (t : Triple) → IsRouteOf (task_of old e) r t → (IsOpen old new e (Some r) → ⊥) → (s : Solid) → Contains (solids new) s
      → Contains (solids old) s ⊎ (Contains (solids old) s → ⊥) → Contains (solids old) s ⊎ MeetsNone s.rect t.walk
  added_by r t route closed s has (inl there) = inl there
  added_by r t route closed s has (inr gone) =
      inr (λ k within meets. closed (inl (s, record { was = has; gone = gone }, record { walk = t.walk; draws = route.draws; k = k; within = within; meets = meets })))

  removed_by : (r : Route) (t : Triple) → IsRouteOf (task_of old e) r t → (IsOpen old new e (Some r) → ⊥) → (s : Solid) → Contains (solids old) s
      → Contains (solids new) s ⊎ (Contains (solids new) s → ⊥) → Contains (solids new) s ⊎ (IsReachedBy (task_of old e) s.rect (triple_cost (task_of old e) t) → ⊥)
  removed_by r t route closed s has (inl there) = inl there
  removed_by r t route closed s has (inr gone) =
      inr (λ reached. closed (inr (s, record { was = has; gone = gone }, scene_reached old e s.rect (triple_cost (task_of old e) t) r.cost (let same = route.cost in omega (arith, same)) reached)))

  kept_by : (s : Solid) → (IsOpen old new e None → ⊥) → Contains (solids old) s → Contains (solids new) s ⊎ (Contains (solids new) s → ⊥) → Contains (solids new) s
  kept_by s closed has (inl there) = there
  kept_by s closed has (inr gone) = absurd (closed (s, record { was = has; gone = gone }))

  answer_stays : (route : Option Route) → IsAnswer (solids old) (task_of old e) route → (IsOpen old new e route → ⊥) → IsAnswer (solids new) (task_of old e) route
  answer_stays None none closed = stays_none (solids old) (solids new) (task_of old e) none (λ s has. kept_by s closed has (contains_dec (solids new) s))
  answer_stays (Some r) (t, first, route) closed = (
    t,
    stays_first (solids old) (solids new) (task_of old e) t first (record {
      added = λ s has. added_by r t route closed s has (contains_dec (solids old) s);
      removed = λ s has. removed_by r t route closed s has (contains_dec (solids new) s);
    }),
    route,
  )

pub answers_stay : CurrentAnswersStay
answers_stay old new answers e v w right c =
    let was = was_answered old answers e.number c.was c.answer v right c.is_was c.is_answer in
    let own = key_found (λ (a : Answer). a.edge) eqb Decides-eqb e.number answers c.answer c.is_answer in
    record {
      edge = own;
      route = subst (λ t. IsAnswer (solids new) t c.answer.route) (new_task old new c.was e c.looks_same c.bends_cost_the_same)
          (answer_stays old new e c.answer.route (subst (λ t. IsAnswer (solids old) t c.answer.route) (old_task old new c.was e c.looks_same) was.route) c.is_closed);
    }
