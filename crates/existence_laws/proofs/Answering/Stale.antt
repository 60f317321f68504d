-- Each connector of a scene is stale after an edit, or its answer may be kept.
use Rattle.std.proofs.Common.{◌≡◌, ◌⊎◌, inl, inr, ℕ, ◌+◌, ◌<◌, ◌≤◌, ℤ, ◌≤ℤ◌, Option, Some, None, List, [], ◌∷◌, ◌++◌, length, refl, sym, ap, ◌∙◌, subst, cond, false, ◌==◌, arith}
use Rattle.std.proofs.Math.Decide.{map_dec, dec_le}
use Rattle.std.proofs.Math.IntN.{ℤ_discrete}
use Rattle.std.specs.Prelude.{unsigned_abs, Contains, find, not}
use Rattle.std.specs.List.{AllByRecursion as Each, AllZip}
use Rattle.std.proofs.lemmas.Option.{none-some, same_Some}
use Rattle.plane_geom.specs.declared.point.Point.{Point}
use Rattle.plane_geom.specs.declared.rect.Rect.{Rect}
use Rattle.plane_geom.specs.declared.rect.Solid.{Solid}
use Rattle.plane_geom.specs.Point.{distance}
use Rattle.walk_model.specs.declared.route.Answer.{Answer}
use Rattle.walk_model.specs.declared.route.Route.{Route}
use Rattle.walk_model.specs.Walk.{MeetsAt, point_at, step_at}
use Rattle.walk_model.specs.Line.{AreStraight, steps_through, walk_through}
use Rattle.scene_model.specs.declared.node.Node.{Node}
use Rattle.scene_model.specs.declared.edge.Edge.{Edge}
use Rattle.scene_model.specs.declared.pin.Pin.{Pin}
use Rattle.scene_model.specs.Scene.{Scene, node_with, edge_with, connectors, is_loop}
use Rattle.scene_model.specs.Routing.{pins_of_class, place_of, solids}
use Rattle.scene_model.specs.Answers.{IsAnswerOf, AreAnswers}
use Rattle.scene_model.specs.Stale.{IsStale, is_new, looks_different, bends_cost_otherwise, is_open, IsCurrent, IsOpen, IsRemoved, IsLengthBy, IsWithinReach, LineMeets, ArePicked, answer_of, looks, way_length}
use Rattle.scene_model.proofs.Editing.Entries.{each_filter, none_passes}
use Rattle.existence_laws.specs.Answers.{HaveStaleLists}
use Rattle.existence_laws.proofs.Deciding.Decided.{both, contained, denied, one_of, some_below, some_between, some_in}
use Rattle.existence_laws.proofs.Deciding.Alike.{same_looks, same_solid}
use Rattle.existence_laws.proofs.Walking.Lines.{step_decided, straight_decided}

-- whether a step of a line meets a rectangle
line_decided : (r : Rect) (points : List Point) → Dec (LineMeets r points)
line_decided r [] = no (λ m. m.draws)
line_decided r (p ∷ qs) =
    let w = walk_through p qs in
    map_dec {A = AreStraight p qs × ((k : ℕ) × (k < length (steps_through p qs)) × MeetsAt r w k)}
    (λ h. record { walk = w; draws = (h.0, refl); k = h.1.0; within = h.1.1; meets = h.1.2 })
    (λ m. (m.draws.0, subst (λ v. (k : ℕ) × (k < length v.steps) × MeetsAt r v k) m.draws.1 (m.k, m.within, m.meets)))
    (both (straight_decided p qs)
    (some_below (length (steps_through p qs)) (MeetsAt r w) (λ k. step_decided r (point_at w k) (step_at w k))))

-- whether a way by the point is short enough
way_decided : (by p : Point) (qs : List Point) (cost most : ℕ) → Dec ((way : ℕ) × IsLengthBy by p qs way × (cost + way ≤ most))
way_decided by p [] cost most = no (λ h. h.1)
way_decided by p (q ∷ qs) cost most =
    let first = distance p by + distance by q + way_length q qs in
    let after = distance p q in
    map_dec {A = (cost + first ≤ most) ⊎ ((way : ℕ) × IsLengthBy by q qs way × ((cost + after) + way ≤ most))}
    (λ h. elim h as (λ _. (way : ℕ) × IsLengthBy by p (q ∷ qs) way × (cost + way ≤ most)) [
      | inl l ↦ (first, inl refl, l)
      | inr g ↦ (let l : (cost + after) + g.0 ≤ most = g.2 in (after + g.0, inr (g.0, g.1, refl), omega arith))
    ])
    (λ h. let l : cost + h.0 ≤ most = h.2 in elim h.1 as (λ _. (cost + first ≤ most) ⊎ ((way : ℕ) × IsLengthBy by q qs way × ((cost + after) + way ≤ most))) [
      | inl e ↦ inl (omega (arith, e, l))
      | inr g ↦ (let e : h.0 ≡ after + g.0 = g.2 in inr (g.0, g.1, omega (arith, e, l)))
    ])
    (one_of (dec_le (cost + first) most) (way_decided by q qs (cost + after) most))

module _ (s : Scene) (e : Edge) (r : Rect) (cost : ℕ) where
  -- a way from one pin to another is short enough, and goes by a point of the rectangle
  IsBy : Node → Node → Pin → Pin → Point → Type 0
  IsBy source target start end by = (way : ℕ) × IsLengthBy by (place_of source start) (e.via ++ place_of target end ∷ []) way × (unsigned_abs start.cost + unsigned_abs end.cost + way ≤ cost)

  Between : Node → Node → Type 0
  Between source target =
      (start : Pin) × Contains (pins_of_class source e.from_class) start
      × ((end : Pin) × Contains (pins_of_class target e.to_class) end
      × ((x : ℤ) × (r.left ≤ℤ x) × (x ≤ℤ r.right) × ((y : ℤ) × (r.top ≤ℤ y) × (y ≤ℤ r.bottom) × IsBy source target start end (record { x = x; y = y }))))

  between_decided : (source target : Node) → Dec (Between source target)
  unfolding Between IsBy
  between_decided source target =
      some_in _ (λ start. some_in _ (λ end.
      some_between r.left r.right _ (λ x. some_between r.top r.bottom _ (λ y.
      way_decided (record { x = x; y = y }) (place_of source start) (e.via ++ place_of target end ∷ []) (unsigned_abs start.cost + unsigned_abs end.cost) cost)))
      (pins_of_class target e.to_class)) (pins_of_class source e.from_class)

  reach_by : (source target : Option Node) → node_with s e.from ≡ source → node_with s e.to ≡ target → Dec (IsWithinReach s e r cost)
  unfolding Between IsBy
  reach_by None target h k = no (λ w. none-some _ (sym h ∙ w.is_start.0))
  reach_by (Some source) None h k = no (λ w. none-some _ (sym k ∙ w.is_end.0))
  reach_by (Some source) (Some target) h k = map_dec
      (λ b. record {
        source = source;
        target = target;
        start = b.0;
        end = b.2.0;
        is_start = (h, b.1);
        is_end = (k, b.2.1);
        by = record { x = b.2.2.0; y = b.2.2.3.0 };
        within = record { left = b.2.2.1; right = b.2.2.2; top = b.2.2.3.1; bottom = b.2.2.3.2 };
        way = b.2.2.3.3.0;
        is_way = b.2.2.3.3.1;
        reached = b.2.2.3.3.2;
      })
      (λ w.
      let from : w.source ≡ source = same_Some _ _ (sym w.is_start.0 ∙ h) in
      let to : w.target ≡ target = same_Some _ _ (sym w.is_end.0 ∙ k) in
      let within = w.within in
      subst (λ n. Between n target) from (subst (Between w.source) to
      (w.start, w.is_start.1, (w.end, w.is_end.1, (w.by.x, within.left, within.right, (w.by.y, within.top, within.bottom, (w.way, w.is_way, w.reached)))))))
      (between_decided source target)

  pub reach_decided : Dec (IsWithinReach s e r cost)
  reach_decided = reach_by (node_with s e.from) (node_with s e.to) refl refl

-- whether one scene has a solid with a property that the other has not
removed_decided : (old new : Scene) (P : Solid → Type 0) → ((s : Solid) → Dec (P s)) → Dec ((s : Solid) × IsRemoved old new s × P s)
removed_decided old new P each = map_dec
    (λ h. (h.0, record { was = h.1; gone = h.2.0 }, h.2.1))
    (λ h. (h.0, h.1.was, (h.1.gone, h.2)))
    (some_in (λ s. (Contains (solids new) s → ⊥) × P s) (λ s. both (denied (contained same_solid (solids new) s)) (each s)) (solids old))

open_decided : (old new : Scene) (e : Edge) (route : Option Route) → Dec (IsOpen old new e route)
open_decided old new e None = map_dec (λ h. (h.0, h.1)) (λ h. (h.0, h.1, tt)) (removed_decided old new (λ s. Unit {0}) (λ s. yes tt))
open_decided old new e (Some r) = one_of
    (removed_decided new old (λ s. LineMeets s.rect r.points) (λ s. line_decided s.rect r.points))
    (removed_decided old new (λ s. IsWithinReach old e s.rect r.cost) (λ s. reach_decided old e s.rect r.cost))

-- no answer has a number that no edge has
none_found : (s : Scene) (k : ℕ) (es : List Edge) (answers : List Answer) → AllZip (IsAnswerOf s) es answers → Each (λ e. (e.number == k) ≡ false) es → find (λ a. a.edge == k) answers ≡ None
none_found s k [] [] zip each = refl
none_found s k [] (a ∷ answers) zip each = absurd zip
none_found s k (e ∷ es) [] zip each = absurd zip
none_found s k (e ∷ es) (a ∷ answers) zip each =
    ap (λ b. cond b (Some a) (find (λ z. z.edge == k) answers)) (ap (λ z. z == k) zip.0.edge ∙ each.0) ∙ none_found s k es answers zip.1 each.1

answered_edge : (s : Scene) (answers : List Answer) (k : ℕ) (a : Answer) → AreAnswers s answers → answer_of answers k ≡ Some a → (was : Edge) × (edge_with s k ≡ Some was)
answered_edge s answers k a right found = by_edge (edge_with s k) refl
  where
    by_edge : (was : Option Edge) → edge_with s k ≡ was → (was : Edge) × (edge_with s k ≡ Some was)
    by_edge (Some was) h = (was, h)
    by_edge None h =
        let none = none_found s k (connectors s) answers right (each_filter (λ e. (e.number == k) ≡ false) (λ e. not (is_loop e)) s.edges (none_passes (λ e. e.number == k) s.edges h)) in
        absurd (none-some _ (sym none ∙ found))

-- each connector is stale or not
module _ (old : Scene) (answers : List Answer) (new : Scene) (right : AreAnswers old answers) (e : Edge) where
  Kept : Type 0
  Kept = IsStale old answers new e ⊎ IsCurrent old answers new e

  by_open : (was : Edge) (a : Answer) → edge_with old e.number ≡ Some was → answer_of answers e.number ≡ Some a → looks old was ≡ looks new e
      → Dec (old.settings.penalty ≡ new.settings.penalty) → Dec (IsOpen old new e a.route) → Kept
  unfolding Kept
  by_open was a known found same (no differs) opens = inl (bends_cost_otherwise differs)
  by_open was a known found same (yes cost) (yes opens) = inl (is_open a found opens)
  by_open was a known found same (yes cost) (no closed) =
      inr (record { was = was; answer = a; is_was = known; is_answer = found; looks_same = same; bends_cost_the_same = cost; is_closed = closed })

  by_looks : (was : Edge) (a : Answer) → edge_with old e.number ≡ Some was → answer_of answers e.number ≡ Some a → Dec (looks old was ≡ looks new e) → Kept
  unfolding Kept
  by_looks was a known found (no differs) = inl (looks_different was known differs)
  by_looks was a known found (yes same) = by_open was a known found same (ℤ_discrete old.settings.penalty new.settings.penalty) (open_decided old new e a.route)

  by_answer : (a : Option Answer) → answer_of answers e.number ≡ a → Kept
  unfolding Kept
  by_answer None found = inl (is_new found)
  by_answer (Some a) found = let was = answered_edge old answers e.number a right found in by_looks was.0 a was.1 found (same_looks (looks old was.0) (looks new e))

  pub stale_or_current : IsStale old answers new e ⊎ IsCurrent old answers new e
  unfolding Kept
  stale_or_current = by_answer (answer_of answers e.number) refl

pick : (P Q : Edge → Type 0) → ((e : Edge) → P e ⊎ Q e) → (es : List Edge) → (numbers : List ℕ) × ArePicked P Q es numbers
pick P Q each [] = ([], refl)
pick P Q each (e ∷ es) =
    let rest = pick P Q each es in
    elim (each e) as (λ _. (numbers : List ℕ) × ArePicked P Q (e ∷ es) numbers) [
      | inl p ↦ (e.number ∷ rest.0, inl (p, (rest.0, rest.1, refl)))
      | inr q ↦ (rest.0, inr (q, rest.1))
    ]

pub some_stale_list : HaveStaleLists
some_stale_list old answers new right = pick (IsStale old answers new) (IsCurrent old answers new) (stale_or_current old answers new right) (connectors new)
