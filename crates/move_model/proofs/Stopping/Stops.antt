-- Why the way of a first walk stops at its stations.
use Rattle.std.proofs.Common.{◌≡◌, ◌≢◌, ◌⊎◌, ◌<◌, List, [], ◌∷◌, ◌++◌, length, refl, sym, ap, subst, ◌∙◌, inl, inr, arith, length-append}
use Rattle.std.proofs.lemmas.List.Elements.{All-head, All-tail}
use Rattle.plane_geom.specs.declared.point.Point.{Point}
use Rattle.plane_geom.specs.declared.point.Dir.{Dir}
use Rattle.plane_geom.specs.declared.rect.Solid.{Solid}
use Rattle.plane_geom.specs.Point.{distance}
use Rattle.line_arena.specs.Arena.{Arena, IsArena}
use Rattle.walk_model.specs.declared.task.Task.{Task}
use Rattle.walk_model.specs.Cost.{turn}
use Rattle.walk_model.specs.Legal.{IsTask}
use Rattle.walk_model.specs.Order.{IsFirst, Triple}
use Rattle.walk_model.proofs.CornerByCorner.Bends.{one_direction, turn_same}
use Rattle.walk_laws.specs.Lines.{run_line}
use Rattle.walk_laws.specs.Sides.{IsHeldTo, held_to}
use Rattle.walk_laws.proofs.Steps.Turns.{one_or_two}
use Rattle.move_model.specs.declared.place.Place.{Place}
use Rattle.move_model.specs.Ways.{GoesAlongWay, HasRest, IsWay, Leads, Leg}
use Rattle.move_model.specs.Stations.{AreStraightLegs, BeginsWithTurn, GoesStraight, IsNextStation, IsTurn, Stop, doubles, ends, rises, turns}
use Rattle.move_model.proofs.Stopping.HeldLegs.{doubles_at, held_legs}
use Rattle.move_model.proofs.Stopping.WayRuns.{next_station, run_into_turn}

-- straight legs end in their direction
ends_in : (a : Arena) (via : List Point) (d : Dir) (x : Place) (l : Leg) (ls : List Leg) (y : Place) → Leads a via x (l ∷ ls) y → AreStraightLegs d (l ∷ ls) → y.heading ≡ d
ends_in a via d x l [] y h s = ap (λ (z : Place). z.heading) (sym h.1) ∙ All-head (λ (k : Leg). k.to.heading ≡ d) l [] s
ends_in a via d x l (m ∷ ms) y h s = ends_in a via d l.to m ms y h.1 (All-tail (λ (k : Leg). k.to.heading ≡ d) l (m ∷ ms) s)

-- straight legs are at least one
pub one_at_least : (a : Arena) (via : List Point) (x : Place) (d : Dir) (legs : List Leg) (y : Place) → GoesStraight a via x d legs y → (l : Leg) × (ls : List Leg) × (legs ≡ l ∷ ls)
one_at_least a via x d legs y g = by_front g.front g.all
  where
    by_front : (front : List Leg) → legs ≡ front ++ (g.last ∷ []) → (l : Leg) × (ls : List Leg) × (legs ≡ l ∷ ls)
    by_front [] e = (g.last, [], e)
    by_front (l ∷ ls) e = (l, ls ++ (g.last ∷ []), e)

pub goes_heading : (a : Arena) (via : List Point) (x : Place) (d : Dir) (legs : List Leg) (y : Place) → GoesStraight a via x d legs y → y.heading ≡ d
goes_heading a via x d legs y g =
    let one = one_at_least a via x d legs y g in
    ends_in a via d x one.0 one.1 y (subst (λ ls. Leads a via x ls y) one.2 g.leads) (subst (AreStraightLegs d) one.2 g.straight)

module _ (solids : List Solid) (a : Arena) (arena : IsArena a) (task : Task) (t : Triple) (is_task : IsTask task) (first : IsFirst solids task t) (along : GoesAlongWay solids a task t) where
  -- between two bends a run is held
  pub held_to_next : (y : Place) (q : Point) (m : Leg) (back : List Leg) → (h : HasRest solids a task t along y q (m ∷ back)) → h.front ≢ [] → 0 < turn y.heading m.to.heading → (n : IsNextStation solids a task t along y q m back) →
      (k : Leg) (ks : List Leg) → n.station.back ≡ k ∷ ks → 0 < turn m.to.heading k.to.heading → IsHeldTo solids task.via (held_to y.heading k.to.heading) (run_line q m.to.heading (distance q n.point))
  held_to_next y q m back h some turned n k ks is on_then =
      let g = n.station.straight in
      let one = one_at_least a task.via y m.to.heading n.station.legs n.station.to g in
      let cut : m ∷ back ≡ (one.0 ∷ one.1) ++ (k ∷ ks) = n.station.split ∙ ap (λ ls. ls ++ n.station.back) one.2 ∙ ap (λ ls. (one.0 ∷ one.1) ++ ls) is in
      let on : HasRest solids a task t along y q ((one.0 ∷ one.1) ++ (k ∷ ks)) = record { front = h.front; legs = h.legs ∙ ap (λ ls. h.front ++ ls) cut; leads = h.leads; here = h.here } in
      held_legs solids a arena task t is_task along first y n.station.to q n.point m.to.heading one.0 one.1 k ks on some
      (subst (λ ls. Leads a task.via y ls n.station.to) one.2 g.leads) (subst (AreStraightLegs m.to.heading) one.2 g.straight) n.here turned on_then

  turn_at : (y : Place) (q : Point) (m : Leg) (back : List Leg) → (h : HasRest solids a task t along y q (m ∷ back)) → h.front ≢ [] → turn y.heading m.to.heading ≡ 1 → IsTurn solids a task t along y q m back
  turn_at y q m back h some once =
      let turned : 0 < turn y.heading m.to.heading = omega (arith, once) in
      let r = run_into_turn solids a arena task t along is_task first y q m back h some turned in
      let n = next_station solids a arena task t along y q m back h in
      record { once = once; into = r.0; into_held = r.1; next = n; next_held = held_to_next y q m back h some turned n }

  -- what a first walk does at a station
  stop_at : (x y : Place) (q : Point) (rest : List Leg) → (h : HasRest solids a task t along y q rest) → h.front ≢ [] → IsWay solids a task.via y rest along.end →
      (rest ≡ []) ⊎ (BeginsWithTurn y.heading rest ⊎ (x.stage < y.stage)) → Stop solids a task t along x y q rest
  stop_at x y q [] h some way stops = ends refl way
  stop_at x y q (m ∷ back) h some way stops = elim (one_direction y.heading m.to.heading) as (λ _. Stop solids a task t along x y q (m ∷ back)) [
    | inl same ↦ elim stops as (λ _. Stop solids a task t along x y q (m ∷ back)) [
      | inl none ↦ absurd (cc none)
      | inr other ↦ elim other as (λ _. Stop solids a task t along x y q (m ∷ back)) [
        | inl turned ↦ absurd (straight_no_turn same turned)
        | inr up ↦ rises m back refl same up
      ]
    ]
    | inr turned ↦ elim (one_or_two y.heading m.to.heading turned) as (λ _. Stop solids a task t along x y q (m ∷ back)) [
      | inl once ↦ turns m back refl (turn_at y q m back h some once)
      | inr twice ↦ doubles m back refl twice (doubles_at solids a arena task t is_task along first y q m back h some twice)
    ]
  ]
    where
      straight_no_turn : y.heading ≡ m.to.heading → 0 < turn y.heading m.to.heading → ⊥
      straight_no_turn same turned = let none : turn m.to.heading m.to.heading ≡ 0 = turn_same m.to.heading in omega (arith, turned, none, ap (λ (d : Dir). turn d m.to.heading) same)

  pub next_stop : (x : Place) (p : Point) (l : Leg) (rest : List Leg) → (h : HasRest solids a task t along x p (l ∷ rest)) →
      (n : IsNextStation solids a task t along x p l rest) × (n.station.to.heading ≡ l.to.heading) × Stop solids a task t along x n.station.to n.point n.station.back
  next_stop x p l rest h =
      let n = next_station solids a arena task t along x p l rest h in
      let on : n.station.to.heading ≡ l.to.heading = goes_heading a task.via x l.to.heading n.station.legs n.station.to n.station.straight in
      let fewer = n.fewer in
      let some : n.on.front ≢ [] = λ none. absurd (omega (arith, ap length none, fewer, ap length n.on.legs, ap length h.legs, length-append n.on.front n.station.back, length-append h.front (l ∷ rest))) in (
        n,
        on,
        stop_at x n.station.to n.point n.station.back n.on some n.station.behind
            (subst (λ (d : Dir). (n.station.back ≡ []) ⊎ (BeginsWithTurn d n.station.back ⊎ (x.stage < n.station.to.stage))) (sym on) n.station.stops),
      )
