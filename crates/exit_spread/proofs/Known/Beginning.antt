-- At a turn of a first walk's way, the run that ends there may begin somewhere on its line.
use Rattle.std.proofs.Common.{◌≡◌, ◌<◌, List, [], ◌∷◌, ◌++◌, refl, sym, ap, subst, ◌∙◌, inl, inr}
use Rattle.std.specs.Prelude.{Any, Contains}
use Rattle.std.proofs.lemmas.List.Elements.{All-head}
use Rattle.plane_geom.specs.declared.point.Point.{Point}
use Rattle.plane_geom.specs.declared.point.Dir.{Dir}
use Rattle.plane_geom.specs.declared.point.Dir.TheVariants.{East, South, West, North}
use Rattle.plane_geom.specs.Along.{across, way_of}
use Rattle.plane_geom.specs.Floor.{Holds}
use Rattle.line_arena.specs.Arena.{LiesFurther, StandsAt}
use Rattle.line_arena.proofs.Arenas.ArenaLaws.{one_point}
use Rattle.walk_model.specs.Cost.{turn}
use Rattle.walk_model.specs.Order.{IsFirst, Triple}
use Rattle.walk_laws.specs.Sides.{IsHeldTo, SharesSideTo, held_to}
use Rattle.walk_laws.proofs.Steps.Turns.{one_or_two}
use Rattle.move_model.specs.declared.place.Place.{Place}
use Rattle.move_model.specs.Stations.{IsRunInto, IsTurn, line_between}
use Rattle.move_model.specs.Ways.{GoesAlongWay, Leads, Leg}
use Rattle.move_model.proofs.Stopping.HeldLegs.{doubles_at}
use Rattle.move_model.proofs.Stopping.RunLines.{run_between}
use Rattle.move_model.proofs.Stopping.StraightLegs.{straight_lies}
use Rattle.search_problem.specs.Problems.{IsReady}
use Rattle.search_problem.specs.declared.problem.Problem.{Problem}
use Rattle.exit_spread.specs.Offers.{MayBegin}
use Rattle.exit_spread.proofs.Known.Lines.{further_across}
use Rattle.exit_spread.proofs.Known.Mattering.{some_entry}

-- what a drawn line holds stands on its whole line
held_by_drawn : (h : Dir) (p q v : Point) → Holds (line_between h p q) v → across (way_of h) v ≡ across (way_of h) p
held_by_drawn East p q v on = ap (λ (r : Point). r.y) on.here
held_by_drawn South p q v on = ap (λ (r : Point). r.x) on.here
held_by_drawn West p q v on = ap (λ (r : Point). r.y) on.here
held_by_drawn North p q v on = ap (λ (r : Point). r.x) on.here

module _ (p : Problem) (ready : IsReady p) (t : Triple) (first : IsFirst p.solids.now p.task.now t) (along : GoesAlongWay p.solids.now p.arena.now p.task.now t)
    (y : Place) (q : Point) (m : Leg) (back : List Leg) (at_q : StandsAt p.arena.now y.crossing q) (turns : IsTurn p.solids.now p.arena.now p.task.now t along y q m back) where
  abbrev h : Dir
  h = y.heading

  abbrev run : IsRunInto p.solids.now p.arena.now p.task.now t along y q (m ∷ back)
  run = turns.into

  -- the run goes along one line
  lies : LiesFurther p.arena.now h run.from.crossing y.crossing
  lies = (straight_lies p.arena.now ready.arena h p.task.now.via run.from run.first run.more y run.point q run.leads run.straight run.on.here at_q).0

  level : across (way_of h) q ≡ across (way_of h) run.point
  level = further_across p.arena.now ready.arena h run.from.crossing y.crossing run.point q lies run.on.here at_q

  -- it begins at the entry
  by_entry : run.on.front ≡ [] → MayBegin p h y.crossing q m.to.heading
  by_entry none =
      let same : along.entry ≡ run.from = subst (λ ls. Leads p.arena.now p.task.now.via along.entry ls run.from) none run.on.leads in
      let found = some_entry p ready t.start along.start along.entry along.is_start along.enters in
      let port : along.start.port ≡ run.point =
      one_point p.arena.now run.from.crossing along.start.port run.point ready.arena (subst (λ (z : Place). StandsAt p.arena.now z.crossing along.start.port) same along.enters.here) run.on.here in
      inl (found.1.0, found.0, found.1.1, found.1.2, ap (across (way_of h)) (found.3 ∙ port) ∙ sym level)

  -- it has a checkpoint on its line
  by_checkpoint : (v : Point) → Contains p.task.now.via v → across (way_of h) v ≡ across (way_of h) run.point → MayBegin p h y.crossing q m.to.heading
  by_checkpoint v has same = inr (inl (has.0, v, has.1, has.2, same ∙ sym level))

  -- it begins at a bend, and its line touches a side
  by_side : 0 < turn run.from.heading h → Any (λ s. SharesSideTo (held_to run.from.heading m.to.heading) (line_between h run.point q) s.rect) p.solids.now → MayBegin p h y.crossing q m.to.heading
  by_side bent touches = elim (one_or_two run.from.heading h bent) as (λ _. MayBegin p h y.crossing q m.to.heading) [
    | inl once ↦ inr (inr (record { before = run.from.heading; turns = once; from = run.from.crossing; point = run.point; here = run.on.here; lies = lies; held = touches }))
    | inr twice ↦ by_front run.on.front refl twice
  ]
    where
      by_front : (front : List Leg) → run.on.front ≡ front → turn run.from.heading h ≡ 2 → MayBegin p h y.crossing q m.to.heading
      by_front [] none twice = by_entry none
      by_front (l ∷ ls) is twice =
          let on : run.first.to.heading ≡ h = All-head (λ (k : Leg). k.to.heading ≡ h) run.first run.more run.straight in
          let doubled : turn run.from.heading run.first.to.heading ≡ 2 = ap (turn run.from.heading) on ∙ twice in
          by_checkpoint run.point
          (doubles_at p.solids.now p.arena.now ready.arena p.task.now t ready.problem.is_task along first run.from run.point run.first (run.more ++ (m ∷ back)) run.on
          (λ none. let both : l ∷ ls ≡ [] = sym is ∙ none in cc) doubled)
          refl

  pub may_begin : MayBegin p h y.crossing q m.to.heading
  may_begin = elim turns.into_held as (λ _. MayBegin p h y.crossing q m.to.heading) [
    | inl none ↦ by_entry none
    | inr held ↦ by_held (subst (IsHeldTo p.solids.now p.task.now.via (held_to run.from.heading m.to.heading)) (run_between p.arena.now ready.arena h run.from.crossing y.crossing run.point q lies run.on.here at_q) held)
  ]
    where
      by_held : IsHeldTo p.solids.now p.task.now.via (held_to run.from.heading m.to.heading) (line_between h run.point q) → MayBegin p h y.crossing q m.to.heading
      by_held (inl touches) = elim run.begins as (λ _. MayBegin p h y.crossing q m.to.heading) [ inl none ↦ by_entry none | inr bent ↦ by_side bent touches ]
      by_held (inr (i, v, lt, is, holds)) = by_checkpoint v (i, lt, is) (held_by_drawn h run.point q v holds)
