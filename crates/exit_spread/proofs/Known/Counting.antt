-- An exit at the next station of a first walk's way counts at the place before it.
use Rattle.std.proofs.Common.{◌≡◌, ℕ, ◌≤ℤ◌, ◌<ℤ◌, Option, None, Some, List, [], ◌∷◌, ◌++◌, All, refl, sym, ap, subst, ◌∙◌, inl, inr, arith}
use Rattle.std.specs.Prelude.{negsuc, slice_get}
use Rattle.std.proofs.lemmas.Int.{by_lt_z, ints}
use Rattle.std.proofs.lemmas.List.Elements.{All-head, All-tail}
use Rattle.plane_geom.specs.declared.point.Point.{Point}
use Rattle.plane_geom.specs.declared.point.Dir.{Dir}
use Rattle.plane_geom.specs.declared.point.Dir.TheVariants.{East, South, West, North}
use Rattle.plane_geom.specs.Along.{across, reach, way_of}
use Rattle.plane_geom.specs.Floor.{IsCrossing}
use Rattle.plane_geom.specs.Point.{PointIsOnSheet}
use Rattle.line_arena.specs.Arena.{Arena, IsArena, LiesFurther, StandsAt}
use Rattle.line_arena.proofs.Arenas.ArenaLaws.{crossings_of_floor, one_point}
use Rattle.walk_model.specs.Order.{IsFirst, Triple}
use Rattle.walk_laws.proofs.OnKeptLines.FirstWalks.{checkpoints}
use Rattle.walk_laws.proofs.OnKeptLines.Lines.{chosen}
use Rattle.move_model.specs.declared.place.Place.{Place}
use Rattle.move_model.specs.Places.{ComesTo}
use Rattle.move_model.specs.Stations.{GoesStraight, IsNextStation}
use Rattle.move_model.specs.Ways.{GoesAlongWay, HasRest, Leads, Leg}
use Rattle.move_model.proofs.GoingOn.Rests.{crossing_on_sheet}
use Rattle.move_model.proofs.Stopping.StraightLegs.{goes_free, goes_lies}
use Rattle.move_model.proofs.Stopping.WayRuns.{rest_no_more}
use Rattle.search_problem.specs.Problems.{IsReady}
use Rattle.search_problem.specs.declared.problem.Problem.{Problem}
use Rattle.exit_spread.specs.Offers.{from_after, from_of}
use Rattle.exit_spread.proofs.Known.Attained.{from_cases}
use Rattle.exit_spread.proofs.Known.Lines.{further_across, lies_between, one_by_reach}

-- no point of the sheet is further back than its start
not_before_sheet : (d : Dir) (q : Point) → PointIsOnSheet q → negsuc 1999999999 ≤ℤ reach d q
not_before_sheet East q h = let low = h.x.low in omega (arith, ints, low)
not_before_sheet South q h = let low = h.y.low in omega (arith, ints, low)
not_before_sheet West q h = let high = h.x.high in omega (arith, ints, high)
not_before_sheet North q h = let high = h.y.high in omega (arith, ints, high)

-- straight legs pass checkpoints at their end alone
module _ (a : Arena) (arena : IsArena a) (via : List Point) (y : Place) (q : Point) (at_q : StandsAt a y.crossing q) where
  comes_by_last : (x : Place) (front : List Leg) (last : Leg) → Leads a via x (front ++ (last ∷ [])) y → All (λ l. l.to.stage ≡ x.stage) front → ComesTo via x.stage q y.stage
  comes_by_last x [] last h same =
      let point : h.0.end ≡ q = one_point a y.crossing h.0.end q arena (subst (λ (z : Place). StandsAt a z.crossing h.0.end) h.1 h.0.there) at_q in
      subst (λ (z : Place). ComesTo via x.stage q z.stage) h.1 (subst (λ r. ComesTo via x.stage r last.to.stage) point h.0.stage)
  comes_by_last x (l ∷ ls) last h same =
      let stage : l.to.stage ≡ x.stage = All-head (λ (k : Leg). k.to.stage ≡ x.stage) l ls same in
      subst (λ n. ComesTo via n q y.stage) stage
      (comes_by_last l.to ls last h.1 (subst (λ n. All (λ (k : Leg). k.to.stage ≡ n) ls) (sym stage) (All-tail (λ (k : Leg). k.to.stage ≡ x.stage) l ls same)))

  pub straight_comes : (x : Place) (d : Dir) (legs : List Leg) → GoesStraight a via x d legs y → ComesTo via x.stage q y.stage
  straight_comes x d legs g = comes_by_last x g.front g.last (subst (λ ls. Leads a via x ls y) g.all g.leads) g.same_stage

module _ (p : Problem) (ready : IsReady p) (t : Triple) (first : IsFirst p.solids.now p.task.now t) (along : GoesAlongWay p.solids.now p.arena.now p.task.now t) where
  -- each checkpoint is at a crossing
  checkpoint_crossing : (k : ℕ) (r : Point) → slice_get p.task.now.via k ≡ Some r → (z : ℕ) × StandsAt p.arena.now z r
  checkpoint_crossing k r is =
      let on_floor : IsFirst ready.floor.solids p.task.now t = subst (λ z. IsFirst z p.task.now t) (sym ready.problem.same_solids) first in
      (crossings_of_floor ready.floor p.arena.now ready.arena ready.problem.stands r).0
      (chosen (IsCrossing ready.floor) p.task.now.via k r is (checkpoints ready.floor p.task.now t ready.problem.is_task on_floor ready.problem.is_floor_of))

  module _ (x : Place) (at : Point) (l : Leg) (rest : List Leg) (h : HasRest p.solids.now p.arena.now p.task.now t along x at (l ∷ rest))
      (n : IsNextStation p.solids.now p.arena.now p.task.now t along x at l rest) where
    abbrev d : Dir
    d = l.to.heading

    pub station_lies : LiesFurther p.arena.now d x.crossing n.station.to.crossing
    station_lies = (goes_lies p.arena.now ready.arena p.task.now.via x d n.station.legs n.station.to at n.point n.station.straight h.here n.here).0

    -- the next checkpoint is further back than the place, or is not on the line before the station
    behind : (r : Point) → slice_get p.task.now.via x.stage ≡ Some r → across (way_of d) r ≡ across (way_of d) n.point → reach d r <ℤ reach d n.point → reach d r <ℤ reach d at
    behind r is level before = by_lt_z (reach d r) (reach d at)
        (λ less. less)
        (λ upto. by_lt_z (reach d at) (reach d r)
        (λ between. absurd (
        let z = checkpoint_crossing x.stage r is in
        let on = lies_between p.arena.now ready.arena d x.crossing n.station.to.crossing z.0 at n.point r station_lies h.here n.here z.1 (level ∙ across_on) between before in
        goes_free p.arena.now ready.arena p.task.now.via x d n.station.legs n.station.to n.station.straight z.0 r z.1 on.0 on.1 is))
        (λ back. absurd (
        let same : r ≡ at = one_by_reach d r at (level ∙ across_on) (omega (arith, ints, upto, back)) in
        rest_no_more p.solids.now p.arena.now ready.arena p.task.now t along x at (l ∷ rest) h (is ∙ ap Some same))))
      where
        across_on : across (way_of d) n.point ≡ across (way_of d) at
        across_on = further_across p.arena.now ready.arena d x.crossing n.station.to.crossing at n.point station_lies h.here n.here

    -- so an exit at the station counts from the place on
    pub counts_from : from_of p.task.now.via x.stage d n.point ≤ℤ reach d at
    counts_from = by_next (slice_get p.task.now.via x.stage) refl
      where
        sheet : negsuc 1999999999 ≤ℤ reach d at
        sheet = not_before_sheet d at (crossing_on_sheet ready.floor p.arena.now x.crossing at ready.arena ready.problem.stands h.here)

        by_next : (o : Option Point) → slice_get p.task.now.via x.stage ≡ o → from_after o d n.point ≤ℤ reach d at
        by_next None e = sheet
        by_next (Some r) e = elim (from_cases r n.point d) as (λ _. from_after (Some r) d n.point ≤ℤ reach d at) [
          | inl all ↦ subst (λ z. z ≤ℤ reach d at) (sym all) sheet
          | inr (level, before, after) ↦ subst (λ z. z ≤ℤ reach d at) (sym after) (let less = behind r e level before in omega (arith, ints, less))
        ]
