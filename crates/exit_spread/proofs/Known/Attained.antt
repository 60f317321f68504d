-- What is ahead of a crossing by a kept exit that counts there is ahead on some way from it.
use Rattle.std.proofs.Common.{◌≡◌, ◌⊎◌, ℕ, pos, ◌+ℤ◌, ◌<ℤ◌, ◌&&◌, Bool, true, false, if◌then◌else◌, Some, List, ◌∷◌, ◌++◌, refl, sym, ap, subst, ◌∙◌, inl, inr, arith}
use Rattle.std.specs.Prelude.{int_lt, negsuc, slice_get}
use Rattle.std.specs.Int.{int_gap}
use Rattle.std.specs.Ordering.{int_eq}
use Rattle.std.proofs.lemmas.Bool.{and_from, and_parts}
use Rattle.std.proofs.lemmas.Bool.Decides.{Decides-int_eq}
use Rattle.std.proofs.lemmas.Int.{ints}
use Rattle.std.proofs.lemmas.List.Elements.{All-head}
use Rattle.plane_geom.specs.declared.point.Point.{Point}
use Rattle.plane_geom.specs.declared.point.Dir.{Dir}
use Rattle.plane_geom.specs.declared.point.Way.{Way}
use Rattle.plane_geom.specs.Along.{across, reach, way_of}
use Rattle.plane_geom.specs.Point.{distance}
use Rattle.line_arena.specs.Arena.{LiesFurther, StandsAt}
use Rattle.walk_model.specs.declared.task.Choice.{Choice}
use Rattle.move_model.specs.declared.place.Place.{Place}
use Rattle.move_model.specs.declared.ahead.Ahead.{Ahead}
use Rattle.move_model.specs.Ahead.{ahead, with_steps}
use Rattle.move_model.specs.Stations.{AreStraightLegs, GoesStraight, HasNoneBetween}
use Rattle.move_model.specs.Ways.{IsWay, Leads, Leg, steps_of_way}
use Rattle.move_model.proofs.GoingOn.Joined.{steps_behind, way_behind}
use Rattle.move_model.proofs.Stopping.StraightLegs.{straight_legs}
use Rattle.move_model.proofs.Stopping.Stops.{one_at_least}
use Rattle.move_model.proofs.Stopping.WayRuns.{bend_ahead, straight_ahead}
use Rattle.search_problem.specs.Problems.{IsReady}
use Rattle.search_problem.specs.declared.problem.Problem.{Problem}
use Rattle.exit_rows.specs.Exits.{CountsAt, ahead_at}
use Rattle.exit_rows.specs.declared.exit.Kept.{Kept}
use Rattle.exit_spread.specs.Offers.{from_after}
use Rattle.exit_spread.specs.Searching.{IsKeptOf}
use Rattle.exit_spread.specs.Ways.{AreNumbered, IsWayAhead, place_at, turned}
use Rattle.exit_spread.proofs.Known.Lines.{further_across, further_gap, further_less, lies_by_reach}

-- this is ahead on some way from the place that begins in the direction, of a walk that arrives in that direction
pub record IsWayAlong (p : Problem) (x : Place) (at : Point) (d : Dir) (v : Ahead) : Type 0 where
  pub here : StandsAt p.arena.now x.crossing at
  pub first : Leg
  pub more : List Leg
  pub heading : first.to.heading ≡ d
  pub number : ℕ
  pub end : Choice
  pub is_end : slice_get p.task.now.ends number ≡ Some end
  pub way : IsWay p.solids.now p.arena.now p.task.now.via x (first ∷ more) end
  pub same : v ≡ ahead p.task.now.penalty d at (steps_of_way (first ∷ more) end) end.cost

-- where the next checkpoint is further back on the line, an exit counts from just after it on; else from everywhere
pub from_cases : (r q : Point) (d : Dir) →
    (from_after (Some r) d q ≡ negsuc 1999999999) ⊎ ((across (way_of d) r ≡ across (way_of d) q) × (reach d r <ℤ reach d q) × (from_after (Some r) d q ≡ reach d r +ℤ pos 1))
from_cases r q d = by_test (int_eq (across (way_of d) r) (across (way_of d) q) && int_lt (reach d r) (reach d q)) refl
  where
    is_less : int_lt (reach d r) (reach d q) ≡ true → reach d r <ℤ reach d q
    is_less e = grind (arith, ints, e)

    by_test : (t : Bool) → (int_eq (across (way_of d) r) (across (way_of d) q) && int_lt (reach d r) (reach d q)) ≡ t →
        (from_after (Some r) d q ≡ negsuc 1999999999) ⊎ ((across (way_of d) r ≡ across (way_of d) q) × (reach d r <ℤ reach d q) × (from_after (Some r) d q ≡ reach d r +ℤ pos 1))
    by_test true e = let both = and_parts _ _ e in inr ((Decides-int_eq (across (way_of d) r) (across (way_of d) q)).0 both.0, is_less both.1, rw e refl)
    by_test false e = inl (rw e refl)

pub from_behind : (r q : Point) (d : Dir) → across (way_of d) r ≡ across (way_of d) q → reach d r <ℤ reach d q → from_after (Some r) d q ≡ reach d r +ℤ pos 1
from_behind r q d same less =
    let is_less : int_lt (reach d r) (reach d q) ≡ true = grind (arith, ints, less) in
    ap (λ (t : Bool). if t then reach d r +ℤ pos 1 else negsuc 1999999999) (and_from _ _ ((Decides-int_eq (across (way_of d) r) (across (way_of d) q)).1 same) is_less)

-- with a turn in front of it, it is ahead of a walk that arrives at the place
pub turned_way : (p : Problem) (x : Place) (at : Point) (d : Dir) (v : Ahead) → IsWayAlong p x at d v → IsWayAhead p x at (turned p x.heading at d v)
turned_way p x at d v w = record {
  here = w.here;
  legs = w.first ∷ w.more;
  number = w.number;
  end = w.end;
  is_end = w.is_end;
  way = w.way;
  same = ap (turned p x.heading at d) w.same
      ∙ ap (λ (b : Dir). turned p x.heading at b (ahead p.task.now.penalty b at (steps_of_way (w.first ∷ w.more) w.end) w.end.cost)) (sym w.heading)
      ∙ sym (bend_ahead p.task.now.penalty x.heading w.first.to.heading at w.first.steps (steps_of_way w.more w.end) w.end.cost w.way.0.some);
}

module _ (p : Problem) (number_of : ℕ → Way → ℕ) (ready : IsReady p) (numbered : AreNumbered p.arena.now number_of) (x : Place) (at : Point) (d : Dir) (e : Kept)
    (here : StandsAt p.arena.now x.crossing at) (k : IsKeptOf p number_of x.stage (number_of x.crossing (way_of d)) d e) (counts : CountsAt e (reach d at)) where
  -- the exit lies further on
  pub exit_lies : LiesFurther p.arena.now d x.crossing e.crossing
  exit_lies =
      let before = counts.before in
      lies_by_reach p.arena.now ready.arena d number_of numbered x.crossing e.crossing at k.point here k.here (sym k.on) (subst (λ z. reach d at <ℤ z) k.at before)

  -- and the next checkpoint is at no crossing between
  pub none_before : HasNoneBetween p.arena.now p.task.now.via d x.stage x.crossing e.crossing
  none_before z r at_z f g is =
      let from = counts.from in
      let after : e.from ≡ reach d r +ℤ pos 1 = k.from ∙ ap (λ o. from_after o d k.point) is
      ∙ from_behind r k.point d (sym (further_across p.arena.now ready.arena d z e.crossing r k.point g at_z k.here)) (further_less p.arena.now ready.arena d z e.crossing r k.point g at_z k.here) in
      let less = further_less p.arena.now ready.arena d x.crossing z at r f here at_z in
      omega (arith, ints, from, after, less)

  -- so straight legs lead to it
  pub attained : IsWayAlong p x at d (ahead_at e (reach d at))
  attained =
      let a = p.arena.now in
      let via = p.task.now.via in
      let penalty = p.task.now.penalty in
      let y : Place = place_at e.crossing k.stage d in
      let go : (legs : List Leg) × GoesStraight a via x d legs y = straight_legs a ready.arena via y k.point k.here x at here exit_lies none_before k.comes in
      let one = one_at_least a via x d go.0 y go.1 in
      let leads : Leads a via x (one.0 ∷ one.1) y = subst (λ ls. Leads a via x ls y) one.2 go.1.leads in
      let straight : AreStraightLegs d (one.0 ∷ one.1) = subst (AreStraightLegs d) one.2 go.1.straight in
      let w = k.way in
      let gap : int_gap (reach d at) e.at ≡ distance at k.point = ap (int_gap (reach d at)) k.at ∙ further_gap a ready.arena d x.crossing e.crossing at k.point exit_lies here k.here in
      record {
        here = here;
        first = one.0;
        more = one.1 ++ w.legs;
        heading = All-head (λ (l : Leg). l.to.heading ≡ d) one.0 one.1 straight;
        number = w.number;
        end = w.end;
        is_end = w.is_end;
        way = way_behind p.solids.now a via x y (one.0 ∷ one.1) w.legs w.end leads w.way;
        same = ap (λ n. with_steps n e.ahead) gap
            ∙ ap (with_steps (distance at k.point)) w.same
            ∙ sym (straight_ahead a ready.arena via x y at k.point d one.0 one.1 leads straight here k.here penalty (steps_of_way w.legs w.end) w.end.cost)
            ∙ ap (λ ds. ahead penalty d at ds w.end.cost) (sym (steps_behind (one.0 ∷ one.1) w.legs w.end));
      }
