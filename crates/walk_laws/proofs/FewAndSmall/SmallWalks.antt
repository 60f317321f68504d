-- How large a first walk and its route can be on a floor within the limits.
use Rattle.std.proofs.Common.{◌≡◌, ◌⊎◌, ◌+◌, ◌*◌, ◌^◌, ◌<◌, ◌≤◌, pos, negsuc, ◌+ℤ◌, ◌≤ℤ◌, List, [], ◌∷◌, length, refl, sym, ap, subst, ◌∙◌, inl, inr, arith}
use Rattle.std.proofs.lemmas.Int.{ints}
use Rattle.std.proofs.lemmas.Nat.{mul-le}
use Rattle.plane_geom.specs.declared.point.Point.{Point}
use Rattle.plane_geom.specs.declared.point.Dir.{Dir}
use Rattle.plane_geom.specs.declared.point.Dir.TheVariants.{East, South, West, North}
use Rattle.plane_geom.specs.declared.point.Way.{Way}
use Rattle.plane_geom.specs.declared.point.Way.TheVariants.{Vertical, Horizontal}
use Rattle.plane_geom.specs.declared.floor.Line.{Line}
use Rattle.plane_geom.specs.declared.floor.Floor.{Floor}
use Rattle.plane_geom.specs.Point.{PointIsOnSheet, forward, opposite}
use Rattle.plane_geom.specs.Along.{reach}
use Rattle.plane_geom.specs.Floor.{Holds, IsFreePiece, IsKept, IsFloor, last_point}
use Rattle.walk_model.specs.declared.task.Task.{Task}
use Rattle.walk_model.specs.declared.route.Route.{Route}
use Rattle.walk_model.specs.Cost.{turn, bends, bends_after, runs, runs_after}
use Rattle.walk_model.specs.Line.{IsStraightLine, IsOrthogonal, Draws}
use Rattle.walk_model.specs.Legal.{IsTask, cost_with}
use Rattle.walk_model.specs.Floors.{IsFloorOf}
use Rattle.walk_model.specs.Order.{Triple, IsFirst, IsRouteOf, triple_cost}
use Rattle.walk_model.specs.Walk.{Walk}
use Rattle.walk_model.proofs.CornerByCorner.Bends.{turn_bound, turn_same, one_direction}
use Rattle.walk_model.proofs.Ranking.First.{one_first}
use Rattle.walk_laws.specs.Runs.{share_of_way, runs_of_way}
use Rattle.walk_laws.proofs.Steps.Straight.{reach-forward}
use Rattle.walk_laws.proofs.OnKeptLines.Lines.{chosen_start, chosen_end, one_line}
use Rattle.walk_laws.proofs.FewAndSmall.CountedRuns.{way_counted, both_ways, one_share, way_of_share, shares, begins_run, goes_on_run}
use Rattle.walk_laws.proofs.FewAndSmall.FewRuns.{few_runs}
use Rattle.walk_laws.proofs.FewAndSmall.LineEnds.{points_on, ends_of, last_among, last_held, few_ends}
use Rattle.walk_laws.proofs.OnKeptLines.OnSheet.{AreOnSheet, begin_on_sheet, first_on_sheet, drawn_on_sheet}

-- the directions reach no further than the sheet
reach_low : (d : Dir) (p : Point) → PointIsOnSheet p → negsuc 1999999999 ≤ℤ reach d p
reach_low East p h = h.x.low
reach_low South p h = h.y.low
reach_low West p h = omega (arith, ints, h.x.high)
reach_low North p h = omega (arith, ints, h.y.high)

reach_high : (d : Dir) (p : Point) → PointIsOnSheet p → reach d p ≤ℤ pos 2000000000
reach_high East p h = h.x.high
reach_high South p h = h.y.high
reach_high West p h = omega (arith, ints, h.x.low)
reach_high North p h = omega (arith, ints, h.y.low)

-- so a run has at most 4 * 10^9 steps
short_runs_after : (d : Dir) (p : Point) (ds : List Dir) → AreOnSheet p (d ∷ ds) → (reach d p +ℤ pos (length (d ∷ ds))) ≤ℤ pos (2000000000 + 4000000000 * runs_after d ds)
short_runs_after d p [] h = omega (arith, ints, reach-forward d 1 p, reach_high d (forward d 1 p) h.1)
short_runs_after d p (e ∷ es) h = by_turn (one_direction d e) (short_runs_after e (forward d 1 p) es h.1)
  where
    by_turn : (d ≡ e) ⊎ (0 < turn d e) → (reach e (forward d 1 p) +ℤ pos (length (e ∷ es))) ≤ℤ pos (2000000000 + 4000000000 * runs_after e es) →
        (reach d p +ℤ pos (length (d ∷ e ∷ es))) ≤ℤ pos (2000000000 + 4000000000 * runs_after d (e ∷ es))
    by_turn (inl same) further =
        let here : runs_after d (e ∷ es) ≡ runs_after d (d ∷ es) = ap (λ (f : Dir). runs_after d (f ∷ es)) (sym same) in
        let behind : runs_after d es ≡ runs_after e es = ap (λ (f : Dir). runs_after f es) same in
        omega (arith, ints, further, here, goes_on_run d 1, behind, ap (λ (f : Dir). reach f (forward d 1 p)) same, reach-forward d 1 p)
    by_turn (inr turns) further =
        omega (arith, ints, further, begins_run d e 1 turns, reach-forward d 1 p, reach_high d (forward d 1 p) (begin_on_sheet (forward d 1 p) (e ∷ es) h.1), reach_low e (forward d 1 p) (begin_on_sheet (forward d 1 p) (e ∷ es) h.1))

short_runs : (p : Point) (ds : List Dir) → AreOnSheet p ds → length ds ≤ 4000000000 * runs ds
short_runs p [] h = omega arith
short_runs p (d ∷ ds) h = omega (arith, ints, short_runs_after d p ds h, reach_low d p h.0)

-- a run begins with two bends at most
few_bends_after : (d : Dir) (ds : List Dir) → bends_after d ds ≤ 2 * runs_after d ds
few_bends_after d [] = omega arith
few_bends_after d (e ∷ es) = elim (one_direction d e) as (λ _. bends_after d (e ∷ es) ≤ 2 * runs_after d (e ∷ es)) [
  | inl same ↦ (let none : turn d e ≡ 0 = ap (λ (f : Dir). turn f e) same ∙ turn_same e in omega (arith, none, few_bends_after e es))
  | inr turns ↦ omega (arith, turn_bound d e, begins_run d e 1 turns, few_bends_after e es)
]

few_bends : (ds : List Dir) → bends ds ≤ 2 * runs ds
few_bends [] = omega arith
few_bends (d ∷ ds) = omega (arith, few_bends_after d ds)

module _ (floor : Floor) (task : Task) (t : Triple) (is_floor : IsFloor floor) (is_task : IsTask task) (on : IsFloorOf floor task) (first : IsFirst floor.solids task t) where
  -- a kept line of the way that ends at the point, and holds another
  EndsAt : Way → Point → Point → Type 0
  EndsAt way end p = (l : Line) × IsKept floor l × (l.way ≡ way) × (last_point l ≡ end) × Holds l p

  of_way : (way : Way) → runs_of_way way t.walk.steps ≤ share_of_way way first.legal.start.dir + share_of_way way (opposite first.legal.end.dir) + 1644800
  unfolding EndsAt
  of_way way =
      let ends = points_on way (is_floor.coordinates way).0 (ends_of way floor.solids) in
      let few = few_runs floor task t is_task on first (share_of_way way) (one_share way) ends (EndsAt way)
      (λ l d kept along some. let same : l.way ≡ way = along ∙ way_of_share way d some in
      (last_point l, last_among floor l way (is_floor.coordinates way).0 (is_floor.coordinates way).2 kept same, λ p h. (l, kept, same, refl, h)))
      (λ a p q has h k. one_piece way a p q h k) in
      omega (arith, few, way_counted way t.walk.steps, mul-le (length task.via + 1) (length ends) 5 328960 (omega (arith, is_task.few)) (few_ends floor is_floor way))
    where
      one_piece : (way : Way) (a p q : Point) → EndsAt way a p → EndsAt way a q → (m : Line) × IsFreePiece floor m × Holds m p × Holds m q
      one_piece way a p q (l, kept, same, end, h) (m, kept', same', end', k) =
          let one : l ≡ m = one_line floor l m (last_point m) kept kept' (same ∙ sym same') (subst (Holds l) (end ∙ sym end') (last_held floor l kept)) (last_held floor m kept') in
          (m, kept'.longest.piece, subst (λ (x : Line). Holds x p) one h, k)

  pub few_each_way : (way : Way) → runs_of_way way t.walk.steps ≤ 1644802
  few_each_way way = omega (arith, of_way way, one_share way first.legal.start.dir, one_share way (opposite first.legal.end.dir))

  pub few_in_all : runs t.walk.steps ≤ 3289602
  few_in_all = omega (arith, both_ways t.walk.steps, of_way Vertical, of_way Horizontal, shares first.legal.start.dir, shares (opposite first.legal.end.dir))

  pub small_cost : triple_cost task t < 3 * 10 ^ 17
  small_cost =
      let l = first.legal in
      let steps = t.walk.steps in
      let same : triple_cost task t ≡ cost_with task.penalty l.start t.walk l.end = (one_first floor.solids task).cost t l in
      let long = short_runs t.walk.start steps (first_on_sheet floor task t is_task on first) in
      let bent = mul-le task.penalty (bends steps) (10 ^ 9) (2 * 3289602) is_task.penalty (omega (arith, few_bends steps, few_in_all)) in
      omega (arith, same, long, bent, few_in_all, (chosen_start floor.solids task t is_task l).cost, (chosen_end floor.solids task t is_task l).cost)

  straight_corners : (points : List Point) (w : Walk) → Draws points w → IsStraightLine points
  straight_corners [] w draws = tt
  straight_corners (p ∷ qs) w draws = draws.0

  -- so its route is a line that calls accept
  pub orthogonal_route : (r : Route) → IsRouteOf task r t → IsOrthogonal r.points
  orthogonal_route r h = record {
    straight = straight_corners r.points t.walk h.draws;
    corners = record {
      within = drawn_on_sheet r.points t.walk h.draws (first_on_sheet floor task t is_task on first);
      few = omega (arith, h.corners, few_in_all);
    };
  }
