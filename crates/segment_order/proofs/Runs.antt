-- The runs through corners are the runs of a route.
use Rattle.std.proofs.Common.{◌≡◌, ◌≢◌, ℕ, zero, suc, ◌+◌, ◌-◌, ◌<◌, ◌≤◌, ℤ, Some, List, [], ◌∷◌, ◌++◌, All, length, take, get_or, refl, sym, ap, ◌∙◌, arith}
use Rattle.std.specs.Prelude.{slice_get}
use Rattle.std.specs.Int.{int_min, int_max}
use Rattle.std.proofs.lemmas.Int.{ints, clamps}
use Rattle.std.proofs.lemmas.List.{take_all}
use Rattle.std.proofs.lemmas.Option.{slice_get-get_or}
use Rattle.std.proofs.lemmas.List.Elements.{All-head, All-tail}
use Rattle.plane_geom.specs.declared.point.Point.{Point}
use Rattle.plane_geom.specs.declared.point.Dir.{Dir}
use Rattle.plane_geom.specs.declared.point.Dir.TheVariants.{East, South, West, North}
use Rattle.plane_geom.specs.Along.{way_of, across, along}
use Rattle.plane_geom.specs.Point.{IsCoordinate, IsStraight, PointIsOnSheet, heading}
use Rattle.plane_geom.proofs.Headings.{same_point}
use Rattle.walk_model.specs.Line.{AreStraight}
use Rattle.segment_order.specs.declared.run.Run.{Run}
use Rattle.segment_order.specs.Run.{AreCorners, AreRunsOf, IsRun, end_of_run, point_at_index, run_at, run_between, runs_along, start_of_run}
use Rattle.segment_order.proofs.Headings.{Goes, goes}

-- the run from one corner to the next, by its heading
abbrev between_with : Dir → ℕ → ℕ → Point → Point → Run
between_with d edge place p q = record { edge = edge; place = place; way = way_of d; heading = d; at = across (way_of d) p; lo = int_min (along (way_of d) p) (along (way_of d) q); hi = int_max (along (way_of d) p) (along (way_of d) q) }

-- the run begins at the first point and ends at the second; it is on the sheet if they are
pub record IsFromTo (r : Run) (p q : Point) : Type 0 where
  pub start : start_of_run r ≡ p
  pub finish : end_of_run r ≡ q
  pub is : PointIsOnSheet p → PointIsOnSheet q → IsRun r

least_in : (a b : ℤ) → IsCoordinate a → IsCoordinate b → IsCoordinate (int_min a b)
least_in a b h k = record { low = omega (arith, ints, clamps, h.low, k.low); high = omega (arith, ints, clamps, h.high, k.high) }

most_in : (a b : ℤ) → IsCoordinate a → IsCoordinate b → IsCoordinate (int_max a b)
most_in a b h k = record { low = omega (arith, ints, clamps, h.low, k.low); high = omega (arith, ints, clamps, h.high, k.high) }

with_heading : (d : Dir) (edge place : ℕ) (p q : Point) → Goes d p q → IsFromTo (between_with d edge place p q) p q
with_heading East edge place p q g = record {
  start = same_point _ p (omega (arith, ints, clamps, g.0)) refl;
  finish = same_point _ q (omega (arith, ints, clamps, g.0)) g.1;
  is = λ h k. record { way = refl; at = h.y; lo = least_in p.x q.x h.x k.x; hi = most_in p.x q.x h.x k.x; ordered = omega (arith, ints, clamps) };
}
with_heading South edge place p q g = record {
  start = same_point _ p refl (omega (arith, ints, clamps, g.0));
  finish = same_point _ q g.1 (omega (arith, ints, clamps, g.0));
  is = λ h k. record { way = refl; at = h.x; lo = least_in p.y q.y h.y k.y; hi = most_in p.y q.y h.y k.y; ordered = omega (arith, ints, clamps) };
}
with_heading West edge place p q g = record {
  start = same_point _ p (omega (arith, ints, clamps, g.0)) refl;
  finish = same_point _ q (omega (arith, ints, clamps, g.0)) g.1;
  is = λ h k. record { way = refl; at = h.y; lo = least_in p.x q.x h.x k.x; hi = most_in p.x q.x h.x k.x; ordered = omega (arith, ints, clamps) };
}
with_heading North edge place p q g = record {
  start = same_point _ p refl (omega (arith, ints, clamps, g.0));
  finish = same_point _ q g.1 (omega (arith, ints, clamps, g.0));
  is = λ h k. record { way = refl; at = h.x; lo = least_in p.y q.y h.y k.y; hi = most_in p.y q.y h.y k.y; ordered = omega (arith, ints, clamps) };
}

pub from_to : (edge place : ℕ) (p q : Point) → IsStraight p q → IsFromTo (run_between edge place p q) p q
from_to edge place p q straight = with_heading (heading p q) edge place p q (goes p q straight)

-- each run, the first of them at the place
pub record IsMade (edge place : ℕ) (r : Run) : Type 0 where
  pub is : IsRun r
  pub edge_is : r.edge ≡ edge
  pub place_is : r.place ≡ place

pub raw_each : (edge place : ℕ) (p : Point) (qs : List Point) → AreStraight p qs → PointIsOnSheet p → All PointIsOnSheet qs → (k : ℕ) → k < length (runs_along edge place (p ∷ qs)) → IsMade edge (place + k) (run_at (runs_along edge place (p ∷ qs)) k)
raw_each edge place p [] straight at within k h = absurd (omega arith)
raw_each edge place p (q ∷ qs) straight at within zero h =
    let next = All-head PointIsOnSheet q qs within in
    record { is = (from_to edge place p q straight.0).is at next; edge_is = refl; place_is = omega arith }
raw_each edge place p (q ∷ qs) straight at within (suc k) h =
    let more = raw_each edge (place + 1) q qs straight.1 (All-head PointIsOnSheet q qs within) (All-tail PointIsOnSheet q qs within) k (omega arith) in
    record { is = more.is; edge_is = more.edge_is; place_is = omega (arith, more.place_is) }

pub raw_joined : (edge place : ℕ) (p : Point) (qs : List Point) → AreStraight p qs → (k : ℕ) → k + 1 < length (runs_along edge place (p ∷ qs)) → end_of_run (run_at (runs_along edge place (p ∷ qs)) k) ≡ start_of_run (run_at (runs_along edge place (p ∷ qs)) (k + 1))
raw_joined edge place p [] straight k h = absurd (omega arith)
raw_joined edge place p (q ∷ []) straight k h = absurd (omega arith)
raw_joined edge place p (q ∷ t ∷ qs) straight zero h =
    (from_to edge place p q straight.0).finish ∙ sym (from_to edge (place + 1) q t straight.1.0).start
    ∙ ap (λ n. start_of_run (run_at (runs_along edge place (p ∷ q ∷ t ∷ qs)) n)) (let e : suc 0 ≡ 0 + 1 = omega arith in e)
raw_joined edge place p (q ∷ t ∷ qs) straight (suc k) h =
    raw_joined edge (place + 1) q (t ∷ qs) straight.1 k (omega arith)
    ∙ ap (λ n. start_of_run (run_at (runs_along edge place (p ∷ q ∷ t ∷ qs)) n)) (let e : suc (k + 1) ≡ suc k + 1 = omega arith in e)

-- the headings are those between the corners
heading_is : (edge place : ℕ) (p : Point) (qs : List Point) (k : ℕ) → k < length qs → (run_at (runs_along edge place (p ∷ qs)) k).heading ≡ heading (point_at_index (p ∷ qs) k) (point_at_index qs k)
heading_is edge place p [] k h = absurd (omega arith)
heading_is edge place p (q ∷ qs) zero h = refl
heading_is edge place p (q ∷ qs) (suc k) h = heading_is edge (place + 1) q qs k (omega arith)

count : (edge place : ℕ) (p : Point) (qs : List Point) → length (runs_along edge place (p ∷ qs)) ≡ length qs
count edge place p [] = refl
count edge place p (q ∷ qs) = ap suc (count edge (place + 1) q qs)

turns_at : (edge : ℕ) (p q : Point) (qs : List Point) (k : ℕ) → k + 1 < length (q ∷ qs) →
    heading (point_at_index (p ∷ q ∷ qs) k) (point_at_index (p ∷ q ∷ qs) (k + 1)) ≢ heading (point_at_index (p ∷ q ∷ qs) (k + 1)) (point_at_index (p ∷ q ∷ qs) (k + 2)) →
    (run_at (runs_along edge 1 (p ∷ q ∷ qs)) k).heading ≢ (run_at (runs_along edge 1 (p ∷ q ∷ qs)) (k + 1)).heading
turns_at edge p q qs k h turn same =
    let one = heading_is edge 1 p (q ∷ qs) k (omega arith) in
    let next = heading_is edge 1 p (q ∷ qs) (k + 1) h in
    let at : suc k ≡ k + 1 = omega arith in
    let after : suc (k + 1) ≡ k + 2 = omega arith in
    turn (ap (λ n. heading (point_at_index (p ∷ q ∷ qs) k) (point_at_index (p ∷ q ∷ qs) n)) (sym at) ∙ sym one ∙ same ∙ next ∙ ap (λ n. heading (point_at_index (p ∷ q ∷ qs) (k + 1)) (point_at_index (p ∷ q ∷ qs) n)) after)

-- the runs through corners are those of a route
pub are_runs : (edge : ℕ) (points : List Point) → AreCorners points → AreRunsOf edge (runs_along edge 1 points)
are_runs edge [] are = absurd (omega (arith, are.some))
are_runs edge (p ∷ []) are = absurd (omega (arith, are.some))
are_runs edge (p ∷ q ∷ qs) are =
    let at = All-head PointIsOnSheet p (q ∷ qs) are.on_sheet in
    let within = All-tail PointIsOnSheet p (q ∷ qs) are.on_sheet in
    record {
      some = omega arith;
      each = λ k h. (raw_each edge 1 p (q ∷ qs) are.straight at within k h).is;
      edges = λ k h. (raw_each edge 1 p (q ∷ qs) are.straight at within k h).edge_is;
      places = λ k h. omega (arith, (raw_each edge 1 p (q ∷ qs) are.straight at within k h).place_is);
      joined = raw_joined edge 1 p (q ∷ qs) are.straight;
      turns = λ k h. let few : k + 1 < length (q ∷ qs) = omega (arith, count edge 1 p (q ∷ qs)) in turns_at edge p q qs k few (are.turns k (omega arith));
    }

-- through one corner there is no run, and none through no corner
pub first_runs : (edge place : ℕ) (points : List Point) → [] ≡ runs_along edge place (take 1 points)
first_runs edge place [] = refl
first_runs edge place (p ∷ ps) = refl

-- one corner more is one run more
pub next_run : (edge place k : ℕ) (points : List Point) (p q : Point) → slice_get points k ≡ Some p → slice_get points (suc k) ≡ Some q →
    runs_along edge place (take (suc (suc k)) points) ≡ runs_along edge place (take (suc k) points) ++ run_between edge (place + k) p q ∷ []
next_run edge place k [] p q one next = cc
next_run edge place zero (t ∷ []) p q one next = cc
next_run edge place zero (t ∷ u ∷ ps) p q one next = let e : place ≡ place + 0 = omega arith in let same : t ≡ p = cc in let after : u ≡ q = cc in rw (← same, ← after, ← e) refl
next_run edge place (suc k) (t ∷ []) p q one next = cc
next_run edge place (suc k) (t ∷ u ∷ ps) p q one next =
    let e : place + 1 + k ≡ place + suc k = omega arith in
    ap (λ rs. run_between edge place t u ∷ rs) (next_run edge (place + 1) k (u ∷ ps) p q one next) ∙ ap (λ n. run_between edge place t u ∷ (runs_along edge (place + 1) (take (suc k) (u ∷ ps)) ++ run_between edge n p q ∷ [])) e

-- all corners
pub all_runs : (edge place k : ℕ) (points : List Point) → length points ≤ k → runs_along edge place (take k points) ≡ runs_along edge place points
all_runs edge place k points h = ap (λ ps. runs_along edge place ps) (take_all k points h)

pub more_runs : (edge k : ℕ) (points : List Point) (before after : List Run) (r : Run) (d : Point) → 1 ≤ k → k < length points →
    before ≡ runs_along edge 1 (take k points) → after ≡ before ++ r ∷ [] → r ≡ run_between edge k (get_or points (k - 1) d) (get_or points k d) →
    after ≡ runs_along edge 1 (take (k + 1) points)
more_runs edge zero points before after r d some h so_far put here = absurd (omega arith)
more_runs edge (suc k) points before after r d some h so_far put here =
    let p = get_or points k d in
    let q = get_or points (suc k) d in
    let at : suc k - 1 ≡ k = omega arith in
    let more : suc (suc k) ≡ suc k + 1 = omega arith in
    let place : 1 + k ≡ suc k = omega arith in
    put ∙ ap (λ rs. rs ++ r ∷ []) so_far
    ∙ ap (λ t. runs_along edge 1 (take (suc k) points) ++ t ∷ []) (here ∙ ap (λ n. run_between edge (suc k) (get_or points n d) q) at ∙ ap (λ n. run_between edge n p q) (sym place))
    ∙ sym (next_run edge 1 k points p q (slice_get-get_or points k d (omega arith)) (slice_get-get_or points (suc k) d h))
    ∙ ap (λ n. runs_along edge 1 (take n points)) more
