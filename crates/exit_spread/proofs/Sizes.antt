-- What is read of a problem lies on the sheet, and what is ahead by what lines keep is small.
use Rattle.std.proofs.Common.{◌≡◌, ℕ, ◌<◌, ◌≤◌, List, Option, Some, None, All, Contains, length, refl, sym, subst, arith, unsigned_abs, inl, inr}
use Rattle.std.specs.Prelude.{ℤ, ◌≤ℤ◌, slice_get}
use Rattle.std.proofs.lemmas.Int.{ints}
use Rattle.std.proofs.lemmas.List.Elements.{All-contains}
use Rattle.plane_geom.specs.declared.point.Point.{Point}
use Rattle.plane_geom.specs.declared.point.Dir.{Dir}
use Rattle.plane_geom.specs.declared.point.Dir.TheVariants.{East, South, West, North}
use Rattle.plane_geom.specs.declared.point.Way.{Way}
use Rattle.plane_geom.specs.Along.{across, reach, way_of}
use Rattle.plane_geom.specs.Point.{IsCoordinate, PointIsOnSheet, distance}
use Rattle.plane_geom.proofs.Signed.{distance_bound}
use Rattle.line_arena.specs.Arena.{StandsAt}
use Rattle.walk_model.specs.declared.task.Choice.{Choice}
use Rattle.walk_model.specs.Choice.{IsChoice}
use Rattle.walk_laws.proofs.OnKeptLines.Lines.{chosen}
use Rattle.move_model.specs.declared.ahead.Ahead.{Ahead}
use Rattle.move_model.proofs.GoingOn.Rests.{crossing_on_sheet}
use Rattle.search_problem.specs.Ends.{IsEndingOf}
use Rattle.search_problem.specs.Problems.{IsReady}
use Rattle.search_problem.specs.declared.ends.Ending.{Ending}
use Rattle.search_problem.specs.declared.problem.Problem.{Problem}
use Rattle.exit_rows.specs.Exits.{CountsAt, IsSmallKept, ahead_at, least_at}
use Rattle.exit_rows.specs.declared.exit.Kept.{Kept}
use Rattle.exit_rows.proofs.Least.{attained}
use Rattle.exit_spread.specs.Propagating.{IsFurtherAhead, reach_along}
use Rattle.exit_spread.specs.Offers.{from_after}
use Rattle.exit_spread.specs.Searching.{IsKeptOf}
use Rattle.exit_spread.proofs.Known.Attained.{from_cases}
use Rattle.exit_rows.proofs.Orders.{gap_above}

pub across_small : (d : Dir) (p : Point) → PointIsOnSheet p → unsigned_abs (across (way_of d) p) ≤ 2000000000
across_small East p h = let low = h.y.low in let high = h.y.high in omega (arith, ints, low, high)
across_small South p h = let low = h.x.low in let high = h.x.high in omega (arith, ints, low, high)
across_small West p h = let low = h.y.low in let high = h.y.high in omega (arith, ints, low, high)
across_small North p h = let low = h.x.low in let high = h.x.high in omega (arith, ints, low, high)

-- how far on a point of the sheet lies is a coordinate
pub reach_within : (d : Dir) (p : Point) → PointIsOnSheet p → IsCoordinate (reach d p)
reach_within East p h = h.x
reach_within South p h = h.y
reach_within West p h = let low = h.x.low in let high = h.x.high in record { low = omega (arith, ints, high); high = omega (arith, ints, low) }
reach_within North p h = let low = h.y.low in let high = h.y.high in record { low = omega (arith, ints, high); high = omega (arith, ints, low) }

-- a coordinate along a line, between two of whose reaches it is
pub along_within : (d : Dir) (z low high : ℤ) → IsCoordinate low → IsCoordinate high → low ≤ℤ reach_along d z → reach_along d z ≤ℤ high → IsCoordinate z
along_within East z low high l h from to = let least = l.low in let most = h.high in record { low = omega (arith, ints, least, from); high = omega (arith, ints, most, to) }
along_within South z low high l h from to = let least = l.low in let most = h.high in record { low = omega (arith, ints, least, from); high = omega (arith, ints, most, to) }
along_within West z low high l h from to = let least = l.low in let most = h.high in record { low = omega (arith, ints, most, to); high = omega (arith, ints, least, from) }
along_within North z low high l h from to = let least = l.low in let most = h.high in record { low = omega (arith, ints, most, to); high = omega (arith, ints, least, from) }

pub crossing_within : (p : Problem) (c : ℕ) (q : Point) → IsReady p → StandsAt p.arena.now c q → PointIsOnSheet q
crossing_within p c q ready here = crossing_on_sheet ready.floor p.arena.now c q ready.arena ready.problem.stands here

-- an ending is that of an end choice
pub record IsSmallEnding (p : Problem) (e : Ending) : Type 0 where
  pub choice : Choice
  pub of : IsEndingOf p.solids.now p.arena.now p.task.now choice e
  pub is_choice : IsChoice choice
  pub port : PointIsOnSheet e.port
  pub rest : e.rest ≤ 9000000000

pub small_ending : (p : Problem) (e : Ending) → IsReady p → Contains p.endings.items e → IsSmallEnding p e
small_ending p e ready inside =
    let sound : (e.choice < length p.task.now.ends) × (c : Choice) × IsEndingOf p.solids.now p.arena.now p.task.now c e =
    All-contains (λ k. (k.choice < length p.task.now.ends) × (c : Choice) × IsEndingOf p.solids.now p.arena.now p.task.now c k) p.endings.items e ready.endings.sound inside in
    let c : Choice = sound.1 in
    let of : IsEndingOf p.solids.now p.arena.now p.task.now c e = sound.2 in
    let is : IsChoice c = chosen IsChoice p.task.now.ends e.choice c of.is_end ready.problem.is_task.ends.each in
    let far : distance c.pin c.port ≤ 8000000000 = distance_bound c.pin c.port is.pin is.port in
    record {
      choice = c;
      of = of;
      is_choice = is;
      port = subst PointIsOnSheet (sym of.port) is.port;
      rest = omega (arith, of.rest, far, is.cost);
    }

-- an exit counts from a coordinate on
from_within : (o : Option Point) (d : Dir) (q : Point) → PointIsOnSheet q → ((r : Point) → o ≡ Some r → PointIsOnSheet r) → IsCoordinate (from_after o d q)
from_within None d q on via = record { low = omega (arith, ints); high = omega (arith, ints) }
from_within (Some r) d q on via =
    let here = reach_within d q on in
    let back = reach_within d r (via r refl) in
    let high = here.high in
    let low = back.low in
    elim (from_cases r q d) as (λ _. IsCoordinate (from_after (Some r) d q)) [
      | inl far ↦ record { low = omega (arith, ints, far); high = omega (arith, ints, far) }
      | inr (same, less, is) ↦ record { low = omega (arith, ints, is, low); high = omega (arith, ints, is, less, high) }
    ]

-- an exit that a line keeps is small
pub kept_small : (p : Problem) (number_of : ℕ → Way → ℕ) → IsReady p → (k line : ℕ) (d : Dir) (e : Kept) → IsKeptOf p number_of k line d e → IsSmallKept e
kept_small p number_of ready k line d e h =
    let on = crossing_within p e.crossing h.point ready h.here in
    record {
      from = subst IsCoordinate (sym h.from)
          (from_within (slice_get p.task.now.via k) d h.point on (λ r is. chosen PointIsOnSheet p.task.now.via k r is ready.problem.is_task.via));
      at = subst IsCoordinate (sym h.at) (reach_within d h.point on);
      ahead = h.small;
    }

-- what is ahead by it at a point for which it counts exceeds that by the length of a line at most
pub counted_small : (e : Kept) (z : ℤ) → IsSmallKept e → IsCoordinate z → CountsAt e z → IsFurtherAhead (ahead_at e z)
counted_small e z h within counts =
    let low = within.low in
    let high = h.at.high in
    let before = counts.before in
    let gap = gap_above z e.at (omega (arith, ints, before)) in
    record { cost = omega (arith, ints, h.ahead.cost, low, high, gap); runs = h.ahead.runs; lean = h.ahead.lean }

pub least_small : (row : List Kept) (z : ℤ) (v : Ahead) → All IsSmallKept row → IsCoordinate z → least_at row z ≡ Some v → IsFurtherAhead v
least_small row z v small within is =
    let any = attained row z v is in
    subst IsFurtherAhead any.4.1 (counted_small any.1 z (All-contains IsSmallKept row any.1 small (any.0, any.2, any.3)) within any.4.0)
