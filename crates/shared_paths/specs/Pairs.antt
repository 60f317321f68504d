-- Pairs of runs of two routes that lie on one line, and the pairs to which they go on.
use Rattle.std.specs.Prelude.{◌≡◌, ◌≢◌, ℕ, ◌+◌, ◌-◌, ◌<◌, ◌<ℤ◌, Bool, true, false, List, [], ◌∷◌, length, if◌then◌else◌}
use Rattle.plane_geom.specs.declared.point.Dir.{Dir}
use Rattle.plane_geom.specs.Point.{opposite}
use Rattle.segment_order.specs.declared.run.Run.{Run}
use Rattle.segment_order.specs.declared.ray.Entry.{Entry}
use Rattle.segment_order.specs.declared.ray.Entry.TheVariants.{Stop}
use Rattle.segment_order.specs.Run.{run_at}
use Rattle.segment_order.specs.Ray.{is_heading, ray}

-- a run of each of two routes, by their indices, from 0
pub record Pair : Type 0 where
  pub a : ℕ
  pub b : ℕ

-- two runs of one way lie on one line, and overlap in more than a point
pub record AreCompanions (r s : Run) : Type 0 where
  pub way : r.way ≡ s.way
  pub at : r.at ≡ s.at
  pub begins : r.lo <ℤ s.hi
  pub ends : s.lo <ℤ r.hi

-- the first entry of a ray; each has one
abbrev pub first_of : List Entry → Entry
first_of [] = Stop
first_of (e ∷ es) = e

-- what the route does first where one leaves its run with this index in the direction
abbrev pub first_entry : List Run → ℕ → Dir → Entry
first_entry route k d = first_of (ray route (run_at route k) d)

-- the direction in which one leaves the run who goes ahead along its route, or back
abbrev pub leaving : Bool → Run → Dir
leaving true r = r.heading
leaving false r = opposite r.heading

-- the index of the run that follows the one with this index in the direction
abbrev pub next_index : List Run → ℕ → Dir → ℕ
next_index route k d = if is_heading (run_at route k).heading d then k + 1 else k - 1

-- the direction in which the first route leaves the pair, ahead or back
abbrev pub outward : List Run → Bool → Pair → Dir
outward a ahead p = leaving ahead (run_at a p.a)

-- at this end of the pair both routes do the same, and do not stop
pub record GoesOn (a b : List Run) (ahead : Bool) (p : Pair) : Type 0 where
  pub same : first_entry a p.a (outward a ahead p) ≡ first_entry b p.b (outward a ahead p)
  pub turns : first_entry a p.a (outward a ahead p) ≢ Stop

-- the pair to which it goes on
abbrev pub next_pair : List Run → List Run → Bool → Pair → Pair
next_pair a b ahead p = record { a = next_index a p.a (outward a ahead p); b = next_index b p.b (outward a ahead p) }

-- the indices are those of runs, which are companions
pub record IsPair (a b : List Run) (p : Pair) : Type 0 where
  pub of_a : p.a < length a
  pub of_b : p.b < length b
  pub companions : AreCompanions (run_at a p.a) (run_at b p.b)
