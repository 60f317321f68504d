-- Which exits are offered: those that may be left on the way of a first walk.
use Rattle.std.specs.Prelude.{ℕ, ◌≡◌, ◌+◌, ◌<◌, ◌⊎◌, ◌&&◌, ◌+ℤ◌, ℤ, negsuc, pos, int_lt, if◌then◌else◌, List, Option, Some, None, Contains, Any, slice_get}
use Rattle.std.specs.BinaryHeap.{heap_items}
use Rattle.std.specs.Ordering.{int_eq}
use Rattle.plane_geom.specs.declared.point.Point.{Point}
use Rattle.plane_geom.specs.declared.point.Dir.{Dir}
use Rattle.plane_geom.specs.declared.point.Way.{Way}
use Rattle.plane_geom.specs.Along.{across, reach, way_of}
use Rattle.plane_geom.specs.Point.{opposite}
use Rattle.line_arena.specs.Arena.{LiesFurther, StandsAt}
use Rattle.walk_model.specs.Cost.{turn}
use Rattle.walk_laws.specs.Sides.{IsHeldTo, SharesSideTo, held_to}
use Rattle.move_model.specs.declared.place.Place.{Place}
use Rattle.move_model.specs.declared.ahead.Ahead.{Ahead}
use Rattle.move_model.specs.Places.{ComesTo}
use Rattle.move_model.specs.Stations.{line_between}
use Rattle.search_problem.specs.declared.problem.Problem.{Problem}
use Rattle.exit_rows.specs.Exits.{CountsAt, IsLate, IsUndercut, ahead_at}
use Rattle.exit_rows.specs.Rows.{kept_in}
use Rattle.exit_rows.specs.declared.exit.Exit.{Exit}
use Rattle.exit_rows.specs.declared.exit.Kept.{Kept}
use Rattle.exit_spread.specs.declared.spread.Spread.{Spread}
use Rattle.exit_spread.specs.Ways.{bound_at, most_runs, place_at, turned}

-- from which reach on an exit at the point counts, where the next checkpoint is this one: from just after it, if it is further back on the line
abbrev pub from_after : Option Point → Dir → Point → ℤ
from_after None d q = negsuc 1999999999
from_after (Some r) d q =
    if int_eq (across (way_of d) r) (across (way_of d) q) && int_lt (reach d r) (reach d q) then reach d r +ℤ pos 1 else negsuc 1999999999

-- the same for walks that have passed k checkpoints
abbrev pub from_of : List Point → ℕ → Dir → Point → ℤ
from_of via k d q = from_after (slice_get via k) d q

-- the exit, which is at the point, as its line keeps it for walks that have passed k checkpoints
abbrev pub kept_of : Problem → ℕ → Point → Exit → Kept
kept_of p k at x = record { crossing = x.place.crossing; from = from_of p.task.now.via k x.place.heading at; at = reach x.place.heading at; next = x.next; ahead = x.ahead }

-- the exit at the place, on the line along its heading
abbrev pub exit_of : (ℕ → Way → ℕ) → Place → Option Dir → Ahead → Exit
exit_of number_of x next v = record { place = x; line = number_of x.crossing (way_of x.heading); next = next; ahead = v }

-- a walk through the exit, which is at the point, costs more than one that was found, or has more runs than a first walk
abbrev pub IsLeftOut : Problem → Spread → Point → Exit → Type 0
IsLeftOut p s at x = (s.best < x.ahead.cost + bound_at p x.place at) ⊎ (most_runs < x.ahead.runs)

-- the exit is still to be taken
abbrev pub IsQueued : Problem → Spread → Point → Exit → Type 0
IsQueued p s at x = Contains (heap_items s.queue.heap) (record { 0 = record { bound = x.ahead.cost + bound_at p x.place at; item = x } })

-- in each stage from which a walk reaches the exit, its line keeps one that stands for it
abbrev pub IsTaken : Problem → Spread → Point → Exit → Type 0
IsTaken p s at x =
    (k : ℕ) → ComesTo p.task.now.via k at x.place.stage → IsLate (kept_in s.rows k x.line x.place.heading) (kept_of p k at x)

-- the exit, which is at the point, was offered: it is left out, is still to be taken, was taken, or is the one that is being taken
abbrev pub IsOffered : Problem → Spread → Option Exit → Point → Exit → Type 0
IsOffered p s hole at x = IsLeftOut p s at x ⊎ (IsQueued p s at x ⊎ (IsTaken p s at x ⊎ (hole ≡ Some x)))

-- a run in the direction, to which a walk comes by the heading, is held from the point to the exit, or need not be since no bend follows there
abbrev pub IsHeldUpTo : Problem → Dir → Dir → Point → Kept → Type 0
IsHeldUpTo p h d r e =
    (e.next ≡ None)
    ⊎ ((b : Dir) × (q : Point) × (e.next ≡ Some b) × StandsAt p.arena.now e.crossing q × IsHeldTo p.solids.now p.task.now.via (held_to h b) (line_between d r q))

-- a run in the heading, to which a walk comes by a turn from the direction `before`, and which turns at the crossing into d, touches the side to which it is held
pub record BeginsAtTurn (p : Problem) (h : Dir) (c : ℕ) (q : Point) (d : Dir) : Type 0 where
  pub before : Dir
  pub turns : turn before h ≡ 1
  pub from : ℕ
  pub point : Point
  pub here : StandsAt p.arena.now from point
  pub lies : LiesFurther p.arena.now h from c
  pub held : Any (λ s. SharesSideTo (held_to before d) (line_between h point q) s.rect) p.solids.now

-- a run in the heading that turns at the crossing, which is at the point, into d may begin somewhere: its whole line has an entry's port or a checkpoint, or the run is held from a turn on
abbrev pub MayBegin : Problem → Dir → ℕ → Point → Dir → Type 0
MayBegin p h c q d =
    Any (λ e. across (way_of h) e.port ≡ across (way_of h) q) p.entries.items
    ⊎ (Any (λ v. across (way_of h) v ≡ across (way_of h) q) p.task.now.via ⊎ BeginsAtTurn p h c q d)

-- the exits behind this one at the crossing, which is at the point, were offered: by a turn into its direction, by doubling back at a checkpoint, and by going straight on where more checkpoints are passed
pub record IsPropagatedAt (p : Problem) (number_of : ℕ → Way → ℕ) (s : Spread) (hole : Option Exit) (k : ℕ) (d : Dir) (e : Kept) (c : ℕ) (r : Point) : Type 0 where
  pub turns : (h : Dir) → turn h d ≡ 1 → IsHeldUpTo p h d r e → MayBegin p h c r d →
      IsOffered p s hole r (exit_of number_of (place_at c k h) (Some d) (turned p h r d (ahead_at e (reach d r))))
  pub tips : Contains p.task.now.via r →
      IsOffered p s hole r (exit_of number_of (place_at c k (opposite d)) None (turned p (opposite d) r d (ahead_at e (reach d r))))
  pub ons : (j : ℕ) → j < k → ComesTo p.task.now.via j r k → IsOffered p s hole r (exit_of number_of (place_at c k d) None (ahead_at e (reach d r)))

-- so it is at each crossing of the line for which the exit counts, unless another exit of the line has less ahead there
abbrev pub IsPropagated : Problem → (ℕ → Way → ℕ) → Spread → Option Exit → ℕ → ℕ → Dir → Kept → Type 0
IsPropagated p number_of s hole k line d e =
    (c : ℕ) (r : Point) → StandsAt p.arena.now c r → number_of c (way_of d) ≡ line → CountsAt e (reach d r) →
    IsUndercut (kept_in s.rows k line d) e (reach d r) ⊎ IsPropagatedAt p number_of s hole k d e c r
