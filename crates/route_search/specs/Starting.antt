-- The entry of the first walk, and what is known along it. No public clause cites this module.
use Rattle.std.specs.Prelude.{◌≡◌, ◌≢◌, ◌+◌, ◌+ℤ◌, List, ◌++◌, ◌∷◌, Option, Some, None, Contains, All}
use Rattle.std.specs.Ordering.{nat_cmp, ordering_then}
use Rattle.std.specs.declared.cmp.Ordering.TheVariants.{Less, Greater}
use Rattle.plane_geom.specs.Along.{across, way_of}
use Rattle.plane_geom.specs.declared.point.Point.{Point}
use Rattle.line_arena.specs.Arena.{StandsAt}
use Rattle.walk_model.specs.Order.{Triple, IsFirst}
use Rattle.move_model.specs.declared.place.Place.{Place}
use Rattle.move_model.specs.declared.ahead.Ahead.{Ahead}
use Rattle.move_model.specs.Ahead.{ahead, ahead_cmp}
use Rattle.move_model.specs.Ways.{GoesAlongWay, Leads, Leg, steps_of_way}
use Rattle.search_problem.specs.declared.ends.Entry.{Entry}
use Rattle.search_problem.specs.declared.problem.Problem.{Problem}
use Rattle.route_search.specs.Known.{Knowledge}

-- the key of a whole walk that enters there and has this ahead
abbrev pub whole_from : Entry → Ahead → Ahead
whole_from e v = record { cost = e.lead + v.cost; runs = v.runs + 1; lean = v.lean +ℤ across (way_of e.place.heading) e.port }

-- a walk that enters at the first entry is no greater than one at the second, and on a tie it has no later start choice
abbrev pub EntersNoLater : Entry → Ahead → Entry → Ahead → Type 0
EntersNoLater d v e w = ordering_then (ahead_cmp (whole_from d v) (whole_from e w)) (nat_cmp d.choice e.choice) ≢ Greater

-- no other of the entries of which something is known is better than this one, and this is ahead of it
pub record IsLeastEntry (known : Place → Option Ahead) (entries : List Entry) (entry : Entry) (v : Ahead) : Type 0 where
  pub is : Contains entries entry
  pub is_known : known entry.place ≡ Some v
  pub least : All (λ e. (w : Ahead) → known e.place ≡ Some w → EntersNoLater entry v e w) entries

-- the same of the entry found so far, or there is none, since nothing is known of any
abbrev pub IsLeastOf : (Place → Option Ahead) → List Entry → Option (Entry × Ahead) → Type 0
IsLeastOf known entries None = All (λ e. known e.place ≡ None) entries
IsLeastOf known entries (Some found) = IsLeastEntry known entries found.0 found.1

-- a walk that enters there and has this ahead is less than one at the entry found so far, if there is one
abbrev pub IsLessThan : Entry → Ahead → Option (Entry × Ahead) → Type 0
IsLessThan e v None = Unit {0}
IsLessThan e v (Some found) = ahead_cmp (whole_from e v) (whole_from found.0 found.1) ≡ Less

-- this is the better of the entry and the entry found so far: the entry if what is known of it makes a walk less
pub record IsBetterOf (known : Place → Option Ahead) (e : Entry) (found better : Option (Entry × Ahead)) : Type 0 where
  pub none : known e.place ≡ None → better ≡ found
  pub less : (v : Ahead) → known e.place ≡ Some v → IsLessThan e v found → better ≡ Some (e, v)
  pub not_less : (v : Ahead) → known e.place ≡ Some v → (IsLessThan e v found → ⊥) → better ≡ found

-- a first walk and its way, along which exactly what is ahead is known, also in the direction in which it goes on
pub record IsKnownAlong (p : Problem) (known : Knowledge) (t : Triple) : Type 0 where
  pub first : IsFirst p.solids.now p.task.now t
  pub along : GoesAlongWay p.solids.now p.arena.now p.task.now t
  pub exact : (passed legs : List Leg) (x : Place) (at : Point) → along.legs ≡ passed ++ legs →
      Leads p.arena.now p.task.now.via along.entry passed x → StandsAt p.arena.now x.crossing at →
      known.ahead x ≡ Some (ahead p.task.now.penalty x.heading at (steps_of_way legs along.end) along.end.cost)
  pub towards : (passed : List Leg) (l : Leg) (legs : List Leg) (x : Place) (at : Point) → along.legs ≡ passed ++ l ∷ legs →
      Leads p.arena.now p.task.now.via along.entry passed x → StandsAt p.arena.now x.crossing at →
      known.towards x l.to.heading ≡ Some (ahead p.task.now.penalty x.heading at (steps_of_way (l ∷ legs) along.end) along.end.cost)

-- a first walk enters there, and this is ahead of it
pub record EntersAt (p : Problem) (known : Knowledge) (entry : Entry) (v : Ahead) (t : Triple) : Type 0 where
  pub way : IsKnownAlong p known t
  pub start : entry.choice ≡ t.start
  pub place : entry.place ≡ way.along.entry
  pub is_known : known.ahead entry.place ≡ Some v
