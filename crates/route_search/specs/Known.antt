-- What a search knows at places when it has spread its exits. No public clause cites this module.
use Rattle.std.specs.Prelude.{◌≡◌, ◌≤◌, List, ◌∷◌, Option, Some, None, length}
use Rattle.std.specs.FinMap.{get}
use Rattle.plane_geom.specs.declared.point.Point.{Point}
use Rattle.plane_geom.specs.declared.point.Dir.{Dir}
use Rattle.line_arena.specs.Arena.{StandsAt}
use Rattle.walk_model.specs.Order.{IsFirst, Triple}
use Rattle.move_model.specs.declared.place.Place.{Place}
use Rattle.move_model.specs.declared.ahead.Ahead.{Ahead}
use Rattle.move_model.specs.Ahead.{ahead}
use Rattle.move_model.specs.Ways.{GoesAlongWay, HasRest, Leg, steps_of_way}
use Rattle.search_problem.specs.Problems.{IsReady}
use Rattle.search_problem.specs.declared.problem.Problem.{Problem}
use Rattle.line_lists.specs.Lists.{AreListsOf, number_of}
use Rattle.route_search.specs.Matching.{point_with}
use Rattle.exit_spread.specs.Known.{known, known_towards}
use Rattle.exit_spread.specs.Searching.{IsSpread}
use Rattle.exit_spread.specs.Propagating.{IsOfferable}
use Rattle.exit_spread.specs.Ways.{IsWayAhead}
use Rattle.route_search.specs.declared.follow.Follower.{Follower}

-- what a search knows to lie ahead of a place, and ahead of it in a direction
pub record Knowledge : Type 0 where
  pub ahead : Place → Option Ahead
  pub towards : Place → Dir → Option Ahead

-- what is known to lie ahead of the place, which is at the point, if its crossing is there
abbrev pub known_at : Follower → Place → Option Point → Option Ahead
known_at f x None = None
known_at f x (Some at) = known f.problem.now (number_of f.lists.now) f.spread.now x at

-- what is known to lie ahead of the place
abbrev pub known_of : Follower → Place → Option Ahead
known_of f x = known_at f x (point_with f.problem.now.arena.now (get f.problem.now.arena.now.crossings x.crossing))

-- the same in the direction
abbrev pub towards_at : Follower → Place → Dir → Option Point → Option Ahead
towards_at f x d None = None
towards_at f x d (Some at) = known_towards f.problem.now (number_of f.lists.now) f.spread.now x at d

abbrev pub towards_of : Follower → Place → Dir → Option Ahead
towards_of f x d = towards_at f x d (point_with f.problem.now.arena.now (get f.problem.now.arena.now.crossings x.crossing))

-- what the follower knows
abbrev pub knowledge_of : Follower → Knowledge
knowledge_of f = record { ahead = known_of f; towards = towards_of f }

-- the exits were spread over the lists of the lines
pub record IsKnowing (f : Follower) : Type 0 where
  pub ready : IsReady f.problem.now
  pub lists : AreListsOf f.problem.now.arena.now f.lists.now
  pub spread : IsSpread f.problem.now (number_of f.lists.now) f.spread.now

-- the crossing of the place exists, and the place has passed at most the number of checkpoints that there are
pub record IsPlace (p : Problem) (x : Place) : Type 0 where
  pub at : Point
  pub here : StandsAt p.arena.now x.crossing at
  pub stage : x.stage ≤ length p.task.now.via

-- what is known to lie ahead of a place lies ahead on some way, and is small
pub record IsAttained (p : Problem) (known : Knowledge) : Type 0 where
  pub attained : (x : Place) (v : Ahead) → known.ahead x ≡ Some v → (at : Point) × IsWayAhead p x at v
  pub small : (x : Place) (v : Ahead) → known.ahead x ≡ Some v → IsOfferable v

-- and along the way of a first walk exactly what is ahead is known, also in the direction in which it goes on
pub record IsKnownFirst (p : Problem) (known : Knowledge) : Type 0 where
  pub all : IsAttained p known
  pub exact : (t : Triple) → IsFirst p.solids.now p.task.now t → (along : GoesAlongWay p.solids.now p.arena.now p.task.now t) →
      (y : Place) (q : Point) (rest : List Leg) → HasRest p.solids.now p.arena.now p.task.now t along y q rest →
      known.ahead y ≡ Some (ahead p.task.now.penalty y.heading q (steps_of_way rest along.end) along.end.cost)
  pub towards : (t : Triple) → IsFirst p.solids.now p.task.now t → (along : GoesAlongWay p.solids.now p.arena.now p.task.now t) →
      (y : Place) (q : Point) (l : Leg) (rest : List Leg) → HasRest p.solids.now p.arena.now p.task.now t along y q (l ∷ rest) →
      known.towards y l.to.heading ≡ Some (ahead p.task.now.penalty y.heading q (steps_of_way (l ∷ rest) along.end) along.end.cost)
