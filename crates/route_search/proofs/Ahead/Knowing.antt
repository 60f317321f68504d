-- What exits that were spread let one know at places.
use Rattle.std.proofs.Common.{◌≡◌, Option, Some, None, refl, sym, ap, ◌∙◌}
use Rattle.std.specs.FinMap.{get}
use Rattle.plane_geom.specs.declared.point.Point.{Point}
use Rattle.plane_geom.specs.declared.point.Dir.{Dir}
use Rattle.line_arena.specs.Arena.{Pair, StandsAt}
use Rattle.line_arena.proofs.Arenas.ArenaLaws.{some_point}
use Rattle.move_model.specs.declared.place.Place.{Place}
use Rattle.move_model.specs.declared.ahead.Ahead.{Ahead}
use Rattle.line_lists.specs.Lists.{number_of}
use Rattle.exit_spread.specs.Known.{known, known_towards}
use Rattle.exit_spread.specs.Ways.{AreNumbered}
use Rattle.exit_spread.proofs.Known.Numbers.{lists_number}
use Rattle.exit_spread.proofs.Known.Places.{known_attained, known_exactly, towards_exactly}
use Rattle.exit_spread.proofs.SmallKnown.{known_small}
use Rattle.route_search.specs.Known.{IsAttained, IsKnowing, IsKnownFirst, known_at, known_of, knowledge_of, towards_at, towards_of}
use Rattle.route_search.specs.Matching.{point_with}
use Rattle.route_search.proofs.Matching.{point_is}
use Rattle.route_search.specs.declared.follow.Follower.{Follower}

module _ (f : Follower) (h : IsKnowing f) where
  -- what is known at a place, by its point
  pub known_is : (x : Place) (at : Point) → StandsAt f.problem.now.arena.now x.crossing at → known_of f x ≡ known f.problem.now (number_of f.lists.now) f.spread.now x at
  known_is x at here = ap (known_at f x) (point_is f.problem.now.arena.now x.crossing at h.ready.arena here)

  pub towards_is : (x : Place) (at : Point) (d : Dir) → StandsAt f.problem.now.arena.now x.crossing at →
      towards_of f x d ≡ known_towards f.problem.now (number_of f.lists.now) f.spread.now x at d
  towards_is x at d here = ap (towards_at f x d) (point_is f.problem.now.arena.now x.crossing at h.ready.arena here)

  -- something is known of a place alone whose crossing is there
  is_known : (x : Place) (v : Ahead) → known_of f x ≡ Some v → (at : Point) × StandsAt f.problem.now.arena.now x.crossing at × (known f.problem.now (number_of f.lists.now) f.spread.now x at ≡ Some v)
  is_known x v is = by_pair (get f.problem.now.arena.now.crossings x.crossing) refl
    where
      by_pair : (o : Option Pair) → get f.problem.now.arena.now.crossings x.crossing ≡ o → (at : Point) × StandsAt f.problem.now.arena.now x.crossing at × (known f.problem.now (number_of f.lists.now) f.spread.now x at ≡ Some v)
      by_pair None none =
          absurd (let wrong : ◌≡◌ {A = Option Ahead} None (Some v) = sym (ap (λ o. known_at f x (point_with f.problem.now.arena.now o)) none) ∙ is in cc)
      by_pair (Some pair) there =
          let s = some_point f.problem.now.arena.now x.crossing pair h.ready.arena there in
          (s.0, s.1, sym (known_is x s.0 s.1) ∙ is)

  numbered : AreNumbered f.problem.now.arena.now (number_of f.lists.now)
  numbered = lists_number f.problem.now.arena.now f.lists.now h.ready.arena h.lists

  -- it lies ahead on some way, and is small
  pub all_attained : IsAttained f.problem.now (knowledge_of f)
  all_attained = record {
    attained = λ x v is. let k = is_known x v is in (k.0, known_attained f.problem.now (number_of f.lists.now) f.spread.now h.ready numbered h.spread x k.0 v k.1 k.2);
    small = λ x v is. let k = is_known x v is in known_small f.problem.now (number_of f.lists.now) f.spread.now h.ready h.spread.settled.searching x k.0 v k.1 k.2;
  }

  -- and along the way of a first walk it is exactly what lies ahead
  pub all_exact : IsKnownFirst f.problem.now (knowledge_of f)
  all_exact = record {
    all = all_attained;
    exact = λ t first along y q rest on.
        known_is y q on.here ∙ known_exactly f.problem.now (number_of f.lists.now) f.spread.now h.ready numbered h.spread t first along y q rest on;
    towards = λ t first along y q l rest on.
        towards_is y q l.to.heading on.here ∙ towards_exactly f.problem.now (number_of f.lists.now) f.spread.now h.ready numbered h.spread t first along y q l rest on;
  }
