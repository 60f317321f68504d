-- Small cases of the definitions, at coordinates of a few thousandths. Most are found by computing.
use Rattle.std.proofs.Common.{◌≡◌, ◌≢◌, ℕ, suc, zero, ◌<◌, ◌≤◌, ℤ, pos, negsuc, List, [], ◌∷◌, Some, inr, refl, ap, arith}
use Rattle.std.specs.Prelude.{slice_get, unwrap_or}
use Rattle.std.specs.declared.cmp.Ordering.TheVariants.{Less, Greater}
use Rattle.std.proofs.lemmas.Int.{ints}
use Rattle.plane_geom.specs.declared.point.Point.{Point}
use Rattle.plane_geom.specs.declared.point.Dir.TheVariants.{East, South, West, North}
use Rattle.plane_geom.specs.declared.rect.Rect.{Rect}
use Rattle.plane_geom.specs.declared.rect.Solid.{Solid}
use Rattle.plane_geom.proofs.Steps.{from_step}
use Rattle.line_arena.specs.Arena.{Arena, StandsAt}
use Rattle.walk_model.specs.declared.task.Choice.{Choice}
use Rattle.move_model.specs.declared.ahead.Ahead.{Ahead}
use Rattle.move_model.specs.declared.ahead.Stretch.{Stretch}
use Rattle.move_model.specs.Ahead.{ahead, ahead_cmp, with_start, with_stretch}
use Rattle.move_model.specs.Boxes.{distance_from, fewest_bends}
use Rattle.move_model.specs.Corners.{IsDrawn}
use Rattle.move_model.specs.Places.{ComesTo, HasFreeStub}
use Rattle.move_model.specs.Ways.{IsWay, steps_of_way, walk_along}

abbrev at : ℤ → ℤ → Point
at x y = record { x = x; y = y }

-- three steps with a turn, before a choice that costs 7: the run that begins is the vertical one, at x = 6
turns_once : ahead 50 East (at (pos 5) (pos 2)) (East ∷ South ∷ South ∷ []) 7 ≡ record { cost = 60; runs = 1; lean = pos 6 }
turns_once = refl

-- who comes in another heading turns before the first step as well, at y = 2
turns_twice : ahead 50 North (at (pos 5) (pos 2)) (East ∷ South ∷ South ∷ []) 7 ≡ record { cost = 110; runs = 2; lean = pos 8 }
turns_twice = refl

-- a doubling back begins a run and costs two bends
doubles_back : ahead 50 West (at (pos 5) (pos 2)) (East ∷ []) 0 ≡ record { cost = 101; runs = 1; lean = pos 2 }
doubles_back = refl

abbrev stretch : Stretch
stretch = record { from = at (pos 1) (pos 2); dir = East; steps = 4 }

abbrev behind : Ahead
behind = record { cost = 10; runs = 3; lean = negsuc 4 }

-- a stretch that goes on adds its steps alone
goes_on : with_stretch 50 East stretch behind ≡ record { cost = 14; runs = 3; lean = negsuc 4 }
goes_on = refl

-- after a turn it adds a bend, a run and its coordinate across
turned_into : with_stretch 50 South stretch behind ≡ record { cost = 64; runs = 4; lean = negsuc 2 }
turned_into = refl

-- fewer runs stand first whatever the leans are, and a lower cost whatever the runs
fewer_runs_first : ahead_cmp (record { cost = 10; runs = 2; lean = pos 9 }) behind ≡ Less
fewer_runs_first = refl

lower_cost_first : ahead_cmp (record { cost = 11; runs = 0; lean = negsuc 99 }) behind ≡ Greater
lower_cost_first = refl

-- a pin that costs 7, two steps West of its port
abbrev east_choice : Choice
east_choice = record { node = pos 1; pin = at (pos 0) (pos 3); dir = East; port = at (pos 2) (pos 3); cost = 7 }

-- its stub adds two steps, the cost, a run and y = 3
from_pin : with_start east_choice behind ≡ record { cost = 19; runs = 4; lean = negsuc 1 }
from_pin = refl

-- a walk at that point has passed two checkpoints there, and not the third
abbrev via : List Point
via = at (pos 4) (pos 0) ∷ at (pos 4) (pos 0) ∷ at (pos 9) (pos 0) ∷ []

two_at_once : ComesTo via 0 (at (pos 4) (pos 0)) 2
two_at_once = record { from = omega arith; within = omega arith; passed = passed; no_more = λ e. other e }
  where
    passed : (i : ℕ) → 0 ≤ i → i < 2 → slice_get via i ≡ Some (at (pos 4) (pos 0))
    passed zero low high = refl
    passed (suc zero) low high = refl
    passed (suc (suc i)) low high = absurd (omega (arith, high))

    other : Some (at (pos 9) (pos 0)) ≢ Some (at (pos 4) (pos 0))
    other e = let same : pos 9 ≡ pos 4 = ap (λ o. (unwrap_or o (at (pos 0) (pos 0))).x) e in omega (arith, ints, same)

-- a walk that reaches the third without the others has passed none
none_out_of_order : ComesTo via 0 (at (pos 9) (pos 0)) 0
none_out_of_order = record { from = omega arith; within = omega arith; passed = λ i low high. absurd (omega (arith, low, high)); no_more = λ e. other e }
  where
    other : Some (at (pos 4) (pos 0)) ≢ Some (at (pos 9) (pos 0))
    other e = let same : pos 4 ≡ pos 9 = ap (λ o. (unwrap_or o (at (pos 0) (pos 0))).x) e in omega (arith, ints, same)

abbrev over_stub : ℤ → List Solid
over_stub node = record { node = node; rect = record { left = pos 1; top = pos 0; right = pos 5; bottom = pos 6 } } ∷ []

-- a stub may lie in a solid of its own node, and not in one of another
in_own_solid : HasFreeStub (over_stub (pos 1)) east_choice
in_own_solid zero s inside other = λ m. other refl
in_own_solid (suc k) s inside other = absurd (omega (arith, inside))

in_other_solid : HasFreeStub (over_stub (pos 2)) east_choice → ⊥
in_other_solid free =
    let r : Rect = record { left = pos 1; top = pos 0; right = pos 5; bottom = pos 6 } in
    free 0 (record { node = pos 2; rect = r }) (omega arith) (λ e. different e)
    (from_step r (at (pos 0) (pos 3)) East 2 (1, omega arith, (omega (arith, ints), omega (arith, ints), omega (arith, ints), omega (arith, ints))))
  where
    different : pos 2 ≢ pos 1
    different e = cc

-- where both ports are one point, a walk is its two stubs, and the way has no move
abbrev north_choice : Choice
north_choice = record { node = pos 2; pin = at (pos 2) (pos 6); dir = North; port = at (pos 2) (pos 3); cost = 0 }

two_stubs : (walk_along east_choice [] north_choice).steps ≡ East ∷ East ∷ South ∷ South ∷ South ∷ []
two_stubs = refl

no_move : (a : Arena) (c : ℕ) → StandsAt a c (at (pos 2) (pos 3)) → IsWay [] a [] (record { crossing = c; stage = 0; heading = East }) [] north_choice
no_move a c h = record { free = λ k s inside other. absurd (omega (arith, inside)); here = h; stage = refl }

-- a leg has its steps in the heading with which it reaches its place
one_leg : steps_of_way (record { steps = 2; to = record { crossing = 5; stage = 0; heading = North } } ∷ []) north_choice ≡ North ∷ North ∷ South ∷ South ∷ South ∷ []
one_leg = refl

-- from a rectangle: no bend straight on, two beside it, four behind it, two back, one across, three across and behind
abbrev ports : Rect
ports = record { left = pos 0; top = pos 0; right = pos 3; bottom = pos 2 }

far_and_beside : distance_from ports (at (pos 5) (negsuc 2)) ≡ 5
far_and_beside = refl

straight_on : fewest_bends East ports (at (pos 5) (pos 1)) East ≡ 0
straight_on = refl

beside_them : fewest_bends East ports (at (pos 1) (pos 4)) East ≡ 2
beside_them = refl

behind_them : fewest_bends East ports (at (negsuc 0) (pos 1)) East ≡ 4
behind_them = refl

back_to_them : fewest_bends East ports (at (pos 5) (pos 1)) West ≡ 2
back_to_them = refl

across_them : fewest_bends East ports (at (pos 5) (pos 1)) South ≡ 1
across_them = refl

across_and_behind : fewest_bends East ports (at (pos 5) (negsuc 0)) South ≡ 3
across_and_behind = refl

-- a walk after one turn: its pin and the turn are its corners, and it is two steps further on
one_turn : IsDrawn (at (pos 0) (pos 0) ∷ at (pos 3) (pos 0) ∷ []) (at (pos 3) (pos 2)) South (record { start = at (pos 0) (pos 0); steps = East ∷ East ∷ East ∷ South ∷ South ∷ [] })
one_turn = record { corners = at (pos 3) (pos 0) ∷ []; all = refl; straight = (inr refl, tt); steps = 2; some = omega arith; here = refl; walk = refl; count = refl }
