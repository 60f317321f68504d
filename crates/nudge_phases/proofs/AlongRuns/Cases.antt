-- Small cases, which show that the definitions mean what they say.
use Rattle.std.proofs.Common.{◌≡◌, pos, List, [], ◌∷◌, inl, inr, refl, arith}
use Rattle.std.proofs.lemmas.Int.{ints}
use Rattle.plane_geom.specs.declared.point.Dir.TheVariants.{East, South}
use Rattle.plane_geom.specs.declared.point.Way.TheVariants.{Horizontal, Vertical}
use Rattle.segment_order.specs.declared.run.Run.{Run}
use Rattle.nudge_phases.specs.LegalRuns.{PassesOn, steps_along, walk_along}

-- two steps East, one South and one East
abbrev three_runs : List Run
three_runs =
    record { edge = 1; place = 1; way = Horizontal; heading = East; at = pos 0; lo = pos 0; hi = pos 2 }
    ∷ record { edge = 1; place = 2; way = Vertical; heading = South; at = pos 2; lo = pos 0; hi = pos 1 }
    ∷ record { edge = 1; place = 3; way = Horizontal; heading = East; at = pos 1; lo = pos 2; hi = pos 3 }
    ∷ []

steps_of_three : steps_along three_runs ≡ East ∷ East ∷ South ∷ East ∷ []
steps_of_three = refl

start_of_three : (walk_along three_runs).start ≡ record { x = pos 0; y = pos 0 }
start_of_three = refl

-- the corner lies on both runs that meet there, so it may be passed twice
corner_passed_twice : PassesOn three_runs (record { run = 0; reach = pos 1 }) (record { run = 2; reach = pos 2 })
    (record { x = pos 2; y = pos 0 } ∷ record { x = pos 2; y = pos 0 } ∷ [])
corner_passed_twice = (
  record { run = 0; reach = pos 2 },
  omega arith,
  inr (refl, omega (arith, ints)),
  inl (omega arith),
  record { along = pos 2; from = omega (arith, ints); to = omega (arith, ints); here = refl },
  refl,
  (
    record { run = 1; reach = pos 0 },
    omega arith,
    inl (omega arith),
    inl (omega arith),
    record { along = pos 0; from = omega (arith, ints); to = omega (arith, ints); here = refl },
    refl,
    tt,
  ),
)
