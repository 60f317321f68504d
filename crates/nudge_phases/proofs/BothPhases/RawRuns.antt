-- The runs of a line are its walk, and have some length where neighbouring corners differ.
use Rattle.std.proofs.Common.{◌≡◌, ◌≢◌, ℕ, suc, ◌+◌, ◌<◌, ◌-ℤ◌, ◌<ℤ◌, List, [], ◌∷◌, ◌++◌, replicate, All, length, refl, sym, ap, ◌∙◌, arith, unsigned_abs}
use Rattle.std.specs.Int.{int_min, int_max}
use Rattle.std.proofs.lemmas.Int.{ints, clamps, by_lt_z}
use Rattle.std.proofs.lemmas.List.Elements.{All-cons, All-nil}
use Rattle.plane_geom.specs.declared.point.Point.{Point}
use Rattle.plane_geom.specs.declared.point.Dir.{Dir}
use Rattle.plane_geom.specs.declared.point.Dir.TheVariants.{East, South, West, North}
use Rattle.plane_geom.specs.Along.{way_of, along}
use Rattle.plane_geom.specs.Point.{IsStraight, distance, heading}
use Rattle.plane_geom.proofs.Headings.{same_point}
use Rattle.segment_order.specs.declared.run.Run.{Run}
use Rattle.segment_order.specs.Run.{point_at_index, run_between, runs_along}
use Rattle.segment_order.proofs.Headings.{Goes, goes}
use Rattle.segment_order.proofs.Runs.{from_to}
use Rattle.walk_model.specs.Line.{AreStraight, Draws, IsStraightLine, steps_through}
use Rattle.walk_model.specs.Walk.{Walk}
use Rattle.nudge_phases.specs.LegalRuns.{steps_of_run, steps_along, walk_along}

steps_with : (d : Dir) (p q : Point) → Goes d p q → unsigned_abs (int_max (along (way_of d) p) (along (way_of d) q) -ℤ int_min (along (way_of d) p) (along (way_of d) q)) ≡ distance p q
steps_with East p q g = omega (arith, ints, clamps, g.0, g.1)
steps_with South p q g = omega (arith, ints, clamps, g.0, g.1)
steps_with West p q g = omega (arith, ints, clamps, g.0, g.1)
steps_with North p q g = omega (arith, ints, clamps, g.0, g.1)

steps_between : (edge place : ℕ) (p q : Point) → IsStraight p q → steps_of_run (run_between edge place p q) ≡ distance p q
steps_between edge place p q straight = steps_with (heading p q) p q (goes p q straight)

-- the same steps
steps_same : (edge place : ℕ) (p : Point) (qs : List Point) → AreStraight p qs → steps_along (runs_along edge place (p ∷ qs)) ≡ steps_through p qs
steps_same edge place p [] straight = refl
steps_same edge place p (q ∷ qs) straight =
    ap (λ n. replicate n (heading p q) ++ steps_along (runs_along edge (place + 1) (q ∷ qs))) (steps_between edge place p q straight.0)
    ∙ ap (λ ds. replicate (distance p q) (heading p q) ++ ds) (steps_same edge (place + 1) q qs straight.1)

-- the same walk
pub walk_same : (edge place : ℕ) (points : List Point) (w : Walk) → 1 < length points → Draws points w → walk_along (runs_along edge place points) ≡ w
walk_same edge place [] w some draws = absurd (omega arith)
walk_same edge place (p ∷ []) w some draws = absurd (omega arith)
walk_same edge place (p ∷ q ∷ qs) w some draws =
    ap (λ (start : Point). (let v : Walk = record { start = start; steps = steps_along (runs_along edge place (p ∷ q ∷ qs)) } in v)) (from_to edge place p q draws.0.0).start
    ∙ ap (λ ds. (let v : Walk = record { start = p; steps = ds } in v)) (steps_same edge place p (q ∷ qs) draws.0) ∙ sym draws.1

long_with : (d : Dir) (p q : Point) → Goes d p q → p ≢ q → int_min (along (way_of d) p) (along (way_of d) q) <ℤ int_max (along (way_of d) p) (along (way_of d) q)
long_with East p q g apart = omega (arith, ints, clamps, g.0)
long_with South p q g apart = omega (arith, ints, clamps, g.0)
long_with West p q g apart = omega (arith, ints, clamps, g.0)
long_with North p q g apart = by_lt_z q.y p.y (λ l. omega (arith, ints, clamps, l)) (λ l. absurd (apart (same_point p q g.1 (omega (arith, ints, g.0, l)))))

-- where neighbouring corners differ, the runs all have some length
pub long_runs : (edge place : ℕ) (points : List Point) → IsStraightLine points → ((k : ℕ) → k + 1 < length points → point_at_index points k ≢ point_at_index points (k + 1)) → All (λ (r : Run). r.lo <ℤ r.hi) (runs_along edge place points)
long_runs edge place [] straight apart = All-nil (λ (r : Run). r.lo <ℤ r.hi)
long_runs edge place (p ∷ []) straight apart = All-nil (λ (r : Run). r.lo <ℤ r.hi)
long_runs edge place (p ∷ q ∷ qs) straight apart =
    All-cons (λ (r : Run). r.lo <ℤ r.hi) (run_between edge place p q) (runs_along edge (place + 1) (q ∷ qs))
    (long_with (heading p q) p q (goes p q straight.0) (λ e. apart 0 (omega arith) e))
    (long_runs edge (place + 1) (q ∷ qs) straight.1 (λ k h e. apart (suc k) (omega arith) (e ∙ ap (point_at_index (p ∷ q ∷ qs)) (let n : suc (k + 1) ≡ suc k + 1 = omega arith in n))))
