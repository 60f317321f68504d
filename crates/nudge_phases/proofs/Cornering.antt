-- The corners of a line, run by run.
use Rattle.std.proofs.Common.{◌≡◌, ◌≢◌, ℕ, suc, zero, ◌+◌, ◌<◌, ◌<ℤ◌, ◌≤ℤ◌, Option, Some, None, List, [], ◌∷◌, ◌++◌, length, drop, replicate, refl, sym, ap, subst, ◌∙◌, arith, if◌then◌else◌, append_assoc}
use Rattle.std.proofs.lemmas.Int.{ints}
use Rattle.std.proofs.lemmas.List.{drop_more}
use Rattle.plane_geom.specs.declared.point.Point.{Point}
use Rattle.plane_geom.specs.declared.point.Dir.{Dir}
use Rattle.plane_geom.specs.Point.{forward}
use Rattle.segment_order.specs.declared.run.Run.{Run}
use Rattle.segment_order.specs.Run.{AreRunsOf, run_at, no_run, start_of_run, end_of_run}
use Rattle.walk_model.specs.declared.task.Task.{Task}
use Rattle.walk_model.specs.Cost.{runs}
use Rattle.walk_model.specs.Line.{Draws}
use Rattle.walk_model.specs.Order.{Triple}
use Rattle.walk_model.specs.Walk.{Walk}
use Rattle.walk_model.proofs.Ranking.OneAnswer.{corners, corners_after, corners_after-stretch, points_are}
use Rattle.walk_model.proofs.CornerByCorner.Scan.{forward-zero, forward-forward}
use Rattle.walk_model.proofs.CornerByCorner.Shapes.{turn_differs}
use Rattle.walk_model.proofs.Ranking.SomeRoute.{some_route}
use Rattle.nudge_phases.specs.LegalRuns.{steps_along, steps_of_run}
use Rattle.nudge_phases.proofs.AlongRuns.StepsAlong.{run_leads}

-- the corners of the steps that follow, from the point on, after a step in the heading, if there is one
abbrev pub corners_from : Option Dir → Point → List Dir → List Point
corners_from None p ds = p ∷ corners p ds
corners_from (Some d) p ds = corners_after d p ds

to_end : (e : Dir) (n : ℕ) (p : Point) (ds : List Dir) → corners_after e (forward e 1 p) (replicate n e ++ ds) ≡ corners_after e (forward e (suc n) p) ds
to_end e n p ds =
    corners_after-stretch e n (forward e 1 p) ds
    ∙ ap (λ (q : Point). corners_after e q ds) (forward-forward e n 1 p ∙ ap (λ k. forward e k p) (omega arith))

-- some equal steps in another heading begin at a corner
turned : (heading : Option Dir) (e : Dir) (n : ℕ) (p : Point) (ds : List Dir) → 0 < n → heading ≢ Some e → corners_from heading p (replicate n e ++ ds) ≡ p ∷ corners_after e (forward e n p) ds
turned heading e zero p ds some ne = absurd (omega arith)
turned None e (suc n) p ds some ne = ap (λ zs. p ∷ zs) (to_end e n p ds)
turned (Some d) e (suc n) p ds some ne =
    ap (λ b. if b then corners_after e (forward e 1 p) (replicate n e ++ ds) else p ∷ corners_after e (forward e 1 p) (replicate n e ++ ds)) (turn_differs d e (λ same. ne (ap Some same)))
    ∙ ap (λ zs. p ∷ zs) (to_end e n p ds)

-- in the same heading they go on
went_on : (heading : Option Dir) (e : Dir) (n : ℕ) (p : Point) (ds : List Dir) → heading ≡ Some e → corners_from heading p (replicate n e ++ ds) ≡ corners_after e (forward e n p) ds
went_on heading e n p ds same = ap (λ o. corners_from o p (replicate n e ++ ds)) same ∙ corners_after-stretch e n p ds

-- the corners so far, with those of the runs from k on, are those of the route
pub record AreCornersSoFar (runs : List Run) (points : List Point) (at : Point) (heading : Option Dir) (k : ℕ) : Type 0 where
  pub all : points ++ corners_from heading at (steps_along (drop k runs)) ≡ start_of_run (run_at runs 0) ∷ corners (start_of_run (run_at runs 0)) (steps_along runs)
  pub here : k < length runs → at ≡ start_of_run (run_at runs k)

pub corners_begin : (runs : List Run) → AreCornersSoFar runs [] (start_of_run (run_at runs 0)) None 0
corners_begin runs = record { all = refl; here = λ h. refl }

some_steps : (r : Run) → r.lo <ℤ r.hi → 0 < steps_of_run r
some_steps r h = omega (arith, ints, h)

no_steps : (r : Run) → r.lo ≤ℤ r.hi → r.hi ≤ℤ r.lo → steps_of_run r ≡ 0
no_steps r h g = omega (arith, ints, h, g)

module _ (edge : ℕ) (runs : List Run) (are : AreRunsOf edge runs) (points : List Point) (at : Point) (heading : Option Dir) (k : ℕ) (in_runs : k < length runs) (is : AreCornersSoFar runs points at heading k) where
  abbrev r : Run
  r = run_at runs k

  abbrev ahead : List Dir
  ahead = steps_along (drop (k + 1) runs)

  steps_are : steps_along (drop k runs) ≡ replicate (steps_of_run r) r.heading ++ ahead
  steps_are = ap steps_along (drop_more runs k no_run in_runs)

  leads : forward r.heading (steps_of_run r) at ≡ end_of_run r
  leads = ap (forward r.heading (steps_of_run r)) (is.here in_runs) ∙ run_leads r (are.each k in_runs)

  next : k + 1 < length runs → end_of_run r ≡ start_of_run (run_at runs (k + 1))
  next h = are.joined k h

  was : points ++ corners_from heading at (replicate (steps_of_run r) r.heading ++ ahead) ≡ start_of_run (run_at runs 0) ∷ corners (start_of_run (run_at runs 0)) (steps_along runs)
  was = ap (λ ds. points ++ corners_from heading at ds) (sym steps_are) ∙ is.all

  -- a run in another heading adds the corner where it begins
  pub corner_more : r.lo <ℤ r.hi → heading ≢ Some r.heading → (new : List Point) → new ≡ points ++ at ∷ [] → AreCornersSoFar runs new (end_of_run r) (Some r.heading) (k + 1)
  corner_more long ne new e = record {
    all = ap (λ ps. ps ++ corners_after r.heading (end_of_run r) ahead) e
        ∙ append_assoc points (at ∷ []) (corners_after r.heading (end_of_run r) ahead)
        ∙ ap (λ (q : Point). points ++ at ∷ corners_after r.heading q ahead) (sym leads)
        ∙ ap (λ ps. points ++ ps) (sym (turned heading r.heading (steps_of_run r) at ahead (some_steps r long) ne))
        ∙ was;
    here = next;
  }

  -- one in the same heading adds none
  pub corner_on : heading ≡ Some r.heading → AreCornersSoFar runs points (end_of_run r) (Some r.heading) (k + 1)
  corner_on same = record {
    all = ap (λ (q : Point). points ++ corners_after r.heading q ahead) (sym leads)
        ∙ ap (λ ps. points ++ ps) (sym (went_on heading r.heading (steps_of_run r) at ahead same))
        ∙ was;
    here = next;
  }

  -- and neither does one without length
  pub corner_same : r.hi ≤ℤ r.lo → AreCornersSoFar runs points at heading (k + 1)
  corner_same short =
      let none = no_steps r (are.each k in_runs).ordered short in
      record {
        all = ap (λ n. points ++ corners_from heading at (replicate n r.heading ++ ahead)) (sym none) ∙ was;
        here = λ h. sym (forward-zero r.heading at) ∙ ap (λ n. forward r.heading n at) (sym none) ∙ leads ∙ next h;
      }

-- the same, of what is equal
pub corners_are : (runs others : List Run) (points more : List Point) (at there : Point) (heading last : Option Dir) (k : ℕ) → others ≡ runs → points ≡ more → at ≡ there → heading ≡ last → AreCornersSoFar others more there last k → AreCornersSoFar runs points at heading k
corners_are runs others points more at there heading last k e f g h is =
    subst (λ rs. AreCornersSoFar rs points at heading k) e
    (subst (λ ps. AreCornersSoFar others ps at heading k) (sym f)
    (subst (λ (p : Point). AreCornersSoFar others more p heading k) (sym g)
    (subst (λ o. AreCornersSoFar others more there o k) (sym h) is)))

last_corner : (heading : Option Dir) (p : Point) → corners_from heading p [] ≡ p ∷ []
last_corner None p = refl
last_corner (Some d) p = refl

-- what the points are, once all runs are passed
pub corners_end : (runs : List Run) (points new : List Point) (at : Point) (heading : Option Dir) (k : ℕ) → AreCornersSoFar runs points at heading k → drop k runs ≡ [] → new ≡ points ++ at ∷ [] →
    new ≡ start_of_run (run_at runs 0) ∷ corners (start_of_run (run_at runs 0)) (steps_along runs)
corners_end runs points new at heading k is none e =
    e ∙ ap (λ ps. points ++ ps) (sym (last_corner heading at)) ∙ ap (λ rs. points ++ corners_from heading at (steps_along rs)) (sym none) ∙ is.all

-- points at the corners of a walk draw it, one more than it has runs
pub corners_draw : (points : List Point) (w : Walk) → points ≡ w.start ∷ corners w.start w.steps → Draws points w × (length points ≡ runs w.steps + 1)
corners_draw points w e =
    let task : Task = record { starts = []; ends = []; via = []; penalty = 0 } in
    let t : Triple = record { start = 0; walk = w; end = 0 } in
    let some = some_route task t in
    let same : some.0.points ≡ points = points_are some.0.points w some.1.draws some.1.corners ∙ sym e in
    (subst (λ ps. Draws ps w) same some.1.draws, ap length (sym same) ∙ some.1.corners)
