-- A segment begins a run, goes on one, or is empty.
use Rattle.std.proofs.Common.{◌≢◌, Some, IsTrue, rules, w64, FitsSigned}
use Rattle.std.proofs.lemmas.Int.{to_z-of_z}
use Rattle.walk_model.proofs.CornerByCorner.Shapes.{shape_none, shape_on, shape_same, shape_stay}
use Rattle.walk_model.proofs.order.shape_of.Goals as goal
use Rattle.walk_model.proofs.order.shape_of.Goals.{then-distance-gt0+then-not-goes_on, then-distance-gt0+else-not-goes_on, else-distance-gt0}

pub loop-next-init : goal.loop-next-init
loop-next-init c = shape_none _ _ _ c.in-Some.ensures.cases.0 c.requires.line.straight c.requires.line.corners.within c.requires.line.corners.few

pub loop-next-preserved : goal.loop-next-preserved
loop-next-preserved c =
    let so = c.loop-next.invariant in
    let some = c.loop-next-test.true in
    elim c.if-distance-gt0.branch [
      | then-distance-gt0+then-not-goes_on w ↦ (
          let long = rw c.distance.ensures at w.if-distance-gt0.true in
          let not : c.loop-next.last ≢ Some w.heading-dir.result = λ e. let t : IsTrue w.goes_on.result = w.goes_on.ensures.1 e in let wrong = rw w.if-not-goes_on.true at t in absurd (cc wrong) in
          let turned = rw w.heading-dir.ensures.heading at not in
          let lean_fits : FitsSigned w64 c.loop-next.shape.lean = search rules in
          let across_fits : FitsSigned w64 w.across.result = search rules in
          rw (w.shape-is, w.at-is, w.last-is, w.with_run-shape.ensures.runs, w.with_run-shape.ensures.lean)
          (simp to_z-of_z (rw (w.across.ensures, w.way.ensures, w.heading-dir.ensures.heading) (shape_on _ _ _ _ _ _ _ _ some so long turned))))
      | then-distance-gt0+else-not-goes_on w ↦ (
          let same = rw w.heading-dir.ensures.heading at (w.goes_on.ensures.0 (let t : IsTrue w.goes_on.result = search rules in t)) in
          rw (w.shape-is, w.at-is, w.last-is) (shape_same _ _ _ _ _ _ _ _ some so same))
      | else-distance-gt0 w ↦ (
          let short = rw c.distance.ensures at w.if-distance-gt0.false in
          rw (w.shape-is, w.at-is, w.last-is) (shape_stay _ _ _ _ _ _ _ _ some so short))
    ]
