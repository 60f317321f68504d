-- The steps and bends so far, with those ahead, are all.
use Rattle.std.proofs.Common.{◌≡◌, ◌+◌, refl, sym, add-zero, arith}
use Rattle.walk_model.proofs.CornerByCorner.Bends.{turn_from}
use Rattle.walk_model.proofs.CornerByCorner.Costs.{cost_none, cost_fits, cost_on, cost_stay}
use Rattle.walk_model.proofs.line.cost_of.Goals as goal
use Rattle.walk_model.proofs.line.cost_of.Goals.{then-steps-gt0, in-Some-last, in_default-last, else-steps-gt0}

pub loop-next-init : goal.loop-next-init
loop-next-init c = cost_none _ _ _ c.in-Some.ensures.cases.0 c.requires.line.corners.within c.requires.line.corners.few

pub overflow_add-walked : goal.overflow_add-walked
overflow_add-walked c =
    let so = c.loop-next.invariant in
    omega (arith, cost_fits _ _ _ _ _ _ _ _ _ c.loop-next-test.true c.distance-steps.ensures so, so.few)

pub loop-next-preserved : goal.loop-next-preserved
loop-next-preserved c =
    let so = c.loop-next.invariant in
    elim c.if-steps-gt0.branch [
      | then-steps-gt0 w ↦ (
          let turned : w.match-last.bends ≡ c.loop-next.bends + turn_from c.loop-next.last w.heading-dir.result = elim w.match-last.branch [
            | in-Some-last v ↦ rw (v.bends-is, v.turn-bends.ensures, v.in-Some-last.is) refl
            | in_default-last v ↦ rw (v.bends-is, v.in_default-last.is) (sym (add-zero c.loop-next.bends))
          ] in
          rw (w.at-is, w.last-is, w.walked-is, w.bends-is, turned) (cost_on _ _ _ _ _ _ _ _ _ _ c.loop-next-test.true c.distance-steps.ensures w.heading-dir.ensures.heading w.if-steps-gt0.true so))
      | else-steps-gt0 w ↦ rw (w.at-is, w.last-is, w.walked-is, w.bends-is) (cost_stay _ _ _ _ _ _ _ _ _ c.loop-next-test.true c.distance-steps.ensures w.if-steps-gt0.false so)
    ]
