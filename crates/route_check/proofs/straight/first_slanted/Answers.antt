-- One segment more, which is straight, or the first that is not.
use Rattle.std.proofs.Common.{ap, of_z, w64, inl, inr, arith}
use Rattle.std.proofs.lemmas.Int.{ints}
use Rattle.route_check.proofs.Segments.Slants.{straight_none, straight_more, straight_stop, straight_all}
use Rattle.route_check.proofs.straight.first_slanted.Goals as goal
use Rattle.route_check.proofs.straight.first_slanted.Goals.{else-from-to-via-then-from-to+else-from-to-2, else-from-to-via-else-from-to}

pub loop-i-init : goal.loop-i-init
loop-i-init c = straight_none c.args.first c.args.rest.now

pub returns-then-from-to-2 : goal.returns-then-from-to-2
returns-then-from-to-2 c = straight_stop c.args.first c.args.rest.now c.loop-i.i c.loop-i.from c.loop-i-test.true c.loop-i.invariant
    (λ is. elim is [ inl x ↦ c.if-from-to.true (ap (of_z w64) x) | inr y ↦ c.if-from-to-2.true (ap (of_z w64) y) ])

pub loop-i-preserved : goal.loop-i-preserved
loop-i-preserved c = straight_more c.args.first c.args.rest.now c.loop-i.i c.loop-i.from c.loop-i-test.true c.loop-i.invariant
    (elim c.else-from-to.branch [
      | else-from-to-via-then-from-to+else-from-to-2 w ↦ inr (omega (arith, ints))
      | else-from-to-via-else-from-to w ↦ inl (omega (arith, ints))
    ])

pub returns : goal.returns
returns c = straight_all c.args.first c.args.rest.now c.loop-i.i c.loop-i.from c.loop-i.invariant c.loop-i-test.false
