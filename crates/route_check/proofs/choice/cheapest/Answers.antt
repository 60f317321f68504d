-- One choice more, which fits or not.
use Rattle.std.proofs.Common.{take, subst}
use Rattle.std.proofs.lemmas.Bool.{iff_false}
use Rattle.std.proofs.lemmas.List.{take_more, take_all}
use Rattle.route_check.specs.Choices.{FitsRun, IsCheapestIfAny}
use Rattle.route_check.proofs.Segments.Cheapest.{no_choice, cheapest_skips, cheapest_takes}
use Rattle.route_check.proofs.choice.cheapest.Goals as goal
use Rattle.route_check.proofs.choice.cheapest.Goals.{then-fits, else-fits}

pub loop-choice-preserved : goal.loop-choice-preserved
loop-choice-preserved c =
    let P = FitsRun c.args.pin c.args.dir c.args.most in
    let cs = take c.loop-choice.choice-index c.args.choices.now in
    rw (take_more c.args.choices.now c.loop-choice.choice-index no_choice c.loop-choice-test.true) (elim c.if-fits.branch [
      | then-fits w ↦ rw w.best-is (cheapest_takes P cs _ (c.fits.ensures.0 w.if-fits.true) c.loop-choice.best w.cheaper.result w.cheaper.ensures c.loop-choice.invariant)
      | else-fits w ↦ rw w.best-is (cheapest_skips P cs _ c.loop-choice.best (iff_false c.fits.ensures w.if-fits.false) c.loop-choice.invariant)
    ])

pub returns : goal.returns
returns c = subst (λ cs. IsCheapestIfAny (FitsRun c.args.pin c.args.dir c.args.most) cs c.loop-choice.best) (take_all c.loop-choice.choice-index c.args.choices.now c.loop-choice-test.false) c.loop-choice.invariant
