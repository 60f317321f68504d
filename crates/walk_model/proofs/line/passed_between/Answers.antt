-- The most up to a corner, and then the most of the others.
use Rattle.std.proofs.lemmas.List.{take_rest}
use Rattle.walk_model.proofs.Checkpoints.Segments.{passed_first, passed_on, passed_all}
use Rattle.walk_model.proofs.line.passed_between.Goals as goal

pub loop-next-init : goal.loop-next-init
loop-next-init c =
    passed_first _ _ _ _ _ _ c.between.result c.passed_between-passed.result c.in-Some.ensures.cases.0 c.requires.line.straight c.requires.line.corners.within c.requires.line.corners.few
    c.passed_between-passed.ensures.at_most c.between.ensures c.passed_between-passed.ensures.most

pub loop-next-preserved : goal.loop-next-preserved
loop-next-preserved c =
    passed_on _ _ _ _ _ _ _ _ _ _ _ c.between-segment.result c.passed_between-passed-in-loop-next.result c.loop-next-test.true (take_rest c.args.via.now c.loop-next.passed)
    c.passed_between-passed-in-loop-next.ensures.at_most c.between-segment.ensures c.passed_between-passed-in-loop-next.ensures.most c.loop-next.invariant

pub returns-clause-passed : goal.returns-clause-passed
returns-clause-passed c = λ w draws. (passed_all _ _ _ _ _ _ _ _ _ c.loop-next-test.false c.requires.ends_within c.loop-next.invariant w draws).passed

pub returns-clause-no_more : goal.returns-clause-no_more
returns-clause-no_more c = λ w draws. (passed_all _ _ _ _ _ _ _ _ _ c.loop-next-test.false c.requires.ends_within c.loop-next.invariant w draws).no_more
