-- Whole parts decide, and the rests where they do not.
use Rattle.std.proofs.Common.{◌∙◌, arith}
use Rattle.std.proofs.lemmas.Int.{ints}
use Rattle.separation_model.proofs.Verifying.Apart.{rests_decide, wholes_decide}
use Rattle.separation_model.proofs.position.Position.compare_gap.Goals as goal

pub returns-then-other_whole-wanted_whole : goal.returns-then-other_whole-wanted_whole
returns-then-other_whole-wanted_whole c =
    rests_decide c.args.self.pos c.args.other.pos c.args.self.den c.args.other.den _ _ _ _ _ c.args.asked c.cmp.result (omega (arith, ints)) c.split-whole.ensures.split c.split-other_whole.ensures.split c.if-other_whole-wanted_whole.true
    (c.cmp.ensures ∙ cc)

pub returns-else-other_whole-wanted_whole : goal.returns-else-other_whole-wanted_whole
returns-else-other_whole-wanted_whole c =
    wholes_decide c.args.self.pos c.args.other.pos c.args.self.den c.args.other.den _ _ _ _ _ c.args.asked c.cmp-else-other_whole-wanted_whole.result (omega (arith, ints)) c.requires.place.positive c.requires.other.positive c.split-whole.ensures.split c.split-other_whole.ensures.split c.if-other_whole-wanted_whole.false c.cmp-else-other_whole-wanted_whole.ensures
