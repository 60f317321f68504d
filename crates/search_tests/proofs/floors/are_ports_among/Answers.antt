-- One port more is among the anchors, in the end each.
use Rattle.std.proofs.Common.{All, Contains, refl, subst, arith}
use Rattle.std.proofs.lemmas.List.{take_all}
use Rattle.std.proofs.lemmas.List.Elements.{All-more}
use Rattle.walk_model.specs.declared.task.Choice.{Choice}
use Rattle.search_tests.proofs.floors.are_ports_among.Goals as goal

pub loop-choice-preserved : goal.loop-choice-preserved
loop-choice-preserved c =
    All-more (λ (d : Choice). Contains c.args.anchors.now d.port) c.args.choices.now c.loop-choice.choice-index _ (omega arith) c.loop-choice.invariant (c.if-not-is_among.ensures refl)

pub returns : goal.returns
returns c = λ t. subst (All (λ (d : Choice). Contains c.args.anchors.now d.port)) (take_all c.loop-choice.choice-index c.args.choices.now (omega arith)) c.loop-choice.invariant
