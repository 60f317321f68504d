-- The proposals so far and one more.
use Rattle.std.proofs.Common.{List, subst}
use Rattle.scene_model.specs.declared.edit.Edit.{Edit}
use Rattle.par_route.proofs.Zips.{zip_more}
use Rattle.preview.specs.Previews.{IsAnswerTo, IsPreview}
use Rattle.preview.proofs.pieces.answers.Goals as goal

pub loop-proposal-preserved : goal.loop-proposal-preserved
loop-proposal-preserved g c =
    rw c.in_ok-push.ensures.items
    (zip_more (IsAnswerTo c.args.scene.now c.args.book.now) c.args.piece.items.now c.loop-proposal.answers.items c.loop-proposal.proposal-index c.proposal-item.result c.in_ok-answer.field-0
    c.loop-proposal-test.true c.proposal-item.is c.loop-proposal.invariant
    (subst (λ (edits : List Edit). IsPreview c.args.scene.now c.args.book.now edits c.in_ok-answer.field-0) c.edits_of-edits.ensures c.in_ok-answer.ensures))
