-- An edit that is refused is the first, and one that is done leaves the others.
use Rattle.std.proofs.Common.{◌≡◌, ◌≢◌, ◌∙◌, ◌+◌, pos, get_or, sym, subst}
use Rattle.scene_model.specs.declared.edit.Edit.{Edit}
use Rattle.scene_model.specs.declared.edit.Edit.TheVariants.{AddNode}
use Rattle.scene_model.specs.declared.fault.SceneFault.TheVariants.{Memory}
use Rattle.scene_model.specs.Edits.{changed, refusal}
use Rattle.preview.specs.declared.answer.Edited.{Edited}
use Rattle.preview.specs.declared.answer.Edited.TheVariants.{Refused}
use Rattle.preview.specs.Edited.{ComesTo}
use Rattle.preview.proofs.Edits.{IfOk-weaker, done_left, done_refused, first_stop, refused_so}
use Rattle.preview.proofs.answer.after_edits.Goals as goal

no_edit : Edit
no_edit = AddNode (pos 0) (pos 0) (pos 0) (pos 0) (pos 0)

pub loop-index-preserved : goal.loop-index-preserved
unfolding no_edit
loop-index-preserved c =
    let edits = c.args.edits.now in
    let i = c.loop-index.index in
    let s = c.loop-index.txn.working in
    let next = c.apply.new.self.working in
    let did = c.in-Ok.ensures.edited in
    record {
      refused = c.loop-index.invariant.refused ∙ done_refused edits i no_edit s c.loop-index-test.true next did.0 did.1;
      left = c.loop-index.invariant.left ∙ done_left edits i no_edit s c.loop-index-test.true next did.1;
    }

pub returns-in-Err : goal.returns-in-Err
unfolding no_edit
returns-in-Err c =
    let edits = c.args.edits.now in
    let i = c.loop-index.index in
    let s = c.loop-index.txn.working in
    let fault = c.in-Err.fault in
    let e = get_or edits i no_edit in
    IfOk-weaker (λ (o : Edited). (fault ≢ Memory) × (o ≡ Refused (i + 1) fault)) (ComesTo edits c.args.scene.now) c.stopped.result
    (λ o h. subst (ComesTo edits c.args.scene.now) (sym h.1)
    (c.loop-index.invariant.refused ∙ first_stop edits i no_edit s c.loop-index-test.true fault
    (refused_so (refusal e s) (changed e s) s c.apply.new.self.working fault h.0 c.in-Err.ensures.edited)))
    c.stopped.ensures
