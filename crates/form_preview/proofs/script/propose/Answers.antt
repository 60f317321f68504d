-- What is asked may be asked.
use Rattle.std.proofs.Common.{true, false, ap, sym, subst, refl, ◌∙◌}
use Rattle.std.proofs.lemmas.Result.{IfOk-weaker}
use Rattle.report_text.specs.Replies.{end_line, reply_text}
use Rattle.report_text.specs.declared.reply.Reply.TheVariants as replies
use Rattle.form_preview.specs.Blocks.{Blocks, proposals}
use Rattle.form_preview.specs.Proposes.{PreviewsBlocks}
use Rattle.form_preview.specs.Reading.{blocks_in}
use Rattle.form_preview.proofs.Proposable.{read_good}
use Rattle.form_preview.proofs.script.propose.Goals as goal

pub answered-requires-clause-few_proposals : goal.answered-requires-clause-few_proposals
answered-requires-clause-few_proposals g c κs within =
    (read_good c.args.commands.now (blocks_in c.in_ok-proposals.field-0) c.deref.result.now c.in-Proposals.proposals.items c.requires.few c.requires.directed
    c.in_ok-proposals.ensures (ap blocks_in c.in-Proposals.is) c.deref.ensures.value).few

pub answered-requires-clause-edits : goal.answered-requires-clause-edits
answered-requires-clause-edits g c κs within =
    (read_good c.args.commands.now (blocks_in c.in_ok-proposals.field-0) c.deref.result.now c.in-Proposals.proposals.items c.requires.few c.requires.directed
    c.in_ok-proposals.ensures (ap blocks_in c.in-Proposals.is) c.deref.ensures.value).each

pub returns-in-Proposals : goal.returns-in-Proposals
returns-in-Proposals g c =
    let s = c.args.scene in
    let same = ap proposals c.deref.ensures.value ∙ sym (ap blocks_in c.in-Proposals.is) ∙ c.in_ok-proposals.ensures in
    IfOk-weaker c.answered.result _ _ (λ o said. subst (λ (blocks : Blocks). PreviewsBlocks s blocks o) same said) c.answered.ensures

pub returns-in-Refused : goal.returns-in-Refused
returns-in-Refused g c =
    let s = c.args.scene in
    let same = sym (ap blocks_in c.in-Refused.is) ∙ c.in_ok-proposals.ensures in
    IfOk-weaker c.line_refused.result _ _ (λ o said. subst (λ (blocks : Blocks). PreviewsBlocks s blocks o) same (record {
      text = reply_text false c.in-Refused.line (replies.Refused c.in-Refused.why);
      refused = true;
      proposes = (refl, refl);
      outcome = said;
    })) c.line_refused.ensures

pub returns-in-Unfinished : goal.returns-in-Unfinished
returns-in-Unfinished g c =
    let s = c.args.scene in
    let same = sym (ap blocks_in c.in-Unfinished.is) ∙ c.in_ok-proposals.ensures in
    IfOk-weaker c.end_refused.result _ _ (λ o said. subst (λ (blocks : Blocks). PreviewsBlocks s blocks o) same (record { text = end_line true; refused = true; proposes = (refl, refl); outcome = said })) c.end_refused.ensures
