-- One command on, or one that is refused.
use Rattle.std.proofs.Common.{ℕ, ◌+◌, drop, get_or, sym, ap, subst, ◌∙◌, Option}
use Rattle.std.proofs.lemmas.List.{at_drop_more}
use Rattle.scene_model.specs.declared.edit.Command.{Command}
use Rattle.scene_model.specs.declared.edit.Command.TheVariants.{Begin}
use Rattle.report_text.specs.declared.refusal.Refusal.{Refusal}
use Rattle.form_preview.specs.Blocks.{blocks_from, unless_refused}
use Rattle.form_preview.specs.Reading.{ReadsOn, read_by}
use Rattle.form_preview.proofs.blocks.Reader.read_all.Goals as goal

pub loop-line-preserved : goal.loop-line-preserved
loop-line-preserved c =
    let commands = c.args.commands.now in
    let i = c.loop-line.line-index in
    let command : ℕ × Command = get_or commands i (0, Begin) in
    let read = subst (λ (why : Option Refusal). ReadsOn command.1 c.loop-line.self c.read.new.self why) c.in-None.is c.in_ok-read.ensures in
    ap (unless_refused command.0 (blocks_from (drop (i + 1) commands))) (sym read)
    ∙ sym (at_drop_more (λ cs. blocks_from cs (read_by c.loop-line.self)) commands i (0, Begin) c.loop-line-test.true)
    ∙ c.loop-line.invariant

pub returns-in-Some : goal.returns-in-Some
returns-in-Some c =
    let commands = c.args.commands.now in
    let i = c.loop-line.line-index in
    let command : ℕ × Command = get_or commands i (0, Begin) in
    let read = subst (λ (why : Option Refusal). ReadsOn command.1 c.loop-line.self c.read.new.self why) c.in-Some.is c.in_ok-read.ensures in
    sym c.loop-line.invariant
    ∙ at_drop_more (λ cs. blocks_from cs (read_by c.loop-line.self)) commands i (0, Begin) c.loop-line-test.true
    ∙ ap (unless_refused command.0 (blocks_from (drop (i + 1) commands))) read
