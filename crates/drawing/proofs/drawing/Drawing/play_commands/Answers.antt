-- One more command is done, or it is refused.
use Rattle.std.proofs.Common.{get_or, refl}
use Rattle.scene_model.specs.declared.edit.Command.TheVariants.{Begin}
use Rattle.drawing.proofs.Playing.{done_more, stops}
use Rattle.drawing.proofs.drawing.Drawing.play_commands.Goals as goal

pub returns-in-Some : goal.returns-in-Some
returns-in-Some c =
    let commands = c.args.commands.now in
    let i = c.loop-line.line-index in
    stops commands i (0, Begin) (record { line = (get_or commands i (0, Begin)).0; why = c.in-Some.why }) c.args.self.now c.loop-line.self c.answer.new.self
    c.loop-line-test.true c.loop-line.invariant refl c.in-Some.ensures

pub loop-line-preserved : goal.loop-line-preserved
loop-line-preserved c =
    done_more c.args.commands.now c.loop-line.line-index (0, Begin) c.args.self.now c.loop-line.self c.answer.new.self
    c.loop-line-test.true c.loop-line.invariant c.in_default.ensures
