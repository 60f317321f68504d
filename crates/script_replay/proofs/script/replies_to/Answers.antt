-- One more command is replied to.
use Rattle.std.proofs.Common.{get_or, refl}
use Rattle.scene_model.specs.declared.edit.Command.TheVariants.{Begin}
use Rattle.script_replay.proofs.Replying.{replied_more}
use Rattle.script_replay.proofs.script.replies_to.Goals as goal

pub loop-number-preserved : goal.loop-number-preserved
loop-number-preserved g c =
    let commands = c.args.commands.now in
    let i = c.loop-number.number-index in
    replied_more commands i (0, Begin) c.args.session.now c.loop-number.session c.reply_to.new.session c.loop-number.replies.items c.push.new.self.items
    (record { line = (get_or commands i (0, Begin)).0; reply = c.in_ok-reply.reply }) c.loop-number-test.true c.loop-number.invariant refl c.in_ok-reply.ensures c.in_ok-push.ensures.items
