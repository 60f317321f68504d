-- One reply on.
use Rattle.report_text.specs.Replies.{reply_lines, reply_text}
use Rattle.report_text.proofs.Lists.{one_pushed}
use Rattle.report_text.proofs.reply.push_reply_lines.Goals as goal

pub loop-reply-preserved : goal.loop-reply-preserved
loop-reply-preserved c =
    one_pushed (λ r. reply_text c.args.count r.line r.reply) (reply_lines c.args.count c.args.replies.now) c.loop-reply.text.items c.push_reply.new.out.items c.args.replies.now c.loop-reply.reply-index _
    c.loop-reply-test.true c.loop-reply.invariant c.in_ok-push_reply.ensures
