-- What is written so far, and the replies that are left, give the whole.
use Rattle.std.proofs.Common.{◌≡◌, ◌++◌, drop}
use Rattle.report_text.specs.Replies.{reply_lines}
use Rattle.report_text.proofs.reply.push_reply_lines.Given as goal

abbrev pub invariant-loop-reply : goal.invariant-loop-reply
invariant-loop-reply l = l.text.items ++ reply_lines l.count (drop l.reply-index l.replies) ≡ reply_lines l.count l.replies
