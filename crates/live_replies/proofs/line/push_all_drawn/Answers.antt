-- One element on.
use Rattle.std.proofs.Common.{◌++◌, rules}
use Rattle.live_replies.specs.Texts.{drawn_texts, drawn_text}
use Rattle.report_text.proofs.Lists.{one_pushed}
use Rattle.live_replies.proofs.line.push_all_drawn.Goals as goal

pub loop-line-preserved : goal.loop-line-preserved
loop-line-preserved c =
    one_pushed drawn_text (c.args.out.now.items ++ drawn_texts c.args.lines.now) c.loop-line.out.items c.push_drawn.new.out.items c.args.lines.now c.loop-line.line-index c.line-item.result
    c.loop-line-test.true c.loop-line.invariant (search rules)
