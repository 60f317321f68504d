-- A line that was read, and the reply to it.
use Rattle.std.proofs.Common.{false, refl, subst, ◌∙◌, ap}
use Rattle.std.specs.Prelude.{IfSome}
use Rattle.host_edge.specs.declared.line_source.LineRead.TheVariants.{Whole, TooLong}
use Rattle.host_edge.specs.Lines.{IsLineRead}
use Rattle.live_replies.specs.Answers.{AnswersRead}
use Rattle.live_replies.specs.Requests.{is_quit}
use Rattle.live_replies.specs.Said.{said_bytes}
use Rattle.live_replies.specs.Serves.{most_line}
use Rattle.live_replies.proofs.Turns.{turn_ends}
use Rattle.live_replies.proofs.serving.turn.Goals as goal

pub returns-in-Whole-clause-ends : goal.returns-in-Whole-clause-ends
returns-in-Whole-clause-ends g c =
    turn_ends c.say.result
    (record { rest = g.L.LineSource.rest c.args.lines.now; held = g.O.Sink.held c.args.out.now; live = c.args.live.now })
    (record { rest = g.L.LineSource.rest c.next_line.new.self; held = g.O.Sink.held c.say.new.out; live = c.reply.new.self })
    Whole c.next_line.new.line.items (said_bytes c.reply.result.0) c.reply.result.1
    (subst (λ read. IfSome (g.L.LineSource.rest c.args.lines.now) (λ bytes. IsLineRead most_line bytes read c.next_line.new.line.items (g.L.LineSource.rest c.next_line.new.self))) c.in-Whole.is c.in_ok-next_line.ensures.read)
    (subst (λ line. AnswersRead Whole line c.args.live.now c.reply.new.self (said_bytes c.reply.result.0)) c.deref.ensures.value c.reply.ensures.reply)
    (c.reply.ensures.end ∙ ap is_quit c.deref.ensures.value)
    c.say.ensures.whole c.say.ensures.end c.say.ensures.err c.say.ensures.part

pub returns-in-TooLong-clause-ends : goal.returns-in-TooLong-clause-ends
returns-in-TooLong-clause-ends g c =
    turn_ends c.say-in-TooLong.result
    (record { rest = g.L.LineSource.rest c.args.lines.now; held = g.O.Sink.held c.args.out.now; live = c.args.live.now })
    (record { rest = g.L.LineSource.rest c.next_line.new.self; held = g.O.Sink.held c.say-in-TooLong.new.out; live = c.refuse_long_line.new.self })
    TooLong c.next_line.new.line.items (said_bytes c.refuse_long_line.result) false
    (subst (λ read. IfSome (g.L.LineSource.rest c.args.lines.now) (λ bytes. IsLineRead most_line bytes read c.next_line.new.line.items (g.L.LineSource.rest c.next_line.new.self))) c.in-TooLong.is c.in_ok-next_line.ensures.read)
    (c.refuse_long_line.ensures c.next_line.new.line.items) refl
    c.say-in-TooLong.ensures.whole c.say-in-TooLong.ensures.end c.say-in-TooLong.ensures.err c.say-in-TooLong.ensures.part
