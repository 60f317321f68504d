-- One turn after another.
use Rattle.std.proofs.Common.{◌∙◌, rules, ap, Ok, Some, arith}
use Rattle.host_edge.proofs.SinkLemmas.{NeverFalls-trans}
use Rattle.live_replies.proofs.Turns.{turn_on, last_turn, no_room, ended_by, all_turns, rose_after, same_fault}
use Rattle.live_replies.proofs.serving.serve.Goals as goal

pub loop-count-preserved : goal.loop-count-preserved
loop-count-preserved g c = record {
  room = search rules;
  within = omega (arith, c.loop-count-test.true);
  reads = NeverFalls-trans _ _ _ c.loop-count.invariant.reads c.turn.ensures.reads;
  writes = NeverFalls-trans _ _ _ c.loop-count.invariant.writes c.turn.ensures.writes;
  served = turn_on c.loop-count.count c.turn.result _ _ _ (c.in_ok-end.was ∙ ap Ok c.in_default.is) c.loop-count.invariant.served c.turn.ensures.ends;
}

pub returns-in-Some-clause-ok : goal.returns-in-Some-clause-ok
returns-in-Some-clause-ok g c = last_turn c.loop-count.count c.turn.result (Ok (Some c.in-Some.end)) _ _ _ (c.in_ok-end.was ∙ ap Ok c.in-Some.is) c.loop-count.invariant.served c.turn.ensures.ends

pub returns-in_err-line-clause-err : goal.returns-in_err-line-clause-err
returns-in_err-line-clause-err g c = no_room c.from_residual.result _ (search rules)

pub returns-in_err-end-clause-err : goal.returns-in_err-end-clause-err
returns-in_err-end-clause-err g c = ended_by c.loop-count.count c.turn.result c.from_residual-in_err-end.result _ _ _ (search rules) c.loop-count.invariant.served c.turn.ensures.ends

pub returns-in_err-end-clause-read_failed : goal.returns-in_err-end-clause-read_failed
returns-in_err-end-clause-read_failed g c = λ is.
    rose_after _ _ _ c.loop-count.invariant.reads (c.turn.ensures.read_failed (same_fault c.turn.result c.from_residual-in_err-end.result _ (search rules) is))

pub returns-in_err-end-clause-write_failed : goal.returns-in_err-end-clause-write_failed
returns-in_err-end-clause-write_failed g c = λ is.
    rose_after _ _ _ c.loop-count.invariant.writes (c.turn.ensures.write_failed (same_fault c.turn.result c.from_residual-in_err-end.result _ (search rules) is))

pub returns-clause-err : goal.returns-clause-err
returns-clause-err g c = all_turns c.loop-count.count _ _ (omega (arith, c.loop-count-test.false, c.loop-count.invariant.within)) c.loop-count.invariant.served
