-- An outcome has a status of its own, and not that of a failed write or of want of memory.
use Rattle.std.proofs.Common.{ap, subst, ◌∙◌}
use Rattle.std.specs.Io.KnownBytes.{append_known}
use Rattle.std.specs.Prelude.{map, string_bytes}
use Rattle.host_edge.specs.Sink.{AppendsPart}
use Rattle.script_replay.proofs.Replying.{one_list_of_replies}
use Rattle.report_text.specs.Outcome.{Outcome}
use Rattle.reroute_app.specs.Exit.{told}
use Rattle.reroute_app.proofs.Causes.{outcome_written}
use Rattle.reroute_app.proofs.exit.ended.Goals as goal

pub returns-in-Ok-write_all_to-clause-part : goal.returns-in-Ok-write_all_to-clause-part
returns-in-Ok-write_all_to-clause-part g c = λ is. absurd ((outcome_written (map string_bytes c.args.words.now) _ _ _ one_list_of_replies c.proposals_come_to_one.ensures c.certificates_come_to_one.ensures.audit _ _ c.outcome.view_is c.in-Ok.ensures.outcome).0 is)

pub returns-in-Ok-write_all_to-clause-nothing : goal.returns-in-Ok-write_all_to-clause-nothing
returns-in-Ok-write_all_to-clause-nothing g c = λ is. absurd ((outcome_written (map string_bytes c.args.words.now) _ _ _ one_list_of_replies c.proposals_come_to_one.ensures c.certificates_come_to_one.ensures.audit _ _ c.outcome.view_is c.in-Ok.ensures.outcome).1 is)

pub returns-in-Ok-write_all_to-clause-silent : goal.returns-in-Ok-write_all_to-clause-silent
returns-in-Ok-write_all_to-clause-silent g c = λ failed. absurd (failed (outcome_written (map string_bytes c.args.words.now) _ _ _ one_list_of_replies c.proposals_come_to_one.ensures c.certificates_come_to_one.ensures.audit _ _ c.outcome.view_is c.in-Ok.ensures.outcome))

pub returns-in-Ok-write_all_to-clause-whole : goal.returns-in-Ok-write_all_to-clause-whole
returns-in-Ok-write_all_to-clause-whole g c = λ written. record {
  writes = record {
    outcome = c.in-Ok.outcome;
    is_outcome = c.in-Ok.ensures.outcome;
    status = ap (λ (o : Outcome). o.status) c.outcome.view_is;
    written = c.in-Ok-write_all_to.ensures.put ∙ ap (append_known (g.O.Sink.held c.args.out.now)) (c.deref.ensures.value ∙ ap (λ (o : Outcome). o.text) c.outcome.view_is);
  };
  tells = c.told.ensures ∙ ap (λ (o : Outcome). told (map string_bytes c.args.words.now) c.outcome.inside.status o.hint) c.outcome.view_is;
}

pub returns-clause-part : goal.returns-clause-part
returns-clause-part g c = λ failed. record {
  outcome = c.in-Ok.outcome;
  is_outcome = c.in-Ok.ensures.outcome;
  part = subst (AppendsPart (g.O.Sink.held c.args.out.now) (g.O.Sink.held c.write_all_to.new.out)) (c.deref.ensures.value ∙ ap (λ (o : Outcome). o.text) c.outcome.view_is) c.in-Err.ensures.part;
}
