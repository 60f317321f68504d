-- The outcome has one status, and its cause.
use Rattle.std.proofs.Common.{ap, subst, ◌∙◌}
use Rattle.std.specs.Prelude.{map, string_bytes}
use Rattle.host_edge.specs.Sink.{AppendsPart}
use Rattle.report_text.specs.Outcome.{Outcome}
use Rattle.script_replay.proofs.Replying.{one_list_of_replies}
use Rattle.report_text.specs.declared.status.Status.TheVariants as status
use Rattle.reroute_app.proofs.Causes.{exact, outcome_written}
use Rattle.reroute_app.proofs.Claims.{claims_are_true}
use Rattle.reroute_app.proofs.run_gated.Goals as goal

pub returns-in-Ok-write_all_to-clause-words : goal.returns-in-Ok-write_all_to-clause-words
returns-in-Ok-write_all_to-clause-words g c = λ written. exact (map string_bytes c.args.words.now) _ _ _ one_list_of_replies c.proposals_come_to_one.ensures c.certificates_come_to_one.ensures.audit _ _ c.outcome.view_is c.in-Ok.ensures.outcome status.Words tt

pub returns-in-Ok-write_all_to-clause-read_fault : goal.returns-in-Ok-write_all_to-clause-read_fault
returns-in-Ok-write_all_to-clause-read_fault g c = λ written. exact (map string_bytes c.args.words.now) _ _ _ one_list_of_replies c.proposals_come_to_one.ensures c.certificates_come_to_one.ensures.audit _ _ c.outcome.view_is c.in-Ok.ensures.outcome status.ReadFault tt

pub returns-in-Ok-write_all_to-clause-too_long : goal.returns-in-Ok-write_all_to-clause-too_long
returns-in-Ok-write_all_to-clause-too_long g c = λ written. exact (map string_bytes c.args.words.now) _ _ _ one_list_of_replies c.proposals_come_to_one.ensures c.certificates_come_to_one.ensures.audit _ _ c.outcome.view_is c.in-Ok.ensures.outcome status.TooLong tt

pub returns-in-Ok-write_all_to-clause-diagram : goal.returns-in-Ok-write_all_to-clause-diagram
returns-in-Ok-write_all_to-clause-diagram g c = λ some written. exact (map string_bytes c.args.words.now) _ _ _ one_list_of_replies c.proposals_come_to_one.ensures c.certificates_come_to_one.ensures.audit _ _ c.outcome.view_is c.in-Ok.ensures.outcome status.Diagram some

pub returns-in-Ok-write_all_to-clause-refused : goal.returns-in-Ok-write_all_to-clause-refused
returns-in-Ok-write_all_to-clause-refused g c = λ some written. exact (map string_bytes c.args.words.now) _ _ _ one_list_of_replies c.proposals_come_to_one.ensures c.certificates_come_to_one.ensures.audit _ _ c.outcome.view_is c.in-Ok.ensures.outcome status.Refused some

pub returns-in-Ok-write_all_to-clause-bad_line : goal.returns-in-Ok-write_all_to-clause-bad_line
returns-in-Ok-write_all_to-clause-bad_line g c = λ some written. exact (map string_bytes c.args.words.now) _ _ _ one_list_of_replies c.proposals_come_to_one.ensures c.certificates_come_to_one.ensures.audit _ _ c.outcome.view_is c.in-Ok.ensures.outcome status.BadLine some

pub returns-in-Ok-write_all_to-clause-audit_no : goal.returns-in-Ok-write_all_to-clause-audit_no
returns-in-Ok-write_all_to-clause-audit_no g c = λ some written. exact (map string_bytes c.args.words.now) _ _ _ one_list_of_replies c.proposals_come_to_one.ensures c.certificates_come_to_one.ensures.audit _ _ c.outcome.view_is c.in-Ok.ensures.outcome status.AuditNo some

pub returns-in-Ok-write_all_to-clause-claims : goal.returns-in-Ok-write_all_to-clause-claims
returns-in-Ok-write_all_to-clause-claims g c = λ done. claims_are_true (map string_bytes c.args.words.now) _ _ _ _ _ c.outcome.view_is done c.in-Ok.ensures.outcome

pub returns-in-Ok-write_all_to-clause-done : goal.returns-in-Ok-write_all_to-clause-done
returns-in-Ok-write_all_to-clause-done g c = λ some written. exact (map string_bytes c.args.words.now) _ _ _ one_list_of_replies c.proposals_come_to_one.ensures c.certificates_come_to_one.ensures.audit _ _ c.outcome.view_is c.in-Ok.ensures.outcome status.Done some

pub returns-in-Ok-write_all_to-clause-nothing : goal.returns-in-Ok-write_all_to-clause-nothing
returns-in-Ok-write_all_to-clause-nothing g c = λ is. absurd ((outcome_written (map string_bytes c.args.words.now) _ _ _ one_list_of_replies c.proposals_come_to_one.ensures c.certificates_come_to_one.ensures.audit _ _ c.outcome.view_is c.in-Ok.ensures.outcome).1 is)

pub returns-in-Ok-write_all_to-clause-part : goal.returns-in-Ok-write_all_to-clause-part
returns-in-Ok-write_all_to-clause-part g c = λ is. absurd ((outcome_written (map string_bytes c.args.words.now) _ _ _ one_list_of_replies c.proposals_come_to_one.ensures c.certificates_come_to_one.ensures.audit _ _ c.outcome.view_is c.in-Ok.ensures.outcome).0 is)

pub returns-in-Ok-write_all_to-clause-write_fault : goal.returns-in-Ok-write_all_to-clause-write_fault
returns-in-Ok-write_all_to-clause-write_fault g c = λ is. absurd ((outcome_written (map string_bytes c.args.words.now) _ _ _ one_list_of_replies c.proposals_come_to_one.ensures c.certificates_come_to_one.ensures.audit _ _ c.outcome.view_is c.in-Ok.ensures.outcome).0 is)

pub returns-clause-part : goal.returns-clause-part
returns-clause-part g c = λ failed. record {
  outcome = c.in-Ok.outcome;
  is_outcome = c.in-Ok.ensures.outcome;
  part = subst (AppendsPart (g.O.Sink.held c.args.out.now) (g.O.Sink.held c.write_all_to.new.out)) (c.deref.ensures.value ∙ ap (λ (o : Outcome). o.text) c.outcome.view_is) c.in-Err.ensures.part;
}
