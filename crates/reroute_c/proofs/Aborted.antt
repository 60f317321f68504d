-- Why an abort is refused.
use Rattle.std.proofs.Common.{◌≡◌, ◌⊎◌, inl, inr, Option, None, Some, Result, Ok, Err, ap, ◌∙◌}
use Rattle.std.proofs.lemmas.Bool.{false≢true}
use Rattle.std.specs.Prelude.{IfErr, IsSome}
use Rattle.scene_model.specs.declared.edit.Command.TheVariants.{Abort}
use Rattle.scene_model.specs.declared.fault.SessionFault.{SessionFault}
use Rattle.route_session.specs.Runs.{IsRefusable}
use Rattle.drawing.specs.Drawing.{DrawingState}
use Rattle.reroute_c.specs.declared.fault.Fault.{Fault}
use Rattle.reroute_c.specs.Codes.{IsFaultAnswered, call_fault, fault_of, no_fault, no_transaction_fault}
use Rattle.reroute_c.specs.Open.{IfOpen}

abbrev IsAbortFault : Fault → Type 0
IsAbortFault fault = (fault ≡ no_fault) ⊎ (fault ≡ no_transaction_fault)

of_answer : (answer : Result Unit SessionFault) (fault : Fault) → fault ≡ fault_of answer → IfErr answer (IsRefusable Abort) → IsAbortFault fault
of_answer (Ok done) fault is why = inl is
of_answer (Err f) fault is why = inr (is ∙ ap call_fault why)

pub aborted : (old new : Option DrawingState) (fault : Fault) → IsSome old → IsSome new → IfOpen old new (IsFaultAnswered Abort fault) → IsAbortFault fault
aborted None new fault was_open there call = absurd (false≢true was_open)
aborted (Some s) None fault was_open there call = absurd (false≢true there)
aborted (Some s) (Some n) fault was_open there call = of_answer call.0 fault call.1 call.2.refusable
