-- The reply to a connector that is moved to another box.
use Rattle.std.specs.Prelude.{◌≡◌, ◌⊎◌, ℕ, ℤ, List, ◌++◌, Result, Ok, Err}
use Rattle.scene_model.specs.declared.fault.SessionFault.{SessionFault}
use Rattle.scene_model.specs.declared.fault.SessionFault.TheVariants.{Memory}
use Rattle.report_text.specs.declared.refusal.Refusal.TheVariants as refusals
use Rattle.drawing.specs.declared.reconnect.End.{End}
use Rattle.drawing.specs.Drawing.{DrawingState}
use Rattle.drawing.specs.Reconnect.{IsReconnected}
use Rattle.live_replies.specs.Texts.{connector_text, no_memory_line, ok_line, refused_line}

-- why the connector is not moved; a refusal whose text finds no memory is reported as no memory
abbrev pub ReportsUnmoved : SessionFault → List ℕ → Type 0
ReportsUnmoved Memory said = said ≡ no_memory_line
ReportsUnmoved fault said = (said ≡ refused_line (refusals.Command fault)) ⊎ (said ≡ no_memory_line)

-- the number of the new connector, or why it is not moved
abbrev pub ReportsReconnected : Result ℕ SessionFault → List ℕ → Type 0
ReportsReconnected (Ok number) said = said ≡ connector_text number ++ ok_line
ReportsReconnected (Err fault) said = ReportsUnmoved fault said

-- the edits that move an end of the connector, and what is reported of them
pub record AnswersReconnect (number : ℕ) (end : End) (id : ℤ) (class : ℕ) (old new : DrawingState) (said : List ℕ) : Type 0 where
  pub answer : Result ℕ SessionFault
  pub reconnected : IsReconnected number end id class answer old new
  pub reports : ReportsReconnected answer said
