-- Without memory for the text the connector is not moved.
use Rattle.std.proofs.Common.{Err, inr, refl}
use Rattle.scene_model.specs.declared.fault.SessionFault.TheVariants.{Memory}
use Rattle.live_replies.proofs.reconnect.report_reconnect.Goals as goal

pub returns-in_default : goal.returns-in_default
returns-in_default c = record { answer = Err Memory; reconnected = inr (refl, c.roll_back.ensures); reports = refl }
