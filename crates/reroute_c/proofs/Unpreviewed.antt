-- Why a preview is refused.
use Rattle.std.proofs.Common.{◌≡◌, ◌≢◌, Result, Ok, Err, ap}
use Rattle.std.specs.Prelude.{IfErr}
use Rattle.scene_model.specs.declared.fault.SessionFault.{SessionFault}
use Rattle.session_model.specs.State.{State}
use Rattle.drawing.specs.Lines.{IsUnproposed}
use Rattle.reroute_c.specs.declared.fault.Fault.{Fault}
use Rattle.reroute_c.specs.Codes.{fault_of}
use Rattle.reroute_c.specs.Lines.{IsUnpreviewed}

pub unpreviewed : (answer : Result Unit SessionFault) (s : State) (fault : Fault) → IfErr answer (IsUnproposed s) → fault ≡ fault_of answer → fault.code ≢ 0 → IsUnpreviewed s fault
unpreviewed (Ok done) s fault h is refused = absurd (refused (ap (λ (f : Fault). f.code) is))
unpreviewed (Err why) s fault h is refused = (why, h, is)
