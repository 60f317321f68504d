-- A connector is moved on an open handle.
use Rattle.std.proofs.Common.{◌≡◌, ℕ, ℤ, Option, Some, Result, subst, sym}
use Rattle.scene_model.specs.declared.fault.SessionFault.{SessionFault}
use Rattle.drawing.specs.declared.reconnect.End.{End}
use Rattle.drawing.specs.Drawing.{DrawingState}
use Rattle.drawing.specs.Reconnect.{IsReconnected}
use Rattle.reroute_c.specs.declared.fault.Fault.{Fault}
use Rattle.reroute_c.specs.Edits.{Reconnects, number_fault}
use Rattle.reroute_c.specs.Open.{IfOpen}

pub reconnected : (old new : Option DrawingState) (s n : DrawingState) (connector : ℕ) (end asked : End) (told id : ℤ) (class : ℕ) (answer : Result ℕ SessionFault) (fault : Fault) →
    Some s ≡ old → new ≡ Some n → end ≡ asked → told ≡ id → fault ≡ number_fault answer → IsReconnected connector end told class answer s n →
    IfOpen old new (Reconnects connector asked id class fault)
reconnected old new s n connector end asked told id class answer fault was now is_end is_id is done =
    let of_end : Reconnects connector asked told class fault s n = subst (λ (e : End). Reconnects connector e told class fault s n) is_end (answer, is, done) in
    let moved : Reconnects connector asked id class fault s n = subst (λ (z : ℤ). Reconnects connector asked z class fault s n) is_id of_end in
    let left : IfOpen (Some s) new (Reconnects connector asked id class fault) =
    subst (λ (held : Option DrawingState). IfOpen (Some s) held (Reconnects connector asked id class fault)) (sym now) moved in
    subst (λ (held : Option DrawingState). IfOpen held new (Reconnects connector asked id class fault)) was left
