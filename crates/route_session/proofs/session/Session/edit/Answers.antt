-- The transaction stays one on the present scene.
use Rattle.std.proofs.Common.{rules, ◌≡◌, false, not, Some, Ok, sym, ap, subst, ◌∙◌}
use Rattle.scene_model.specs.Edits.{IsEdited}
use Rattle.session_model.specs.Txn.{BeganOn, applied}
use Rattle.session_model.proofs.Begins.{keeps_begin}
use Rattle.route_session.proofs.Upholding.{done_by, with_transaction}
use Rattle.route_session.proofs.session.Session.edit.Goals as goal

pub invariant_of-self-else-is_err : goal.invariant_of-self-else-is_err
invariant_of-self-else-is_err c =
    let old = c.in-Some.txn.now in
    let open_is : c.self.inside.txn ≡ Some old = cc in
    let began : BeganOn c.self.inside.present.scene old = rw open_is at c.self.invariant.begun in
    let went : c.is_err.result ≡ false = cc in
    let done : c.apply.result ≡ Ok tt = done_by c.apply.result (sym c.map_err-done.ensures.variant ∙ c.is_err.ensures.negation ∙ ap not went) in
    let edited : IsEdited c.args.edit.now old.working c.apply.new.self.working (Ok tt) = rw done at c.apply.ensures.edited in
    let is : c.apply.new.self ≡ applied c.args.edit.now old = rw done at c.apply.ensures.ok in
    with_transaction c.self.inside.present.scene c.self.inside.present.graph c.self.inside.present.book c.self.inside.log c.self.inside.txn c.self.invariant c.apply.new.self
    (subst (BeganOn c.self.inside.present.scene) (sym is) (keeps_begin c.self.inside.present.scene c.args.edit.now old c.requires edited.0 began))

pub returns-then-is_err-clause-call : goal.returns-then-is_err-clause-call
returns-then-is_err-clause-call c = search rules
