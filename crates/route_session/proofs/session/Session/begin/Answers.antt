-- The transaction is begun on the present scene.
use Rattle.std.proofs.Common.{◌≡◌, sym, subst, refl}
use Rattle.session_model.specs.Txn.{BeganOn, begun}
use Rattle.route_session.proofs.Upholding.{with_transaction}
use Rattle.route_session.proofs.session.Session.begin.Goals as goal

pub invariant_of-self-2 : goal.invariant_of-self-2
invariant_of-self-2 c =
    let is : c.in-Ok.txn ≡ begun c.self.inside.present.scene = c.in-Ok.ensures in
    with_transaction c.self.inside.present.scene c.self.inside.present.graph c.self.inside.present.book c.self.inside.log c.self.inside.txn c.self.invariant c.in-Ok.txn
    (subst (BeganOn c.self.inside.present.scene) (sym is) refl)
