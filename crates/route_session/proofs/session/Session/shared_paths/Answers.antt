-- The raw runs of right answers are routes.
use Rattle.std.proofs.Common.{◌∙◌, sym, subst}
use Rattle.scene_model.specs.Answers.{AreAnswers}
use Rattle.scene_model.specs.Valid.{IsValid}
use Rattle.shared_paths.specs.Listed.{AreRoutes}
use Rattle.route_session.proofs.RawRoutes.{are_routes, each_few}
use Rattle.route_session.proofs.session.Session.shared_paths.Goals as goal

pub raw_routes-requires : goal.raw_routes-requires
raw_routes-requires c =
    let s = c.args.self.now.world.present in
    let valid : IsValid s = subst IsValid c.scene.ensures.scene c.valid.ensures in
    let right : AreAnswers s c.answers.result.now = subst (AreAnswers s) (sym c.answers.ensures) c.book.ensures.right in
    each_few s c.answers.result.now valid right

pub shared-requires : goal.shared-requires
shared-requires c =
    let s = c.args.self.now.world.present in
    let valid : IsValid s = subst IsValid c.scene.ensures.scene c.valid.ensures in
    let right : AreAnswers s c.answers.result.now = subst (AreAnswers s) (sym c.answers.ensures) c.book.ensures.right in
    subst AreRoutes (sym (c.deref.ensures.value ∙ c.in_ok-routes.ensures)) (are_routes s c.answers.result.now valid right)
