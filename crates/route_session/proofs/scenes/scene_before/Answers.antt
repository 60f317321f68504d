-- The inverse at the place may be applied.
use Rattle.std.proofs.Common.{◌≡◌, ◌-◌, length, slice_get, Some, refl, arith}
use Rattle.std.proofs.lemmas.Option.{slice_get_read}
use Rattle.route_session.proofs.Steps.{restorable_before}
use Rattle.route_session.proofs.scenes.scene_before.Goals as goal

pub restore-requires : goal.restore-requires
restore-requires c =
    let at : slice_get c.args.back.now (c.loop-place.place - 1) ≡ Some c.index-back-place.result =
    slice_get_read c.args.back.now (length c.args.back.now) (c.loop-place.place - 1) c.index-back-place.result refl (omega arith) c.index-back-place.is in
    restorable_before c.args.back.now c.args.scene.now c.loop-place.before c.loop-place.place c.index-back-place.result c.requires at c.loop-place-test.true c.loop-place.invariant
