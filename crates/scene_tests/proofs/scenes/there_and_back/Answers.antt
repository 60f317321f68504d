-- What takes back an edit that was done may be applied to the scene after it.
use Rattle.std.proofs.Common.{sym, ap, subst, ◌∙◌}
use Rattle.scene_model.specs.Edits.{changed}
use Rattle.scene_model.specs.Inverses.{Fits, restored}
use Rattle.scene_model.specs.Valid.{IsValid}
use Rattle.scene_model.proofs.TakingBack.Restoring.{takes_back}
use Rattle.scene_tests.proofs.scenes.there_and_back.Goals as goal

pub restore-requires : goal.restore-requires
restore-requires c =
    let s = c.args.scene.now in
    let e = c.args.edit.now in
    let valid = c.valid.ensures in
    let done = c.in_ok-edit.ensures in
    let back = takes_back e s valid done.0 in
    record {
      fits = subst (Fits c.in-Ok.inverse) (sym done.1) (subst (λ i. Fits i (changed e s)) (sym c.in-Ok.ensures) back.0);
      valid = subst IsValid (sym (ap (restored c.in-Ok.inverse) done.1 ∙ ap (λ i. restored i (changed e s)) c.in-Ok.ensures ∙ back.1)) valid;
    }
