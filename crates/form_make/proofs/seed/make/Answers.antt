-- The script is the one that is generated from the seed.
use Rattle.std.proofs.Common.{◌<◌, ◌^◌, length, sym, subst, ◌∙◌}
use Rattle.session_model.specs.Calls.{AreDirected}
use Rattle.form_make.proofs.Script.{script_directed, script_short}
use Rattle.form_make.proofs.seed.make.Goals as goal

pub replay-requires-clause-few : goal.replay-requires-clause-few
replay-requires-clause-few g c κs within =
    subst (λ script. length script < 2 ^ 32) (sym (c.deref.ensures.value ∙ c.in_ok-script.ensures)) (script_short c.args.seed)

pub replay-requires-clause-directed : goal.replay-requires-clause-directed
replay-requires-clause-directed g c κs within =
    subst AreDirected (sym (c.deref.ensures.value ∙ c.in_ok-script.ensures)) (script_directed c.args.seed)
