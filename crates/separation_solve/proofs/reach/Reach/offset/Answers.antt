-- The goals of `Reach::offset` that the check leaves.
use Rattle.std.proofs.Common.{◌<◌, length, None, sym, ◌∙◌, arith}
use Rattle.std.proofs.lemmas.List.{get_or_read}
use Rattle.separation_solve.proofs.reach.Reach.offset.Goals as goal

pub index-requires-2 : goal.index-requires-2
index-requires-2 c =
    let steps = c.args.self.now.steps in
    let within : c.in_ok-step.step < length steps.items =
    c.requires.steps c.args.node c.in_ok-step.step (sym (get_or_read c.args.self.now.found.items _ _ c.requires.node c.index.ensures None) ∙ c.in_ok-step.was) in
    omega (arith, within, steps.ok.0)
