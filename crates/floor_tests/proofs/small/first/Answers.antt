-- No more are split off than are there.
use Rattle.std.proofs.Common.{take, ap, ◌∙◌}
use Rattle.std.proofs.lemmas.List.{take_min}
use Rattle.floor_tests.proofs.small.first.Goals as goal

pub returns : goal.returns
returns g c = c.split_at.ensures.front ∙ ap (λ n. take n c.args.all.now) c.min.ensures ∙ take_min 256 c.args.all.now
