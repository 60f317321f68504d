-- All are passed where the most of them is their number.
use Rattle.std.proofs.Common.{◌≡◌, length, refl, ap, arith}
use Rattle.std.proofs.lemmas.Bool.Decides.{nat_tests}
use Rattle.walk_model.specs.Legal.{PassesMost}
use Rattle.walk_model.proofs.Checkpoints.Passing.{most_all, most_range}
use Rattle.walk_model.proofs.Checkpoints.Segments.{draws_steps}
use Rattle.walk_model.proofs.line.passes.Goals as goal

pub returns-clause-walk : goal.returns-clause-walk
returns-clause-walk c = λ w draws.
    let via = c.args.via.now in
    let count = c.passed_between.result in
    let passed = c.passed_between.ensures in
    let most : PassesMost w 0 c.cost_of-steps.result via count = record { at_most = passed.at_most; passed = passed.passed w draws; no_more = passed.no_more w draws } in
    let ends : c.cost_of-steps.result ≡ length w.steps = omega (arith, ap length (draws_steps c.args.points.now w draws)) in
    let all = most_all w 0 (length w.steps) via count (most_range w _ _ _ _ via count refl ends most) in
    (λ yes. all.0 (grind (arith, nat_tests)), λ p. let same = all.1 p in grind (arith, nat_tests))
