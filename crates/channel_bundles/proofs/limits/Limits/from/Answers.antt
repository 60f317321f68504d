-- The greater of two limits is at most z exactly where both are.
use Rattle.std.proofs.Common.{w64, FitsSigned, rules}
use Rattle.std.proofs.lemmas.Int.{to_z-of_z}
use Rattle.channel_bundles.proofs.Ranges.{raised}
use Rattle.channel_bundles.proofs.limits.Limits.from.Goals as goal

pub returns : goal.returns
returns c =
    let low : FitsSigned w64 c.args.self.low = search rules in
    let high : FitsSigned w64 c.args.self.high = search rules in
    let at : FitsSigned w64 c.args.at = search rules in
    let max : FitsSigned w64 c.max.result = search rules in
    let value = simp to_z-of_z at c.max.ensures.value in
    simp to_z-of_z (λ z. raised c.args.self.low c.args.self.high c.args.at c.max.result z value)
