-- The lesser of two limits is at least z exactly where both are.
use Rattle.std.proofs.Common.{w64, FitsSigned, rules}
use Rattle.std.proofs.lemmas.Int.{to_z-of_z}
use Rattle.channel_bundles.proofs.Ranges.{lowered}
use Rattle.channel_bundles.proofs.limits.Limits.up_to.Goals as goal

pub returns : goal.returns
returns c =
    let low : FitsSigned w64 c.args.self.low = search rules in
    let high : FitsSigned w64 c.args.self.high = search rules in
    let at : FitsSigned w64 c.args.at = search rules in
    let min : FitsSigned w64 c.min.result = search rules in
    let value = simp to_z-of_z at c.min.ensures.value in
    simp to_z-of_z (λ z. lowered c.args.self.low c.args.self.high c.args.at c.min.result z value)
