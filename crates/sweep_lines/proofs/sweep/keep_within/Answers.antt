-- A mark stays where it stands between the coordinates.
use Rattle.std.proofs.Common.{rules, ◌≡◌, w64}
use Rattle.std.proofs.lemmas.Int.{to_z-of_z}
use Rattle.std.proofs.lemmas.Fn.{filter_same}
use Rattle.sweep_lines.specs.Kept.{is_within}
use Rattle.sweep_lines.specs.declared.mark.Mark.{Mark}
use Rattle.sweep_lines.proofs.Loops.{read}
use Rattle.sweep_lines.proofs.sweep.keep_within.Goals as goal

pub returns : goal.returns
returns c =
    let from : read c.args.from ≡ c.args.from = to_z-of_z w64 c.args.from c.ranges.from in
    let to : read c.args.to ≡ c.args.to = to_z-of_z w64 c.args.to c.ranges.to in
    filter_same _ (λ (m : Mark). is_within c.args.from c.args.to m.at) _ (λ x b q h. search rules) _ _ c.retain.ensures.filtered
