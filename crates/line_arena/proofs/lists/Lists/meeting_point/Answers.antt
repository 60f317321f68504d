-- Lines that meet do so at the vertical one's x and the horizontal one's y.
use Rattle.std.proofs.Common.{◌≡◌, Some, ap, subst, rules, w64}
use Rattle.std.specs.Option.{option_map}
use Rattle.std.proofs.lemmas.Int.{to_z-of_z}
use Rattle.std.specs.Int.RustNames.{FitsSigned}
use Rattle.line_arena.specs.Lists.{line_at}
use Rattle.line_arena.proofs.Linking.Put.{met_at}
use Rattle.line_arena.proofs.lists.Lists.meeting_point.Goals as goal

pub returns : goal.returns
returns c =
    let a = c.args.self.now in
    let v = c.get.result.now.0 in
    let h = c.get-2.result.now.0 in
    let v_fits : FitsSigned w64 v.at = search rules in
    let h_fits : FitsSigned w64 h.at = search rules in
    let is_v = subst (λ i. line_at a i ≡ Some v) c.place.ensures (ap (option_map (λ e. e.0)) c.get.ensures) in
    let is_h = subst (λ i. line_at a i ≡ Some h) c.place-2.ensures (ap (option_map (λ e. e.0)) c.get-2.ensures) in
    simp to_z-of_z (met_at (line_at a) c.args.vertical c.args.horizontal c.requires.meet v h is_v is_h)
