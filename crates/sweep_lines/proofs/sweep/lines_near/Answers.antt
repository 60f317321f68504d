-- Vertical lines stand before horizontal ones.
use Rattle.std.proofs.Common.{FitsSigned, rules, w64, ◌≡◌, ◌∙◌, ◌++◌, sym, ap, subst, true}
use Rattle.std.proofs.lemmas.Int.{to_z-of_z}
use Rattle.plane_geom.specs.declared.point.Way.TheVariants.{Vertical, Horizontal}
use Rattle.sweep_lines.specs.Kept.{AreKept, RunsWithin, is_near}
use Rattle.sweep_lines.proofs.KeptLines.{both_ways}
use Rattle.sweep_lines.proofs.sweep.lines_near.Goals as goal

pub returns : goal.returns
returns c =
    let floor = c.args.floor.now in
    let near = c.args.near.now in
    let left : FitsSigned w64 near.left = search rules in
    let right : FitsSigned w64 near.right = search rules in
    let top : FitsSigned w64 near.top = search rules in
    let bottom : FitsSigned w64 near.bottom = search rules in
    let first = c.in_ok-sweep.ensures in
    let second = c.in_ok-sweep-2.ensures in
    let upright : AreKept floor (RunsWithin Vertical near.left near.right) first.0 = simp to_z-of_z at first.1 in
    let level : AreKept floor (RunsWithin Horizontal near.top near.bottom) second.0 = simp to_z-of_z at second.1 in
    subst (AreKept floor (λ l. is_near near l ≡ true))
    (sym (second.2 ∙ ap (λ ls. ls ++ second.0) (first.2 ∙ ap (λ ls. ls ++ first.0) c.new-lines.ensures.items)))
    (both_ways floor near first.0 second.0 upright level)
