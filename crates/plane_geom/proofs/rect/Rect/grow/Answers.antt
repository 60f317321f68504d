-- The moved sides fit.
use Rattle.std.proofs.Common.{w64, FitsSigned, ◌-ℤ◌, ◌+ℤ◌}
use Rattle.std.proofs.lemmas.Int.{to_z-of_z}
use Rattle.plane_geom.proofs.Signed.{coordinate_fits}
use Rattle.plane_geom.proofs.rect.Rect.grow.Goals as goal

pub returns : goal.returns
returns c =
    let r = c.args.self.now in
    let by = c.args.by in
    let left = coordinate_fits _ c.requires.within.left in
    let top = coordinate_fits _ c.requires.within.top in
    let right = coordinate_fits _ c.requires.within.right in
    let bottom = coordinate_fits _ c.requires.within.bottom in
    let b : FitsSigned w64 by = c.ranges.by in
    let left2 : FitsSigned w64 (r.left -ℤ by) = coordinate_fits _ c.requires.grown_within.left in
    let top2 : FitsSigned w64 (r.top -ℤ by) = coordinate_fits _ c.requires.grown_within.top in
    let right2 : FitsSigned w64 (r.right +ℤ by) = coordinate_fits _ c.requires.grown_within.right in
    let bottom2 : FitsSigned w64 (r.bottom +ℤ by) = coordinate_fits _ c.requires.grown_within.bottom in
    simp to_z-of_z
