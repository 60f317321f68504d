-- The coordinates of an axis are those of its way.
use Rattle.std.proofs.Common.{rules}
use Rattle.sweep_lines.specs.Bars.{near_corner, far_corner}
use Rattle.sweep_lines.proofs.bar.bar_along.Goals as goal

pub returns : goal.returns
returns g c =
    let axis = g.met.A.Axis in
    let near = near_corner c.args.rect.now in
    let far = far_corner c.args.rect.now in
    let a = axis.across_by_way near in
    let b = axis.along_by_way near in
    let d = axis.across_by_way far in
    let e = axis.along_by_way far in
    search rules
