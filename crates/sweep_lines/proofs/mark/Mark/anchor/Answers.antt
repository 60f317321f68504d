-- The coordinates of an axis are those of its way.
use Rattle.std.proofs.Common.{rules}
use Rattle.sweep_lines.proofs.mark.Mark.anchor.Goals as goal

pub returns : goal.returns
returns g c =
    let a = g.met.A.Axis.across_by_way c.args.anchor in
    let b = g.met.A.Axis.along_by_way c.args.anchor in
    search rules
