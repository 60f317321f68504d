-- From a coordinate to itself is one whole line.
use Rattle.std.proofs.Common.{◌≡◌, ◌∙◌, ◌++◌, sym, ap, subst, w64}
use Rattle.std.proofs.lemmas.Int.{to_z-of_z}
use Rattle.sweep_lines.specs.Kept.{AreKept, RunsWithin}
use Rattle.sweep_lines.proofs.KeptLines.{on_one_line}
use Rattle.sweep_lines.proofs.Loops.{read}
use Rattle.sweep_lines.proofs.sweep.lines_on.Goals as goal

pub returns : goal.returns
returns g c =
    let floor = c.args.floor.now in
    let way = g.A.Axis.way_of in
    let at : read c.args.at ≡ c.args.at = to_z-of_z w64 c.args.at c.ranges.at in
    let found = c.in_ok-sweep.ensures in
    subst (AreKept floor (λ l. (l.way ≡ way) × (l.at ≡ c.args.at))) (sym (found.2 ∙ ap (λ ls. ls ++ found.0) c.new-lines.ensures.items))
    (on_one_line floor way c.args.at found.0 (subst (λ z. AreKept floor (RunsWithin way z z) found.0) at found.1))
