-- Each kept line is near the whole sheet.
use Rattle.std.proofs.Common.{◌≡◌, true}
use Rattle.std.proofs.lemmas.Result.{IfOk-weaker}
use Rattle.sweep_lines.specs.Kept.{AreAllKept, AreKept, is_near}
use Rattle.sweep_lines.proofs.KeptLines.{on_whole_sheet, sheet}
use Rattle.sweep_lines.proofs.sweep.all_lines.Goals as goal

pub returns : goal.returns
returns c =
    let floor = c.args.floor.now in
    IfOk-weaker c.lines_near.result (λ ls. AreKept floor (λ l. is_near sheet l ≡ true) ls.items) (λ ls. AreAllKept floor ls.items) (λ ls. on_whole_sheet floor ls.items) c.lines_near.ensures
