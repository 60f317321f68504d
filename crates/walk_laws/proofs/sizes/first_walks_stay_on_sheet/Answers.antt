-- The points of the tour, by their numbers.
use Rattle.walk_laws.proofs.OnKeptLines.OnSheet.{first_on_sheet, point_on_sheet}
use Rattle.walk_laws.proofs.sizes.first_walks_stay_on_sheet.Goals as goal

pub returns : goal.returns
returns c = λ floor task t is_task on first k. point_on_sheet k t.walk.start t.walk.steps (first_on_sheet floor task t is_task on first)
