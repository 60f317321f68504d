-- Its two lines run at coordinates of the sheet.
use Rattle.move_model.proofs.GoingOn.Rests.{crossing_on_sheet}
use Rattle.move_model.proofs.laws.crossings_are_on_sheet.Goals as goal

pub returns : goal.returns
returns c = crossing_on_sheet
