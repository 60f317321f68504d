-- The law is a lemma: `met_positions_are_on_sheet`.
use Rattle.separation_model.proofs.Rounding.{solution_on_sheet}
use Rattle.separation_model.proofs.laws.met_positions_are_on_sheet.Goals as goal

pub returns : goal.returns
returns c = solution_on_sheet
