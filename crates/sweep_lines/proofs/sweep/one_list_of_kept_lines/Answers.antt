-- Lists in strict order with the same members are one.
use Rattle.std.proofs.Common.{◌≡◌, true}
use Rattle.sweep_lines.proofs.OneList.{one_list_of_kept}
use Rattle.sweep_lines.proofs.sweep.one_list_of_kept_lines.Goals as goal

pub returns-clause-all : goal.returns-clause-all
returns-clause-all c = λ floor ls ms. one_list_of_kept floor (λ _. Unit {0}) ls ms

pub returns-clause-asked : goal.returns-clause-asked
returns-clause-asked c = λ floor is_asked ls ms. one_list_of_kept floor (λ l. is_asked l ≡ true) ls ms
