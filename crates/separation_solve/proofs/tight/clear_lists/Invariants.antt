-- What the loop of `clear_lists` keeps.
use Rattle.std.proofs.Common.{◌≡◌, [], Vec, ℕ}
use Rattle.std.specs.List.{AllWithin}
use Rattle.separation_model.specs.Arena.{Arena}
use Rattle.separation_solve.proofs.tight.clear_lists.Given as goal

abbrev pub invariant-loop-list : goal.invariant-loop-list
invariant-loop-list l = AllWithin (λ (list : Vec ℕ Arena). list.items ≡ []) l.lists 0 l.list-index
