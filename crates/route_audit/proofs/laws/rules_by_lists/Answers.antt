-- The lists have all of them, and no others.
use Rattle.route_audit.proofs.EndsByList.{endings_all, endings_end, entries_all, entries_found}
use Rattle.route_audit.proofs.MovesByRow.{all_moves, each_move}
use Rattle.route_audit.proofs.laws.rules_by_lists.Goals as goal

pub returns : goal.returns
returns c = record {
  entries = λ floor a task claim rows entries arena stands are.
      (entries_found floor a arena stands task claim rows entries are, entries_all floor a arena stands task claim rows entries are);
  moves = λ floor task claim rows rise. (all_moves floor task claim rows, each_move floor task claim rows rise);
  endings = λ floor a task claim rows endings arena stands are.
      (endings_end floor a arena stands task claim rows endings are, endings_all floor a arena stands task claim rows endings are);
}
