-- A key that was taken out is no longer there.
use Rattle.interval_index.proofs.Listed.{has_key_without}
use Rattle.floor_tests.proofs.intervals.put.Goals as goal

pub insert-requires-clause-new_key : goal.insert-requires-clause-new_key
insert-requires-clause-new_key c = rw c.remove.ensures.rest (has_key_without c.args.key c.args.index.now)
