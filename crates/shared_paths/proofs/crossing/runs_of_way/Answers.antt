-- A sort only moves the runs, and leaves them in order.
use Rattle.std.proofs.Common.{rules}
use Rattle.std.proofs.lemmas.List.Sorted.{answers_always}
use Rattle.segment_order.specs.declared.run.Run.{Run}
use Rattle.shared_paths.proofs.Counting.{rises}
use Rattle.shared_paths.proofs.crossing.runs_of_way.Goals as goal

pub returns-clause-order : goal.returns-clause-order
returns-clause-order c =
    rises c.sort_unstable_by_key.new.self.items (c.sort_unstable_by_key.ensures.sorted (λ (r : Run). r.at) (answers_always _ _ _ (λ f a r g h. search rules)))
