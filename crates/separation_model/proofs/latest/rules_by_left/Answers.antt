-- The goals of `rules_by_left` that the check leaves.
use Rattle.std.proofs.Common.{rules}
use Rattle.std.proofs.lemmas.List.Sorted.{IsNonDecreasingBy-from_sort_by_key}
use Rattle.separation_model.specs.declared.bundle.Rule.{Rule}
use Rattle.separation_model.proofs.latest.rules_by_left.Goals as goal

pub returns-clause-sorted : goal.returns-clause-sorted
returns-clause-sorted c = IsNonDecreasingBy-from_sort_by_key (λ (r : Rule). r.left) _ c.sort_unstable_by_key.ensures.sorted (λ a r q k. search rules)
