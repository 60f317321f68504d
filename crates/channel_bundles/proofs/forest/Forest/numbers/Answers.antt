-- Numbers of trees are groups, and what is connected has one number.
use Rattle.channel_bundles.proofs.Grouping.{one_number, trees_are_groups}
use Rattle.channel_bundles.proofs.forest.Forest.numbers.Goals as goal

pub returns-clause-groups : goal.returns-clause-groups
returns-clause-groups c = trees_are_groups _ _ _ c.in_ok-trees.ensures

pub returns-clause-together : goal.returns-clause-together
returns-clause-together c = one_number _ _ _ c.in_ok-trees.ensures
