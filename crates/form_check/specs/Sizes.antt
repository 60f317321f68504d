-- Documents whose lines are short enough to be judged.
use Rattle.std.specs.Prelude.{ℕ, suc, ◌+◌, ◌≤◌}
use Rattle.gml_text.specs.Tree.{Content, number, text, list, Pairs, no_pairs, pair}

abbrev mutual
  -- the number of pairs, at all depths
  pub pair_count : Pairs → ℕ
  pair_count no_pairs = 0
  pair_count (pair key value rest) = suc (value_count value + pair_count rest)

  -- the number of pairs in a value
  pub value_count : Content → ℕ
  value_count (number bytes) = 0
  value_count (text bytes) = 0
  value_count (list inner) = pair_count inner

-- no list of the tree has more pairs than a line may have points
abbrev pub HasFewPairs : Pairs → Type 0
HasFewPairs tree = pair_count tree ≤ 40000000
