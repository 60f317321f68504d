-- Trees of pairs, the model of a document.
use Rattle.std.specs.Prelude.{ℕ, suc, max, List, [], ◌∷◌}

mutual
  -- the value of a key
  pub data Content : Type 0 where
    number : List ℕ → Content
    text : List ℕ → Content
    list : Pairs → Content

  -- pairs in order: each has a key and a value, and more may follow
  pub data Pairs : Type 0 where
    no_pairs : Pairs
    pair : List ℕ → Content → Pairs → Pairs

abbrev mutual
  -- the greatest number of open lists
  pub depth : Pairs → ℕ
  depth no_pairs = 0
  depth (pair key value rest) = max (value_depth value) (depth rest)

  -- the same, if the value is a list, including that list
  pub value_depth : Content → ℕ
  value_depth (number bytes) = 0
  value_depth (text bytes) = 0
  value_depth (list pairs) = suc (depth pairs)

-- the pairs of both, one after the other
infixl 20 ◌then◌
abbrev pub ◌then◌ : Pairs → Pairs → Pairs
no_pairs then more = more
(pair key value rest) then more = pair key value (rest then more)

-- the keys of the pairs, in order
abbrev pub keys : Pairs → List (List ℕ)
keys no_pairs = []
keys (pair key value rest) = key ∷ keys rest
