-- The model of the tree, and its properties. No public clause cites this module.
use Rattle.std.specs.Prelude.{◌≡◌, ℕ, ◌+◌, ◌≤◌, max, List, [], ◌∷◌, ◌++◌, length, Box, Option, Some, None}
use Rattle.std.specs.declared.alloc.Global.{Global}
use Rattle.interval_index.specs.declared.span.Span.{Span}
use Rattle.interval_index.specs.declared.tree.Node.{Node}
use Rattle.interval_index.specs.Ends.{greatest_end}
use Rattle.interval_index.specs.Height.{DifferByAtMost, IsLow}

-- the spans from the node down, in order
abbrev pub spans_of : Node → List Span
spans_of n = n.left.0 ++ n.span ∷ n.right.0

-- the spans in order, and the height
abbrev pub spans_and_height : Option (Box Node Global) → List Span × ℕ
spans_and_height None = ([], 0)
spans_and_height (Some b) = (spans_of b.value, b.value.height)

-- the node is balanced, and the height and the greatest end that it keeps are right
pub record IsSoundNode (n : Node) : Type 0 where
  pub greatest_end : n.greatest_end ≡ greatest_end (spans_of n)
  pub height : n.height ≡ max n.left.1 n.right.1 + 1
  pub level : DifferByAtMost 1 n.left.1 n.right.1
  pub low : IsLow n.height (length (spans_of n))

-- the tree is empty, or its root is balanced, and what the root keeps is right
abbrev pub IsSound : Option (Box Node Global) → Type 0
IsSound None = Unit {0}
IsSound (Some b) = IsSoundNode b.value

-- the span is the first of the tree, and `rest` has the others, and is at most one level lower
pub record IsFirstAndRest (tree : List Span × ℕ) (first : Span) (rest : List Span × ℕ) : Type 0 where
  pub spans : tree.0 ≡ first ∷ rest.0
  pub not_higher : rest.1 ≤ tree.1
  pub at_most_one_lower : tree.1 ≤ rest.1 + 1
