-- A sorted tree at its root.
use Rattle.std.proofs.Common.{◌≡◌, ℕ, ◌+◌, List, ◌∷◌, ◌++◌, length, Box, Option, Some, sym, subst, ap, ◌∙◌, arith, length-append}
use Rattle.std.specs.declared.alloc.Global.{Global}
use Rattle.interval_index.specs.declared.span.Span.{Span}
use Rattle.interval_index.specs.declared.tree.Node.{Node}
use Rattle.interval_index.specs.Order.{IsSorted}
use Rattle.interval_index.specs.Tree.{spans_and_height}
use Rattle.interval_index.proofs.Placed.{IsSortedRound, sorted_round}

-- the spans are those from the root down, in order
pub record IsAtNode (spans : List Span) (n : Node) : Type 0 where
  pub is : spans ≡ n.left.0 ++ n.span ∷ n.right.0
  pub sorted : IsSorted (n.left.0 ++ n.span ∷ n.right.0)
  pub round : IsSortedRound n.left.0 n.span n.right.0
  pub size : length spans ≡ length n.left.0 + length n.right.0 + 1

pub at_node : {root : Option (Box Node Global)} {tree : List Span × ℕ} {b : Box Node Global} → spans_and_height root ≡ tree → root ≡ Some b → IsSorted tree.0 → IsAtNode tree.0 b.value
at_node {root} {tree} {b} view at sorted =
    let n = b.value in
    let is : tree.0 ≡ n.left.0 ++ n.span ∷ n.right.0 = ap (λ d. d.0) (sym view ∙ ap spans_and_height at) in
    let same = subst IsSorted is sorted in
    record {
      is = is;
      sorted = same;
      round = sorted_round _ _ _ same;
      size = ap length is ∙ omega (arith, length-append n.left.0 (n.span ∷ n.right.0));
    }

-- the sides of a sorted tree's root are sorted, and have all its spans but one
pub record AreSides (spans : List Span) (sides : (List Span × ℕ) × (List Span × ℕ)) : Type 0 where
  pub left_sorted : IsSorted sides.0.0
  pub right_sorted : IsSorted sides.1.0
  pub size : length spans ≡ length sides.0.0 + length sides.1.0 + 1

pub sides_taken : {spans : List Span} {n : Node} {sides : (List Span × ℕ) × (List Span × ℕ)} → IsAtNode spans n → sides.0 ≡ n.left → sides.1 ≡ n.right → AreSides spans sides
sides_taken at left right = record {
  left_sorted = rw left at.round.left;
  right_sorted = rw right at.round.right;
  size = rw (left, right) at.size;
}
