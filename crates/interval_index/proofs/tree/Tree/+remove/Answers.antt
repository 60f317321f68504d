-- The span goes from the side where it stands, or it is the node's and the sides are joined; the tree is balanced again.
use Rattle.std.proofs.Common.{◌≡◌, ℕ, true, false, ap, length, arith, rules}
use Rattle.interval_index.specs.Order.{is_before}
use Rattle.interval_index.proofs.AtNode.{AreSides, at_node, sides_taken}
use Rattle.interval_index.proofs.Placed.{without_left, without_right, without_middle, length-without}
use Rattle.interval_index.proofs.tree.Tree.+remove.Goals as goal
use Rattle.interval_index.proofs.tree.Tree.+remove.Goals.{After-take_sides-left}

-- the sides that were taken
sides_here : (t : ℕ) (c : After-take_sides-left t) → AreSides c.args.self.0 c.take_sides-left.result
sides_here t c =
    let left : c.take_sides-left.result.0 ≡ c.in-Some.node.value.left = cc in
    let right : c.take_sides-left.result.1 ≡ c.in-Some.node.value.right = cc in
    sides_taken (at_node c.self.view_is c.in-Some.is c.requires.sorted) left right

pub remove-requires : goal.remove-requires
remove-requires t c =
    let sides = sides_here t (goal.at.remove-requires t c).After-take_sides-left in
    (search rules, (sides.left_sorted, omega (arith, sides.size, c.requires.fits)))

pub remove-requires-then-is_before-2 : goal.remove-requires-then-is_before-2
remove-requires-then-is_before-2 t c =
    let sides = sides_here t (goal.at.remove-requires-then-is_before-2 t c).After-take_sides-left in
    (search rules, (sides.right_sorted, omega (arith, sides.size, c.requires.fits)))

pub balanced-requires-clause-fits : goal.balanced-requires-clause-fits
balanced-requires-clause-fits t c =
    let sides = sides_here t (goal.at.balanced-requires-clause-fits t c).After-take_sides-left in
    let fewer = length-without c.args.span.now c.take_sides-left.result.0.0 in
    omega (arith, sides.size, ap length c.remove.ensures.spans, fewer, c.requires.fits)

pub balanced-requires-then-is_before-2-clause-fits : goal.balanced-requires-then-is_before-2-clause-fits
balanced-requires-then-is_before-2-clause-fits t c =
    let sides = sides_here t (goal.at.balanced-requires-then-is_before-2-clause-fits t c).After-take_sides-left in
    let fewer = length-without c.args.span.now c.take_sides-left.result.1.0 in
    omega (arith, sides.size, ap length c.remove-then-is_before-2.ensures.spans, fewer, c.requires.fits)

pub returns-then-is_before-clause-spans : goal.returns-then-is_before-clause-spans
returns-then-is_before-clause-spans t c =
    let at = at_node c.self.view_is c.in-Some.is c.requires.sorted in
    let n = c.in-Some.node.value in
    let s = c.args.span.now in
    let before : is_before s n.span ≡ true = cc in
    cc (without_left s n.span n.left.0 n.right.0 before at.sorted, at.is)

pub returns-then-is_before-2-clause-spans : goal.returns-then-is_before-2-clause-spans
returns-then-is_before-2-clause-spans t c =
    let at = at_node c.self.view_is c.in-Some.is c.requires.sorted in
    let n = c.in-Some.node.value in
    let s = c.args.span.now in
    let after : is_before n.span s ≡ true = cc in
    cc (without_right s n.span n.left.0 n.right.0 after at.sorted, at.is)

pub returns-else-is_before-2-clause-spans : goal.returns-else-is_before-2-clause-spans
returns-else-is_before-2-clause-spans t c =
    let at = at_node c.self.view_is c.in-Some.is c.requires.sorted in
    let n = c.in-Some.node.value in
    let s = c.args.span.now in
    let not_before : is_before s n.span ≡ false = cc in
    let not_after : is_before n.span s ≡ false = cc in
    cc (without_middle s n.span n.left.0 n.right.0 not_before not_after at.sorted, at.is)
