-- The span goes into the side where its place is, and the tree is balanced again.
use Rattle.std.proofs.Common.{◌≡◌, ℕ, ◌∙◌, true, false, ap, length, arith, rules}
use Rattle.interval_index.specs.Order.{is_before}
use Rattle.interval_index.proofs.AtNode.{AreSides, at_node, sides_taken}
use Rattle.interval_index.proofs.Placed.{inserted_left, inserted_right, length-inserted}
use Rattle.interval_index.proofs.tree.Tree.+insert.Goals as goal
use Rattle.interval_index.proofs.tree.Tree.+insert.Goals.{After-take_sides-left}

-- the sides that were taken
sides_here : (t : ℕ) (c : After-take_sides-left t) → AreSides c.args.self.0 c.take_sides-left.result
sides_here t c =
    let left : c.take_sides-left.result.0 ≡ c.in-Some.node.value.left = cc in
    let right : c.take_sides-left.result.1 ≡ c.in-Some.node.value.right = cc in
    sides_taken (at_node c.self.view_is c.in-Some.is c.requires.sorted) left right

pub insert-requires : goal.insert-requires
insert-requires t c =
    let sides = sides_here t (goal.at.insert-requires t c).After-take_sides-left in
    (search rules, (sides.left_sorted, omega (arith, sides.size, c.requires.fits)))

pub insert-requires-else-is_before : goal.insert-requires-else-is_before
insert-requires-else-is_before t c =
    let sides = sides_here t (goal.at.insert-requires-else-is_before t c).After-take_sides-left in
    (search rules, (sides.right_sorted, omega (arith, sides.size, c.requires.fits)))

pub balanced-requires-clause-fits : goal.balanced-requires-clause-fits
balanced-requires-clause-fits t c =
    let sides = sides_here t (goal.at.balanced-requires-clause-fits t c).After-take_sides-left in
    let more = ap length c.insert.ensures.spans ∙ length-inserted c.args.new.value.span c.take_sides-left.result.0.0 in
    omega (arith, sides.size, more, c.requires.fits)

pub balanced-requires-else-is_before-clause-fits : goal.balanced-requires-else-is_before-clause-fits
balanced-requires-else-is_before-clause-fits t c =
    let sides = sides_here t (goal.at.balanced-requires-else-is_before-clause-fits t c).After-take_sides-left in
    let more = ap length c.insert-else-is_before.ensures.spans ∙ length-inserted c.args.new.value.span c.take_sides-left.result.1.0 in
    omega (arith, sides.size, more, c.requires.fits)

pub returns-then-is_before-clause-spans : goal.returns-then-is_before-clause-spans
returns-then-is_before-clause-spans t c =
    let at = at_node c.self.view_is c.in-Some.is c.requires.sorted in
    let n = c.in-Some.node.value in
    let s = c.args.new.value.span in
    let before : is_before s n.span ≡ true = cc in
    cc (inserted_left s n.span n.left.0 n.right.0 before, at.is)

pub returns-else-is_before-clause-spans : goal.returns-else-is_before-clause-spans
returns-else-is_before-clause-spans t c =
    let at = at_node c.self.view_is c.in-Some.is c.requires.sorted in
    let n = c.in-Some.node.value in
    let s = c.args.new.value.span in
    let not_before : is_before s n.span ≡ false = cc in
    cc (inserted_right s n.span n.left.0 n.right.0 not_before at.sorted, at.is)
