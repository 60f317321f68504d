-- The first start from the place on is one of the left side, the node's, or one of the right side.
use Rattle.std.proofs.Common.{◌≡◌, true, false, rules, w64}
use Rattle.std.proofs.lemmas.Int.{to_z-of_z}
use Rattle.std.specs.Int.RustNames.{FitsSigned}
use Rattle.std.specs.Prelude.{int_lt}
use Rattle.interval_index.proofs.AtNode.{at_node}
use Rattle.interval_index.proofs.GreatestEnds.{start_past, start_short}
use Rattle.interval_index.proofs.tree.Tree.+start_from.Goals as goal

pub start_from-requires : goal.start_from-requires
start_from-requires t c =
    let at = at_node c.self.view_is c.in-Some.is c.requires.sorted in
    (search rules, rw c.deref-then-deref-at.ensures at.round.right)

pub start_from-requires-else-deref-at : goal.start_from-requires-else-deref-at
start_from-requires-else-deref-at t c =
    let at = at_node c.self.view_is c.in-Some.is c.requires.sorted in
    (search rules, rw c.deref-else-deref-at.ensures at.round.left)

pub returns-then-deref-at : goal.returns-then-deref-at
returns-then-deref-at t c =
    let at = at_node c.self.view_is c.in-Some.is c.requires.sorted in
    let n = c.in-Some.node.value in
    let at_fits : FitsSigned w64 c.args.at = search rules in
    let otherwise_fits : FitsSigned w64 c.args.otherwise = search rules in
    let lo_fits : FitsSigned w64 c.deref.result.now.span.lo = search rules in
    let result_fits : FitsSigned w64 c.start_from.result = search rules in
    let test = simp to_z-of_z at c.if-deref-at.true in
    let begins : int_lt n.span.lo c.args.at ≡ true = cc (test) in
    let right = simp to_z-of_z at c.start_from.ensures in
    simp to_z-of_z (cc (start_past c.args.at c.args.otherwise n.left.0 n.span n.right.0 begins at.sorted, at.is, right))

pub returns-else-deref-at : goal.returns-else-deref-at
returns-else-deref-at t c =
    let at = at_node c.self.view_is c.in-Some.is c.requires.sorted in
    let n = c.in-Some.node.value in
    let at_fits : FitsSigned w64 c.args.at = search rules in
    let lo_fits : FitsSigned w64 c.deref.result.now.span.lo = search rules in
    let lo_fits_too : FitsSigned w64 c.deref-else-deref-at-2.result.now.span.lo = search rules in
    let result_fits : FitsSigned w64 c.start_from-else-deref-at.result = search rules in
    let test = simp to_z-of_z at c.if-deref-at.false in
    let begins : int_lt n.span.lo c.args.at ≡ false = cc (test) in
    let left = simp to_z-of_z at c.start_from-else-deref-at.ensures in
    simp to_z-of_z (cc (start_short c.args.at c.args.otherwise n.left.0 n.span n.right.0 begins, at.is, left))
