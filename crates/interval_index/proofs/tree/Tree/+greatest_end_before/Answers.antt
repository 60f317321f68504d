-- What begins before the place: some of the left side, or all of it with the node and some of the right side.
use Rattle.std.proofs.Common.{◌≡◌, true, false, rules, w64}
use Rattle.std.proofs.lemmas.Int.{to_z-of_z}
use Rattle.std.specs.Int.RustNames.{FitsSigned}
use Rattle.std.specs.Prelude.{int_lt}
use Rattle.interval_index.proofs.AtNode.{at_node}
use Rattle.interval_index.proofs.GreatestEnds.{end_past, end_short}
use Rattle.interval_index.proofs.tree.Tree.+greatest_end_before.Goals as goal

pub greatest_end_before-right-requires : goal.greatest_end_before-right-requires
greatest_end_before-right-requires t c =
    let at = at_node c.self.view_is c.in-Some.is c.requires.sorted in
    (search rules, rw c.deref-then-deref-at.ensures at.round.right)

pub greatest_end_before-requires : goal.greatest_end_before-requires
greatest_end_before-requires t c =
    let at = at_node c.self.view_is c.in-Some.is c.requires.sorted in
    (search rules, rw c.deref-else-deref-at.ensures at.round.left)

pub returns-then-deref-at : goal.returns-then-deref-at
returns-then-deref-at t c =
    let at = at_node c.self.view_is c.in-Some.is c.requires.sorted in
    let n = c.in-Some.node.value in
    let at_fits : FitsSigned w64 c.args.at = search rules in
    let hi_fits : FitsSigned w64 c.deref-then-deref-at-3.result.now.span.hi = search rules in
    let lo_fits : FitsSigned w64 c.deref.result.now.span.lo = search rules in
    let end_fits : FitsSigned w64 c.greatest_end.result = search rules in
    let right_fits : FitsSigned w64 c.greatest_end_before-right.result = search rules in
    let two_fits : FitsSigned w64 c.max.result = search rules in
    let all_fits : FitsSigned w64 c.max-then-deref-at.result = search rules in
    let test = simp to_z-of_z at c.if-deref-at.true in
    let begins : int_lt n.span.lo c.args.at ≡ true = cc (test) in
    let two = simp to_z-of_z at c.max.ensures.value in
    let all = simp to_z-of_z at c.max-then-deref-at.ensures.value in
    let right = simp to_z-of_z at c.greatest_end_before-right.ensures in
    simp to_z-of_z (cc (end_past c.args.at n.left.0 n.span n.right.0 begins at.sorted, at.is, two, all, right))

pub returns-else-deref-at : goal.returns-else-deref-at
returns-else-deref-at t c =
    let at = at_node c.self.view_is c.in-Some.is c.requires.sorted in
    let n = c.in-Some.node.value in
    let at_fits : FitsSigned w64 c.args.at = search rules in
    let lo_fits : FitsSigned w64 c.deref.result.now.span.lo = search rules in
    let left_fits : FitsSigned w64 c.greatest_end_before.result = search rules in
    let test = simp to_z-of_z at c.if-deref-at.false in
    let begins : int_lt n.span.lo c.args.at ≡ false = cc (test) in
    let left = simp to_z-of_z at c.greatest_end_before.ensures in
    simp to_z-of_z (cc (end_short c.args.at n.left.0 n.span n.right.0 begins at.sorted, at.is, left))
