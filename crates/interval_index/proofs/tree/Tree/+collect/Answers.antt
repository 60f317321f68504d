-- A tree whose ends are all too low meets nothing; otherwise what meets is in its left side, its node and its right side.
use Rattle.std.proofs.Common.{◌≡◌, ℕ, ◌≤ℤ◌, [], ◌∷◌, ◌++◌, sym, subst, arith, rules, w64}
use Rattle.std.proofs.lemmas.Int.{ints, to_z-of_z}
use Rattle.std.proofs.lemmas.List.{append-nil}
use Rattle.std.proofs.lemmas.Result.{on_ok_weaker}
use Rattle.std.specs.Int.RustNames.{FitsSigned}
use Rattle.interval_index.specs.Ends.{greatest_end, keys_met}
use Rattle.interval_index.specs.Tree.{IsSound, IsSoundNode}
use Rattle.interval_index.proofs.AtNode.{IsAtNode, at_node}
use Rattle.interval_index.proofs.GreatestEnds.{meets_none, meets_short, keys_met_round}
use Rattle.interval_index.proofs.tree.Tree.+collect.Goals as goal
use Rattle.interval_index.proofs.tree.Tree.+collect.Goals.{In-Some}

-- the tree at its root
at_here : (t : ℕ) (c : In-Some t) → IsAtNode c.args.self.now.0 c.in-Some.node.value
at_here t c = at_node c.self.view_is c.in-Some.is c.requires.sorted

pub returns-then-deref-lo : goal.returns-then-deref-lo
returns-then-deref-lo t c =
    let at = at_here t (goal.at.returns-then-deref-lo t c).In-Some in
    let n = c.in-Some.node.value in
    let sound : IsSoundNode n = subst IsSound c.in-Some.is c.self.invariant in
    let lo_fits : FitsSigned w64 c.args.lo = search rules in
    let end_fits : FitsSigned w64 c.deref.result.now.greatest_end = search rules in
    let test = simp to_z-of_z at c.if-deref-lo.true in
    let low : c.deref.result.now.greatest_end ≤ℤ c.args.lo = grind (arith, ints, test) in
    let is : c.deref.result.now.greatest_end ≡ greatest_end c.args.self.now.0 = cc (sound.greatest_end, at.is) in
    let none = meets_none c.args.lo c.args.hi c.args.self.now.0 (subst (λ z. z ≤ℤ c.args.lo) is low) in
    rw none (sym (append-nil c.args.keys.now.items))

pub collect-requires : goal.collect-requires
collect-requires t c =
    let at = at_here t (goal.at.collect-requires t c).In-Some in
    (search rules, rw c.deref-2.ensures at.round.left)

pub returns-then-deref-hi : goal.returns-then-deref-hi
returns-then-deref-hi t c =
    let at = at_here t (goal.at.returns-then-deref-hi t c).In-Some in
    let n = c.in-Some.node.value in
    let lo_fits : FitsSigned w64 c.args.lo = search rules in
    let hi_fits : FitsSigned w64 c.args.hi = search rules in
    let begin_fits : FitsSigned w64 c.deref-3.result.now.span.lo = search rules in
    let test = simp to_z-of_z at c.if-deref-hi.true in
    let late : c.args.hi ≤ℤ c.deref-3.result.now.span.lo = grind (arith, ints, test) in
    let late_at : c.args.hi ≤ℤ n.span.lo = rw (← c.deref-3.ensures) late in
    let short = meets_short c.args.lo c.args.hi n.left.0 n.span n.right.0 late_at at.sorted in
    let left = simp to_z-of_z at (c.in_ok-collect.ensures {u = tt}) in
    cc (left, short, at.is, c.deref-2.ensures)

pub collect-requires-2 : goal.collect-requires-2
collect-requires-2 t c =
    let at = at_here t (goal.at.collect-requires-2 t c).In-Some in
    (search rules, rw c.deref-5.ensures at.round.right)

pub returns : goal.returns
returns t c =
    let at = at_here t (goal.at.returns t c).In-Some in
    let n = c.in-Some.node.value in
    let lo_fits : FitsSigned w64 c.args.lo = search rules in
    let hi_fits : FitsSigned w64 c.args.hi = search rules in
    let left = simp to_z-of_z at (c.in_ok-collect.ensures {u = tt}) in
    let middle = simp to_z-of_z at (c.in_ok-push_meeting.ensures {u = tt}) in
    let right = simp to_z-of_z at c.collect-2.ensures in
    let left_at : c.collect.new.keys.items ≡ c.args.keys.now.items ++ keys_met c.args.lo c.args.hi n.left.0 = cc (left) in
    let middle_at : c.push_meeting.new.keys.items ≡ c.collect.new.keys.items ++ keys_met c.args.lo c.args.hi (n.span ∷ []) = cc (middle) in
    on_ok_weaker c.collect-2.result (λ ok. rw at.is (keys_met_round c.args.lo c.args.hi n.left.0 n.span n.right.0 _ _ _ _ left_at middle_at (rw c.deref-5.ensures at ok))) right
