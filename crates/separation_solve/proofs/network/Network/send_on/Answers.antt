-- The amount is the item's deficit, and is at most what is left of the budget.
use Rattle.std.proofs.Common.{◌≡◌, ℕ, ◌-◌, ◌<◌, ◌≤◌, ℤ, pos, ◌+ℤ◌, ◌-ℤ◌, ◌≤ℤ◌, unsigned_abs, length, arith, ap, ◌∙◌, to_z, of_z, to_z-of_z}
use mir.Syntax.{w128}
use Rattle.std.proofs.lemmas.Int.{ints}
use Rattle.std.proofs.lemmas.List.{get_or_read}
use Rattle.separation_model.specs.Bundle.{int_at}
use Rattle.separation_solve.specs.Network.{most_force}
use Rattle.separation_solve.specs.Sweep.{load}
use Rattle.separation_solve.proofs.LightFractions.Spots.{cast_is}
use Rattle.separation_solve.proofs.Searches.Searching.{excess_fits, short_fits}
use Rattle.separation_solve.proofs.network.Network.send_on.Goals as goal
use Rattle.separation_solve.proofs.network.Network.send_on.Goals.{After-index}

-- the amount, as the code computes it from the excess
abbrev amount_of : ℤ → ℤ
amount_of x = to_z w128 (of_z w128 (pos 0 -ℤ to_z w128 (of_z w128 x)))

-- the excess, and the amount
read_is : (c : After-index) → to_z w128 (of_z w128 c.index.result.now) ≡ int_at c.args.self.now.excess.items c.args.item
read_is c =
    let n = c.args.self.now in
    let inside : c.args.item < length n.excess.items = omega (arith, c.requires.item, c.requires.sound.frame.excess) in
    cast_is w128 c.index.result.now _ (get_or_read n.excess.items c.args.item c.index.result.now inside c.index.ensures (pos 0)) (excess_fits n c.args.item c.requires.sound)

amount_is : (c : After-index) → amount_of c.index.result.now ≡ pos 0 -ℤ int_at c.args.self.now.excess.items c.args.item
amount_is c = ap (λ z. to_z w128 (of_z w128 (pos 0 -ℤ z))) (read_is c) ∙ to_z-of_z (short_fits c.args.self.now c.args.item c.requires.sound)

pub overflow_sub-amount : goal.overflow_sub-amount
overflow_sub-amount c = rw (read_is (goal.at.overflow_sub-amount c).After-index) (short_fits c.args.self.now c.args.item c.requires.sound)

pub send_over-requires-clause-amount : goal.send_over-requires-clause-amount
send_over-requires-clause-amount c = rw (amount_is (goal.at.send_over-requires-clause-amount c).After-index) (omega (arith, ints))

-- what is left of a budget, and what may be spent of it
spend : (all : ℤ) (left size : ℕ) (a : ℤ) → (0 < left → (all +ℤ pos left) ≤ℤ pos most_force) → size ≡ unsigned_abs a → size ≤ left → 0 < unsigned_abs a → (all +ℤ pos (unsigned_abs a)) ≤ℤ pos most_force
spend all left size a budget is enough some = omega (arith, ints, budget (omega arith))

spent : (all now : ℤ) (left size : ℕ) (a : ℤ) → (0 < left → (all +ℤ pos left) ≤ℤ pos most_force) → size ≡ unsigned_abs a → now ≤ℤ (all +ℤ a) → 0 < left - size → (now +ℤ pos (left - size)) ≤ℤ pos most_force
spent all now left size a budget is grown some = omega (arith, ints, budget (omega arith))

pub send_over-requires-clause-budget : goal.send_over-requires-clause-budget
send_over-requires-clause-budget c = spend (load c.args.self.now) c.args.left c.unsigned_abs-size.result (amount_of c.index.result.now) c.requires.budget c.unsigned_abs-size.ensures.value c.if-left-size.false

pub returns-clause-budget : goal.returns-clause-budget
returns-clause-budget c = spent (load c.args.self.now) (load c.send_over.new.self) c.args.left c.unsigned_abs-size.result (amount_of c.index.result.now) c.requires.budget c.unsigned_abs-size.ensures.value c.send_over.ensures.load
