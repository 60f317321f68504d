-- The sums over the members are the block's weight and moment, and their quotient is an aim.
use Rattle.std.proofs.Common.{◌≡◌, ℕ, suc, ◌<◌, ◌≤◌, ℤ, pos, negsuc, ◌+ℤ◌, ◌-ℤ◌, ◌*ℤ◌, ◌≤ℤ◌, add-one, FitsSigned, to_z, of_z, arith, sym, ap, subst, ◌∙◌}
use Rattle.std.proofs.lemmas.Int.{ints, to_z-of_z}
use Rattle.std.proofs.lemmas.List.{get_or_read}
use mir.Syntax.{w64, w128}
use Rattle.plane_geom.specs.Point.{IsCoordinate}
use Rattle.separation_solve.specs.Network.{items_of}
use Rattle.separation_solve.specs.Reach.{start_of}
use Rattle.separation_solve.proofs.Blocks.Mean.{MeanSoFar, IsNear, mean_other, mean_aim, mean_balance, mean_step, mean_fits, moment_bound, block_heavy, want_within, share_light, offset_near}
use Rattle.separation_solve.proofs.network.Network.best_place.Goals as goal
use Rattle.separation_solve.proofs.network.Network.best_place.Goals.{in-Some, in_default}

pub offset-requires-clause-steps : goal.offset-requires-clause-steps
offset-requires-clause-steps c = λ i k e. (c.requires.block.reach.found i k e).0

pub moment_of-moment-requires-clause-want : goal.moment_of-moment-requires-clause-want
moment_of-moment-requires-clause-want c =
    let within : c.loop-item.item < items_of c.args.self.now = omega (arith, c.len-item-end.ensures, c.args.self.now.wants.ok.0, c.loop-item-test.true) in
    let want : IsCoordinate c.index-in-Some-2.result.now = want_within c.args.self.now c.requires.sound c.loop-item.item c.index-in-Some-2.result.now within c.index-in-Some-2.ensures in
    let fits : FitsSigned w64 c.index-in-Some-2.result.now = omega (arith, ints, want.low, want.high) in
    simp to_z-of_z want

pub moment_of-moment-requires-clause-low : goal.moment_of-moment-requires-clause-low
moment_of-moment-requires-clause-low c =
    let near = offset_near c.args.self.now (start_of c.args.block.now) c.args.block.now c.loop-item.item c.in-Some.offset c.requires.block.reach (sym c.offset.ensures ∙ c.in-Some.is) in
    omega (arith, ints, near.low, near.high)

pub moment_of-moment-requires-clause-high : goal.moment_of-moment-requires-clause-high
moment_of-moment-requires-clause-high c =
    let near = offset_near c.args.self.now (start_of c.args.block.now) c.args.block.now c.loop-item.item c.in-Some.offset c.requires.block.reach (sym c.offset.ensures ∙ c.in-Some.is) in
    omega (arith, ints, near.low, near.high)

-- what the next member adds, as it was computed
next_moment : (share : ℕ) (want off result : ℤ) → share ≤ 4 → IsCoordinate want → IsNear off → result ≡ pos share *ℤ (to_z w64 (of_z w64 want) -ℤ to_z w64 (of_z w64 off)) →
    (result ≡ pos share *ℤ (want -ℤ off)) × (negsuc 23999999999 ≤ℤ result) × (result ≤ℤ pos 24000000000) × FitsSigned w128 result
next_moment share want off result light coordinate near e =
    let fits : FitsSigned w64 want = omega (arith, ints, coordinate.low, coordinate.high) in
    let narrow : FitsSigned w64 off = omega (arith, ints, near.low, near.high) in
    let is : result ≡ pos share *ℤ (want -ℤ off) = e ∙ simp to_z-of_z in
    let bound = moment_bound share want off light coordinate near in
    (is, omega (arith, ints, is, bound.0), omega (arith, ints, is, bound.1), omega (arith, ints, is, bound.0, bound.1))

pub overflow_add-moment : goal.overflow_add-moment
overflow_add-moment c =
    let n = c.args.self.now in
    let within : c.loop-item.item < items_of n = omega (arith, c.len-item-end.ensures, n.wants.ok.0, c.loop-item-test.true) in
    let want = want_within n c.requires.sound c.loop-item.item c.index-in-Some-2.result.now within c.index-in-Some-2.ensures in
    let near = offset_near n (start_of c.args.block.now) c.args.block.now c.loop-item.item c.in-Some.offset c.requires.block.reach (sym c.offset.ensures ∙ c.in-Some.is) in
    let light = share_light n c.requires.sound c.loop-item.item c.index-in-Some.result.now within c.index-in-Some.ensures in
    let next = next_moment c.index-in-Some.result.now c.index-in-Some-2.result.now c.in-Some.offset c.moment_of-moment.result light want near c.moment_of-moment.ensures in
    let fits : FitsSigned w128 c.moment_of-moment.result = next.3 in
    simp to_z-of_z (mean_fits n c.args.block.now c.loop-item.item c.loop-item.weight (to_z w128 c.loop-item.moment-bits) c.moment_of-moment.result c.requires.sound (omega (arith, within)) c.loop-item.invariant next.1 next.2)

pub loop-item-preserved : goal.loop-item-preserved
loop-item-preserved c =
    let n = c.args.self.now in
    let within : c.loop-item.item < items_of n = omega (arith, c.len-item-end.ensures, n.wants.ok.0, c.loop-item-test.true) in
    elim c.match-offset.branch [
      | in-Some w ↦
          let found = sym c.offset.ensures ∙ w.in-Some.is in
          let want = want_within n c.requires.sound c.loop-item.item w.index-in-Some-2.result.now within w.index-in-Some-2.ensures in
          let near = offset_near n (start_of c.args.block.now) c.args.block.now c.loop-item.item w.in-Some.offset c.requires.block.reach found in
          let light = share_light n c.requires.sound c.loop-item.item w.index-in-Some.result.now within w.index-in-Some.ensures in
          let next = next_moment w.index-in-Some.result.now w.index-in-Some-2.result.now w.in-Some.offset w.moment_of-moment.result light want near w.moment_of-moment.ensures in
          let fits : FitsSigned w128 w.moment_of-moment.result = next.3 in
          let sum : FitsSigned w128 (to_z w128 c.loop-item.moment-bits +ℤ w.moment_of-moment.result) = mean_fits n c.args.block.now c.loop-item.item c.loop-item.weight (to_z w128 c.loop-item.moment-bits) w.moment_of-moment.result c.requires.sound (omega (arith, within)) c.loop-item.invariant next.1 next.2 in
          let moment : to_z w128 c.match-offset.moment-bits ≡ to_z w128 c.loop-item.moment-bits +ℤ w.moment_of-moment.result = w.moment-is ∙ simp to_z-of_z in
          let same : w.index-in-Some.result.now ≡ w.index.result.now = get_or_read n.weights.items c.loop-item.item w.index-in-Some.result.now (omega (arith, within, c.requires.sound.frame.weights)) w.index-in-Some.ensures 0 ∙ sym (get_or_read n.weights.items c.loop-item.item w.index.result.now (omega (arith, within, c.requires.sound.frame.weights)) w.index.ensures 0) in
          mean_step n (start_of c.args.block.now) c.args.block.now c.loop-item.item c.loop-item.weight c.match-offset.weight w.index-in-Some.result.now (to_z w128 c.loop-item.moment-bits) (to_z w128 c.match-offset.moment-bits) w.in-Some.offset w.index-in-Some-2.result.now
          c.requires.sound c.requires.block.reach within found w.index-in-Some.ensures w.index-in-Some-2.ensures c.loop-item.invariant
          (omega (arith, w.weight-is, w.from-weight.ensures, same)) (moment ∙ ap (λ z. to_z w128 c.loop-item.moment-bits +ℤ z) next.0)
      | in_default w ↦
          let other = mean_other n c.args.block.now c.loop-item.item c.loop-item.weight (to_z w128 c.loop-item.moment-bits) (sym c.offset.ensures ∙ w.in_default.is) c.loop-item.invariant in
          subst (λ k. MeanSoFar n c.args.block.now k c.match-offset.weight (to_z w128 c.match-offset.moment-bits)) (sym (add-one c.loop-item.item))
          (subst (λ k. MeanSoFar n c.args.block.now (suc c.loop-item.item) k (to_z w128 c.match-offset.moment-bits)) (sym w.weight-is)
          (subst (λ m. MeanSoFar n c.args.block.now (suc c.loop-item.item) c.loop-item.weight m) (sym w.moment-is) other))
    ]

pub ratio-requires-clause-positive : goal.ratio-requires-clause-positive
ratio-requires-clause-positive c =
    let n = c.args.self.now in
    let all : c.loop-item.item ≡ items_of n = omega (arith, c.len-item-end.ensures, n.wants.ok.0, c.loop-item-test.false, c.loop-item.auto.item-end) in
    block_heavy n (start_of c.args.block.now) c.args.block.now c.loop-item.weight (to_z w128 c.loop-item.moment-bits) c.requires.sound c.requires.block.reach
    (subst (λ k. MeanSoFar n c.args.block.now k c.loop-item.weight (to_z w128 c.loop-item.moment-bits)) all c.loop-item.invariant)

pub returns-clause-aim : goal.returns-clause-aim
returns-clause-aim c =
    let n = c.args.self.now in
    let all : c.loop-item.item ≡ items_of n = omega (arith, c.len-item-end.ensures, n.wants.ok.0, c.loop-item-test.false, c.loop-item.auto.item-end) in
    let so = subst (λ k. MeanSoFar n c.args.block.now k c.loop-item.weight (to_z w128 c.loop-item.moment-bits)) all c.loop-item.invariant in
    mean_aim n (start_of c.args.block.now) c.args.block.now c.loop-item.weight (to_z w128 c.loop-item.moment-bits) c.ratio.result c.requires.sound c.requires.block so c.ratio.ensures.reduced c.ratio.ensures.value c.ratio.ensures.den

pub returns-clause-mean : goal.returns-clause-mean
returns-clause-mean c =
    let n = c.args.self.now in
    let all : c.loop-item.item ≡ items_of n = omega (arith, c.len-item-end.ensures, n.wants.ok.0, c.loop-item-test.false, c.loop-item.auto.item-end) in
    let so = subst (λ k. MeanSoFar n c.args.block.now k c.loop-item.weight (to_z w128 c.loop-item.moment-bits)) all c.loop-item.invariant in
    mean_balance n c.args.block.now c.loop-item.weight (to_z w128 c.loop-item.moment-bits) c.ratio.result so c.ratio.ensures.value
