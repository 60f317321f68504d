-- The first wall that shares more than a point with the run stops it first.
use Rattle.std.proofs.Common.{ℕ, ◌<◌, ◌≤◌, length, ◌≤ℤ◌, ◌<ℤ◌, get_or, refl, sym, subst, true≢false, arith, rules, w64, FitsSigned}
use Rattle.std.specs.Prelude.{int_lt}
use Rattle.std.proofs.lemmas.Int.{to_z-of_z}
use Rattle.std.proofs.lemmas.List.{get_or_default}
use Rattle.std.proofs.lemmas.List.Sorted.{IsPartitionPoint-from_clause}
use Rattle.channel_bundles.specs.declared.walls.Wall.{Wall}
use Rattle.channel_bundles.proofs.Facing.{Shares, before_and_from, before_falls, never_before, no_wall, parted, stopped_before}
use Rattle.channel_bundles.proofs.Ranges.{same_when}
use Rattle.channel_bundles.proofs.Trees.{cases_same}
use Rattle.channel_bundles.proofs.limits.Limits.up_to_first.Goals as goal
use Rattle.channel_bundles.proofs.limits.Limits.up_to_first.Goals.{After-partition_point-first}

-- the walls on either side of the place where the search begins
sides : (c : After-partition_point-first) → ((k : ℕ) (d : Wall) → k < c.partition_point-first.result → (get_or c.args.walls.now k d).at <ℤ c.args.run.now.at) × ((k : ℕ) (d : Wall) → c.partition_point-first.result ≤ k → k < length c.args.walls.now → c.args.run.now.at ≤ℤ (get_or c.args.walls.now k d).at)
sides c =
    let at = c.args.run.now.at in
    before_and_from at c.args.walls.now c.partition_point-first.result
    (IsPartitionPoint-from_clause (λ (w : Wall). int_lt w.at c.args.run.now.at) c.args.walls.now c.partition_point-first.result c.partition_point-first.ensures.partitioned
    (parted (λ z. int_lt z c.args.run.now.at) (before_falls at) c.args.walls.now c.requires.rise) (λ a r g h. search rules))

pub returns-then-is_along : goal.returns-then-is_along
returns-then-is_along c =
    let run = c.args.run.now in
    let walls = c.args.walls.now in
    let next = c.loop-next.next in
    let first = c.partition_point-first.result in
    let parts = sides (goal.at.returns-then-is_along c).After-partition_point-first in
    let fits : FitsSigned w64 (get_or walls next no_wall).at = search rules in
    let up = simp to_z-of_z at c.up_to.ensures in
    λ z. same_when (up z) (λ _. stopped_before run walls first next no_wall c.requires.rise (omega arith) (omega arith) parts.0 parts.1 c.loop-next.invariant (c.if-is_along.ensures.0 refl) z)

pub loop-next-preserved : goal.loop-next-preserved
loop-next-preserved c =
    let run = c.args.run.now in
    let walls = c.args.walls.now in
    let next = c.loop-next.next in
    let none : Shares run (get_or walls next no_wall) → ⊥ = λ o. true≢false (sym (c.if-is_along.ensures.1 o)) in
    λ k d from less. cases_same k next
    (λ e. subst (λ n. Shares run (get_or walls n d) → ⊥) (sym e) (subst (λ (w : Wall). Shares run w → ⊥) (get_or_default walls next no_wall d (omega arith)) none))
    (λ ne. c.loop-next.invariant k d from (omega arith))

pub returns : goal.returns
returns c =
    let run = c.args.run.now in
    let walls = c.args.walls.now in
    let first = c.partition_point-first.result in
    let parts = sides (goal.at.returns c).After-partition_point-first in
    λ z. (λ f. (f, never_before run walls first c.loop-next.next (omega arith) parts.0 c.loop-next.invariant no_wall z), λ both. both.0)
