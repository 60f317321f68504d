-- The solids that begin before the coordinate stand in front.
use Rattle.std.proofs.Common.{◌≡◌, ◌↔◌, ◌<ℤ◌, true, false, sym, subst, rules}
use Rattle.std.specs.Prelude.{Contains, int_lt}
use Rattle.std.specs.List.Sorted.{IsPartitionPoint}
use Rattle.std.proofs.lemmas.List.Sorted.{IsPartitionPoint-from_clause}
use Rattle.plane_geom.specs.declared.rect.Solid.{Solid}
use Rattle.search_problem.proofs.Sorting.{Rise, before, before_falls, is_before, parted, taken, taken_rise}
use Rattle.search_problem.proofs.stubs.begun_before.Goals as goal

parts : (c : goal.After-before-1) → IsPartitionPoint (λ (s : Solid). int_lt s.rect.left c.args.at ≡ true) (λ (s : Solid). int_lt s.rect.left c.args.at ≡ false) c.args.solids.now c.partition_point.result
parts c =
    let at = c.args.at in
    IsPartitionPoint-from_clause (λ (s : Solid). int_lt s.rect.left at) c.args.solids.now c.partition_point.result c.partition_point.ensures.partitioned
    (parted (λ z. int_lt z at) (before_falls at) c.args.solids.now c.requires) (λ a r g h. search rules)

pub returns-clause-members : goal.returns-clause-members
returns-clause-members c =
    let at = c.args.at in
    let solids = c.args.solids.now in
    let both = taken (λ (s : Solid). int_lt s.rect.left at) solids c.partition_point.result c.partition_point.ensures.bound (parts c) in
    subst (λ xs. (x : Solid) → Contains xs x ↔ (Contains solids x × (x.rect.left <ℤ at))) (sym c.split_at.ensures.front)
    (λ x. (λ has. (let m = (both x).0 has in (m.0, before at x.rect.left m.1)), λ m. (both x).1 (m.0, is_before at x.rect.left m.1)))

pub returns-clause-rise : goal.returns-clause-rise
returns-clause-rise c = subst Rise (sym c.split_at.ensures.front) (taken_rise c.partition_point.result c.args.solids.now c.requires)
