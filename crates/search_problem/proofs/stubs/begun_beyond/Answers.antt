-- The solids that begin beyond the coordinate stand behind.
use Rattle.std.proofs.Common.{◌≡◌, ◌↔◌, ◌<ℤ◌, true, false, not, sym, subst, rules}
use Rattle.std.specs.Prelude.{Contains, int_lt}
use Rattle.std.specs.List.Sorted.{IsPartitionPoint}
use Rattle.std.proofs.lemmas.List.Sorted.{IsPartitionPoint-from_clause}
use Rattle.plane_geom.specs.declared.rect.Solid.{Solid}
use Rattle.search_problem.proofs.Sorting.{beyond, is_beyond, left, parted, upto_falls}
use Rattle.search_problem.proofs.stubs.begun_beyond.Goals as goal

parts : (c : goal.After-beyond-1) → IsPartitionPoint (λ (s : Solid). not (int_lt c.args.at s.rect.left) ≡ true) (λ (s : Solid). not (int_lt c.args.at s.rect.left) ≡ false) c.args.solids.now c.partition_point.result
parts c =
    let at = c.args.at in
    IsPartitionPoint-from_clause (λ (s : Solid). not (int_lt at s.rect.left)) c.args.solids.now c.partition_point.result c.partition_point.ensures.partitioned
    (parted (λ z. not (int_lt at z)) (upto_falls at) c.args.solids.now c.requires) (λ a r g h. search rules)

pub returns : goal.returns
returns c =
    let at = c.args.at in
    let solids = c.args.solids.now in
    let both = left (λ (s : Solid). not (int_lt at s.rect.left)) solids c.partition_point.result c.partition_point.ensures.bound (parts c) in
    subst (λ xs. (x : Solid) → Contains xs x ↔ (Contains solids x × (at <ℤ x.rect.left))) (sym c.split_at.ensures.back)
    (λ x. (λ has. (let m = (both x).0 has in (m.0, beyond at x.rect.left m.1)), λ m. (both x).1 (m.0, is_beyond at x.rect.left m.1)))
