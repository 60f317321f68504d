-- The stops from the coordinate on stand behind.
use Rattle.std.proofs.Common.{◌≡◌, ◌↔◌, ◌≤◌, ◌≤ℤ◌, true, false, sym, subst, List, length, arith, rules}
use Rattle.std.specs.Prelude.{Contains, int_lt}
use Rattle.std.specs.List.Sorted.{IsPartitionPoint}
use Rattle.std.proofs.lemmas.List.{length-drop}
use Rattle.std.proofs.lemmas.List.Sorted.{IsPartitionPoint-from_clause}
use Rattle.line_lists.specs.declared.stop.Stop.{Stop}
use Rattle.exit_spread.proofs.Spreading.Stops.{before_falls, from, is_from, left, parted}
use Rattle.exit_spread.proofs.run.stops_from.Goals as goal

parts : (c : goal.After-from-1) → IsPartitionPoint (λ (s : Stop). int_lt s.along c.args.low ≡ true) (λ (s : Stop). int_lt s.along c.args.low ≡ false) c.args.stops.now c.partition_point.result
parts c =
    let at = c.args.low in
    IsPartitionPoint-from_clause (λ (s : Stop). int_lt s.along at) c.args.stops.now c.partition_point.result c.partition_point.ensures.partitioned
    (parted (λ z. int_lt z at) (before_falls at) c.args.stops.now c.requires) (λ a r g h. search rules)

pub returns-clause-members : goal.returns-clause-members
returns-clause-members c =
    let at = c.args.low in
    let stops = c.args.stops.now in
    let both = left (λ (s : Stop). int_lt s.along at) stops c.partition_point.result c.partition_point.ensures.bound (parts c) in
    subst (λ xs. (x : Stop) → Contains xs x ↔ (Contains stops x × (at ≤ℤ x.along))) (sym c.split_at.ensures.back)
    (λ x. (λ has. (let m = (both x).0 has in (m.0, from at x.along m.1)), λ m. (both x).1 (m.0, is_from at x.along m.1)))

pub returns-clause-few : goal.returns-clause-few
returns-clause-few c =
    let long = length-drop c.partition_point.result c.args.stops.now in
    subst (λ (xs : List Stop). length xs ≤ length c.args.stops.now) (sym c.split_at.ensures.back) (omega (arith, long))
