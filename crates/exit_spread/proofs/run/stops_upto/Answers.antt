-- The stops up to the coordinate stand in front.
use Rattle.std.proofs.Common.{◌≡◌, ◌↔◌, ◌≤◌, ◌≤ℤ◌, true, false, not, sym, subst, List, length, arith, rules}
use Rattle.std.specs.Prelude.{Contains, int_lt}
use Rattle.std.specs.List.Sorted.{IsPartitionPoint}
use Rattle.std.proofs.lemmas.List.{length-take}
use Rattle.std.proofs.lemmas.List.Sorted.{IsPartitionPoint-from_clause}
use Rattle.line_lists.specs.declared.stop.Stop.{Stop}
use Rattle.exit_spread.proofs.Spreading.Stops.{Rise, is_upto, parted, taken, taken_rise, upto, upto_falls}
use Rattle.exit_spread.proofs.run.stops_upto.Goals as goal

parts : (c : goal.After-upto-1) → IsPartitionPoint (λ (s : Stop). not (int_lt c.args.high s.along) ≡ true) (λ (s : Stop). not (int_lt c.args.high s.along) ≡ false) c.args.stops.now c.partition_point.result
parts c =
    let at = c.args.high in
    IsPartitionPoint-from_clause (λ (s : Stop). not (int_lt at s.along)) c.args.stops.now c.partition_point.result c.partition_point.ensures.partitioned
    (parted (λ z. not (int_lt at z)) (upto_falls at) c.args.stops.now c.requires) (λ a r g h. search rules)

pub returns-clause-members : goal.returns-clause-members
returns-clause-members c =
    let at = c.args.high in
    let stops = c.args.stops.now in
    let both = taken (λ (s : Stop). not (int_lt at s.along)) stops c.partition_point.result c.partition_point.ensures.bound (parts c) in
    subst (λ xs. (x : Stop) → Contains xs x ↔ (Contains stops x × (x.along ≤ℤ at))) (sym c.split_at.ensures.front)
    (λ x. (λ has. (let m = (both x).0 has in (m.0, upto at x.along m.1)), λ m. (both x).1 (m.0, is_upto at x.along m.1)))

pub returns-clause-rise : goal.returns-clause-rise
returns-clause-rise c = subst Rise (sym c.split_at.ensures.front) (taken_rise c.partition_point.result c.args.stops.now c.requires)

pub returns-clause-few : goal.returns-clause-few
returns-clause-few c =
    let long = length-take c.partition_point.result c.args.stops.now in
    subst (λ (xs : List Stop). length xs ≤ length c.args.stops.now) (sym c.split_at.ensures.front) (omega (arith, long))
