-- Marks in order are parted at a coordinate.
use Rattle.std.proofs.Common.{◌≡◌, ℕ, ℤ, ◌≤ℤ◌, ◌<ℤ◌, Bool, true, false, not, inl, inr, List, get_or, subst, sym, arith, rules}
use Rattle.std.specs.Prelude.{AllPairs, int_lt}
use Rattle.std.specs.List.Sorted.{IsPartitionedBy, IsPartitionPoint}
use Rattle.std.proofs.lemmas.Bool.{cases_lt}
use Rattle.std.proofs.lemmas.Int.{ints}
use Rattle.std.proofs.lemmas.List.Sorted.{IsPartitionPoint-from_clause}
use Rattle.sweep_lines.specs.declared.mark.Mark.{Mark}
use Rattle.sweep_lines.proofs.sweep.count_upto.Goals as goal

abbrev is_upto : ℤ → Mark → Bool
is_upto at m = not (int_lt at m.at)

not_later : (at z : ℤ) → not (int_lt at z) ≡ true → z ≤ℤ at
not_later at z e = grind (arith, ints)

later : (at z : ℤ) → not (int_lt at z) ≡ false → at <ℤ z
later at z e = grind (arith, ints)

earlier_too : (at y z : ℤ) → y ≤ℤ z → not (int_lt at z) ≡ true → not (int_lt at y) ≡ true
earlier_too at y z h e = grind (arith, ints)

parted_from : (at : ℤ) (marks : List Mark) → AllPairs (λ m n. m.at ≤ℤ n.at) marks → IsPartitionedBy (is_upto at) marks
parted_from at marks o = λ i j d h l e. elim (cases_lt i j) [
  | inl k ↦ earlier_too at (get_or marks i d).at (get_or marks j d).at (o i j d k l) e
  | inr k ↦ (let same : i ≡ j = omega arith in subst (λ (n : ℕ). is_upto at (get_or marks n d) ≡ true) (sym same) e)
]

parted : (c : goal.After-partition_point) → IsPartitionPoint (λ m. is_upto c.args.at m ≡ true) (λ m. is_upto c.args.at m ≡ false) c.args.marks.now c.partition_point.result
parted c =
    IsPartitionPoint-from_clause (is_upto c.args.at) c.args.marks.now c.partition_point.result c.partition_point.ensures.partitioned
    (parted_from c.args.at c.args.marks.now c.requires) (λ a r g h. search rules)

pub returns-clause-front : goal.returns-clause-front
returns-clause-front c = λ k d low high. not_later c.args.at (get_or c.args.marks.now k d).at ((parted c).0 k d low high)

pub returns-clause-back : goal.returns-clause-back
returns-clause-back c = λ k d low high. later c.args.at (get_or c.args.marks.now k d).at ((parted c).1 k d low high)
