-- The place is inside a span where the greatest end before it lies beyond it.
use Rattle.std.proofs.Common.{◌≤ℤ◌, sym, ◌∙◌, arith, rules, w64}
use Rattle.std.proofs.lemmas.Int.{ints, to_z-of_z}
use Rattle.std.specs.Int.RustNames.{FitsSigned}
use Rattle.interval_index.specs.Ends.{greatest_end_before}
use Rattle.interval_index.proofs.Free.{end_inside, widest_free}
use Rattle.interval_index.proofs.index.IntervalIndex.free_around.Goals as goal

pub returns-then-at-from-clause-inside : goal.returns-then-at-from-clause-inside
returns-then-at-from-clause-inside c =
    let l = c.self.inside.tree.0 in
    let at_fits : FitsSigned w64 c.args.at = c.ranges.at in
    let from_fits : FitsSigned w64 c.greatest_end_before-from.result = search rules in
    let test = simp to_z-of_z at c.if-at-from.true in
    let is = simp to_z-of_z at c.greatest_end_before-from.ensures in
    rw (← c.self.view_is) (sym (rw is at test) ∙ end_inside c.args.at l c.requires.within.low)

pub returns-clause-inside : goal.returns-clause-inside
returns-clause-inside c =
    let l = c.self.inside.tree.0 in
    let at_fits : FitsSigned w64 c.args.at = c.ranges.at in
    let from_fits : FitsSigned w64 c.greatest_end_before-from.result = search rules in
    let test = simp to_z-of_z at c.if-at-from.false in
    let is = simp to_z-of_z at c.greatest_end_before-from.ensures in
    rw (← c.self.view_is) (sym (rw is at test) ∙ end_inside c.args.at l c.requires.within.low)

pub returns-clause-widest : goal.returns-clause-widest
returns-clause-widest c =
    let l = c.self.inside.tree.0 in
    let at_fits : FitsSigned w64 c.args.at = c.ranges.at in
    let from_fits : FitsSigned w64 c.greatest_end_before-from.result = search rules in
    let to_fits : FitsSigned w64 c.start_from.result = search rules in
    let test = simp to_z-of_z at c.if-at-from.false in
    let from_is = simp to_z-of_z at c.greatest_end_before-from.ensures in
    let to_is = simp to_z-of_z at c.start_from.ensures in
    let before : greatest_end_before c.args.at l ≤ℤ c.args.at = grind (arith, ints, rw from_is at test) in
    simp to_z-of_z (rw (from_is, to_is, ← c.self.view_is) (widest_free c.args.at l c.requires.within c.self.invariant.listed before))
