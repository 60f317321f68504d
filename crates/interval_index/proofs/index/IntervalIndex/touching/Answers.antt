-- The keys that the tree collects are those of the spans that are touched; an empty range touches none.
use Rattle.std.proofs.Common.{◌≤ℤ◌, ◌<ℤ◌, sym, arith, w64}
use Rattle.std.proofs.lemmas.Int.{ints, to_z-of_z}
use Rattle.std.specs.Int.RustNames.{FitsSigned}
use Rattle.interval_index.proofs.Free.{keys_touching_met, keys_touching_none}
use Rattle.interval_index.proofs.index.IntervalIndex.touching.Goals as goal
use Rattle.interval_index.proofs.index.IntervalIndex.touching.Goals.{then-lo-hi+in_ok-collect, else-lo-hi}

pub returns-clause-touching : goal.returns-clause-touching
returns-clause-touching c =
    let l = c.self.inside.tree.0 in
    let lo_fits : FitsSigned w64 c.args.lo = c.ranges.lo in
    let hi_fits : FitsSigned w64 c.args.hi = c.ranges.hi in
    elim c.if-lo-hi.branch [
      | then-lo-hi+in_ok-collect w ↦
          let test = simp to_z-of_z at w.if-lo-hi.true in
          let less : c.args.lo <ℤ c.args.hi = grind (arith, ints, test) in
          let collected = simp to_z-of_z at (w.in_ok-collect.ensures {u = tt}) in
          rw (w.keys-is, collected, c.in_ok-keys.ensures.items, ← c.self.view_is) (sym (keys_touching_met c.args.lo c.args.hi l less c.self.invariant.listed.spans))
      | else-lo-hi w ↦
          let test = simp to_z-of_z at w.if-lo-hi.false in
          let empty : c.args.hi ≤ℤ c.args.lo = grind (arith, ints, test) in
          rw (w.keys-is, c.in_ok-keys.ensures.items) (sym (keys_touching_none c.args.lo c.args.hi c.args.self.now empty))
    ]
