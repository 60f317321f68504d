-- The size and the greatest end of a tree come from its sides and its node.
use Rattle.std.proofs.Common.{◌≡◌, ◌+◌, ◌∷◌, ◌++◌, length, refl, sym, ◌∙◌, arith, rules, length-append, w64}
use Rattle.std.proofs.lemmas.Int.{to_z-of_z}
use Rattle.std.specs.Int.RustNames.{FitsSigned}
use Rattle.interval_index.proofs.Heights.{low_over}
use Rattle.interval_index.proofs.GreatestEnds.{greatest_end_round}
use Rattle.interval_index.proofs.tree.put_sides.Goals as goal

pub returns : goal.returns
returns c =
    let l = c.args.left.0 in
    let r = c.args.right.0 in
    let n = c.args.node.now.span in
    let hi_fits : FitsSigned w64 n.hi = search rules in
    let left_fits : FitsSigned w64 c.greatest_end.result = search rules in
    let right_fits : FitsSigned w64 c.greatest_end-2.result = search rules in
    let two_fits : FitsSigned w64 c.max-2.result = search rules in
    let all_fits : FitsSigned w64 c.max-node.result = search rules in
    let two = simp to_z-of_z at c.max-2.ensures.value in
    let all = simp to_z-of_z at c.max-node.ensures.value in
    let size : length (l ++ n ∷ r) ≡ length l + length r + 1 = omega (arith, length-append l (n ∷ r)) in
    record {
      left = refl;
      right = refl;
      span = refl;
      sound = record {
        greatest_end = simp to_z-of_z (all ∙ rw (two, c.greatest_end.ensures, c.greatest_end-2.ensures) (sym (greatest_end_round l n r)));
        height = grind arith;
        level = c.requires.level;
        low = rw (c.max.ensures, c.height.ensures.height, c.height-2.ensures.height, size) (low_over _ _ _ _ c.height.ensures.low c.height-2.ensures.low c.requires.level);
      };
    }
