-- A sort only moves the solids.
use Rattle.std.proofs.Common.{ℤ, ◌+ℤ◌, ◌≤ℤ◌, FitsSigned, w64, subst, sym, List, arith, rules}
use Rattle.std.specs.Prelude.{IsPermutation}
use Rattle.std.proofs.lemmas.Int.{ints, to_z-of_z}
use Rattle.std.proofs.lemmas.List.Sorted.{All-permutation, answers_always}
use Rattle.plane_geom.specs.declared.rect.Solid.{Solid}
use Rattle.plane_geom.specs.Rect.{RectIsOnSheet}
use Rattle.search_problem.specs.Stubs.{IsWidest}
use Rattle.search_problem.proofs.Sorting.{rises}
use Rattle.search_problem.proofs.stubs.SortedSolids.new.Goals as goal

pub invariant_of-result : goal.invariant_of-result
invariant_of-result c =
    let solids = c.args.solids.now in
    let new = c.sort_unstable_by_key.new.self.items in
    let moved = subst (λ (xs : List Solid). IsPermutation xs new) (c.in_ok-sorted.ensures.items_if_clones_equal (λ x y h. h)) c.sort_unstable_by_key.ensures.permutation in
    let small : FitsSigned w64 c.widest_of-widest.result = search rules in
    let read = to_z-of_z w64 c.widest_of-widest.result small in
    record {
      ordered = record {
        on_sheet = All-permutation (λ (s : Solid). RectIsOnSheet s.rect) solids new moved c.requires;
        rise = rises new (c.sort_unstable_by_key.ensures.sorted (λ (s : Solid). s.rect.left) (answers_always _ _ _ (λ f a r g h. search rules)));
        wide = subst (λ (z : ℤ). IsWidest z new) (sym read)
            (All-permutation (λ (s : Solid). s.rect.right ≤ℤ (s.rect.left +ℤ c.widest_of-widest.result)) solids new moved c.widest_of-widest.ensures.wide);
        low = omega (arith, ints, read, c.widest_of-widest.ensures.low);
        high = omega (arith, ints, read, c.widest_of-widest.ensures.high);
      };
    }
