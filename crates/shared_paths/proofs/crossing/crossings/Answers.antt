-- The vertical and the horizontal runs are no more than all, and cross as often.
use Rattle.std.proofs.Common.{◌≡◌, ◌∙◌, subst, sym, arith}
use Rattle.std.specs.Prelude.{IsPermutation}
use Rattle.std.specs.List.{filter}
use Rattle.std.proofs.lemmas.Result.{IfOk-weaker}
use Rattle.plane_geom.specs.declared.point.Way.TheVariants.{Vertical, Horizontal}
use Rattle.shared_paths.specs.Crossings.{crossing_count}
use Rattle.shared_paths.specs.Columns.{goes}
use Rattle.shared_paths.specs.Listed.{runs_in}
use Rattle.shared_paths.proofs.Counting.{all_counted, moved_few}
use Rattle.shared_paths.proofs.crossing.crossings.Goals as goal

pub crossings_among-requires-clause-short : goal.crossings_among-requires-clause-short
crossings_among-requires-clause-short c =
    let all = runs_in c.args.lines.now in
    let moved = subst (IsPermutation (filter (goes Vertical) all)) (sym c.deref.ensures.value) c.in_ok-upright.ensures.moved in
    omega (arith, moved_few (goes Vertical) all c.deref.result.now moved, c.requires)

pub crossings_among-requires-clause-few : goal.crossings_among-requires-clause-few
crossings_among-requires-clause-few c =
    let all = runs_in c.args.lines.now in
    let moved = subst (IsPermutation (filter (goes Horizontal) all)) (sym c.deref-2.ensures.value) c.in_ok-level.ensures.moved in
    omega (arith, moved_few (goes Horizontal) all c.deref-2.result.now moved, c.requires)

pub returns : goal.returns
returns c =
    let lines = c.args.lines.now in
    let all = runs_in lines in
    let upright = subst (IsPermutation (filter (goes Vertical) all)) (sym c.deref.ensures.value) c.in_ok-upright.ensures.moved in
    let level = subst (IsPermutation (filter (goes Horizontal) all)) (sym c.deref-2.ensures.value) c.in_ok-level.ensures.moved in
    let counted = all_counted all c.deref.result.now c.deref-2.result.now upright level in
    IfOk-weaker c.crossings_among.result _ (λ count. count ≡ crossing_count lines) (λ count is. is ∙ counted) c.crossings_among.ensures
