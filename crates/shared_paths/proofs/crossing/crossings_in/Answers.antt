-- The runs near the column are in order, and crossed as often as all.
use Rattle.std.proofs.Common.{◌∙◌, ◌≤ℤ◌, List, length, ap, sym, subst, arith}
use Rattle.std.specs.List.{sum_by}
use Rattle.std.proofs.lemmas.List.Kept.{AllPairs-filter}
use Rattle.std.proofs.lemmas.List.Sums.{count_by-le-length, length-filter}
use Rattle.segment_order.specs.declared.run.Run.{Run}
use Rattle.shared_paths.specs.Columns.{AreRising, is_near}
use Rattle.shared_paths.proofs.Counting.{crossed_in, near_counted}
use Rattle.shared_paths.proofs.crossing.crossings_in.Goals as goal

pub crossings_along-requires-clause-few : goal.crossings_along-requires-clause-few
crossings_along-requires-clause-few c =
    let near = is_near c.in-Some-Some.first.now c.in-Some-Some.last.now in
    let level = c.args.level.now in
    let long = ap (λ (rs : List Run). length rs) (c.deref.ensures.value ∙ c.in_ok-near.ensures) in
    omega (arith, long, length-filter near level, count_by-le-length near level)

pub crossings_along-requires-clause-order : goal.crossings_along-requires-clause-order
crossings_along-requires-clause-order c =
    let near = is_near c.in-Some-Some.first.now c.in-Some-Some.last.now in
    subst AreRising (sym (c.deref.ensures.value ∙ c.in_ok-near.ensures)) (AllPairs-filter (λ (a b : Run). a.at ≤ℤ b.at) near c.args.level.now c.requires.order)

pub returns : goal.returns
returns c =
    let column = c.args.column.now in
    c.crossings_along.ensures
    ∙ ap (λ rs. sum_by (crossed_in rs) column) (c.deref.ensures.value ∙ c.in_ok-near.ensures)
    ∙ near_counted column c.args.level.now c.in-Some-Some.first.now c.in-Some-Some.last.now c.requires.columns (sym c.in-Some-Some.ensures.value) (sym c.in-Some-Some.ensures'.value)
