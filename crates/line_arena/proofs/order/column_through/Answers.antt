-- The vertical line through a point is the last that does not begin past it.
use Rattle.std.proofs.Common.{◌≡◌, ◌<◌, ◌-◌, ◌∙◌, ◌≤ℤ◌, ℕ, Some, true, false, length, get_or, ap, sym, subst, arith}
use Rattle.std.specs.List.Sorted.{IsPartitionPoint}
use Rattle.std.proofs.lemmas.List.{get_or_default}
use Rattle.plane_geom.specs.declared.floor.Line.{Line}
use Rattle.plane_geom.specs.declared.point.Way.TheVariants.{Vertical}
use Rattle.plane_geom.specs.Order.{stands_before}
use Rattle.line_arena.proofs.LineOrder.InOrder.{begins_upto, held_down, last_is}
use Rattle.line_arena.proofs.order.column_through.Goals as goal

pub returns-then-place-eq0-clause-only : goal.returns-then-place-eq0-clause-only
returns-then-place-eq0-clause-only c = λ e there way holds.
    let point = subst (λ (l : Line). IsPartitionPoint (λ e. stands_before l e.0 ≡ false) (λ e. stands_before l e.0 ≡ true) c.args.lines.now c.count_upto-place.result) c.column_at-here.ensures c.count_upto-place.ensures.point in
    let after = begins_upto c.args.lines.now c.requires.ordered c.requires.apart c.args.point c.count_upto-place.result c.count_upto-place.ensures.bound point.0 point.1 e there way holds in
    absurd (omega (arith, after, c.if-place-eq0.true))

pub returns-then-reaches-clause-only : goal.returns-then-reaches-clause-only
returns-then-reaches-clause-only c = λ e there way holds.
    let lines = c.args.lines.now in
    let p = c.count_upto-place.result in
    let point = subst (λ (l : Line). IsPartitionPoint (λ e. stands_before l e.0 ≡ false) (λ e. stands_before l e.0 ≡ true) c.args.lines.now c.count_upto-place.result) c.column_at-here.ensures c.count_upto-place.ensures.point in
    let bound = c.count_upto-place.ensures.bound in
    let after = begins_upto lines c.requires.ordered c.requires.apart c.args.point p bound point.0 point.1 e there way holds in
    let inside : p - 1 < length lines = omega (arith, after, bound) in
    let is : get_or lines (p - 1) c.index-lines-place-2.result ≡ e =
    get_or_default lines (p - 1) c.index-lines-place-2.result e inside ∙ last_is lines c.requires.ordered c.requires.apart c.args.point p bound point.0 point.1 e there way holds in
    ap (λ (x : Line × ℕ). Some x.1) is

pub returns-else-reaches-clause-only : goal.returns-else-reaches-clause-only
returns-else-reaches-clause-only c = λ e there way holds.
    let lines = c.args.lines.now in
    let p = c.count_upto-place.result in
    let point = subst (λ (l : Line). IsPartitionPoint (λ e. stands_before l e.0 ≡ false) (λ e. stands_before l e.0 ≡ true) c.args.lines.now c.count_upto-place.result) c.column_at-here.ensures c.count_upto-place.ensures.point in
    let bound = c.count_upto-place.ensures.bound in
    let after = begins_upto lines c.requires.ordered c.requires.apart c.args.point p bound point.0 point.1 e there way holds in
    let inside : p - 1 < length lines = omega (arith, after, bound) in
    let is : get_or lines (p - 1) c.index-lines-place.result ≡ e =
    get_or_default lines (p - 1) c.index-lines-place.result e inside ∙ last_is lines c.requires.ordered c.requires.apart c.args.point p bound point.0 point.1 e there way holds in
    let down = held_down e.0 c.args.point way holds in
    let met = subst (λ (x : Line × ℕ). (x.0.way ≡ Vertical) × (x.0.at ≡ c.args.point.x) × (c.args.point.y ≤ℤ x.0.hi)) (sym is) (way, down.at, down.to) in
    absurd (cc (c.reaches.ensures.1 met, c.if-reaches.false))
