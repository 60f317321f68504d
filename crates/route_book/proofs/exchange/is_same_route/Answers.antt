-- Routes that are the same in each part.
use Rattle.std.proofs.Common.{◌≡◌, sym, ◌∙◌}
use Rattle.std.proofs.lemmas.Slice.Eq.{slice_eq-Decides}
use Rattle.route_book.proofs.Comparing.Same.{point_same}
use Rattle.route_book.proofs.exchange.is_same_route.Goals as goal

pub returns : goal.returns
returns c h =
    let one = c.args.one.now in
    let other = c.args.other.now in
    let start : one.start ≡ other.start = c.if-one-other.false in
    let end : one.end ≡ other.end = c.if-one-other-2.false in
    let cost : one.cost ≡ other.cost = c.if-one-other-3.false in
    let points : one.points ≡ other.points =
    sym c.as_slice.ensures ∙ (slice_eq-Decides point_same c.as_slice.result.now c.as_slice-2.result.now c.eq.result c.eq.ensures).0 h ∙ c.as_slice-2.ensures in
    λ i. record { start = start i; end = end i; points = points i; cost = cost i }
