-- The shortest way past the rectangle decides.
use Rattle.std.proofs.Common.{◌≡◌, arith}
use Rattle.std.specs.Prelude.{unsigned_abs}
use Rattle.std.proofs.lemmas.Int.{ints}
use Rattle.route_book.proofs.Touching.Near.{near_within}
use Rattle.route_book.proofs.reach.Reach.is_near.Goals as goal

pub returns : goal.returns
returns c =
    let first = c.unsigned_abs.ensures.value in
    let last = c.unsigned_abs-2.ensures.value in
    let low = c.requires.start.cost in
    let low_end = c.requires.end.cost in
    let start : c.unsigned_abs.result ≡ unsigned_abs c.args.start.cost = omega (arith, ints, first, low) in
    let end : c.unsigned_abs-2.result ≡ unsigned_abs c.args.end.cost = omega (arith, ints, last, low_end) in
    near_within c.args.self.now.source.now c.args.self.now.target.now c.args.self.now.edge.now c.args.self.now.cost c.args.rect.now c.args.start c.args.end
    c.place_of-from.result c.place_of-to.result c.as_slice.result.now c.unsigned_abs.result c.unsigned_abs-2.result c.way_lengths-way.result.by
    c.place_of-from.ensures.place c.place_of-to.ensures.place c.as_slice.ensures start end c.way_lengths-way.ensures.by
