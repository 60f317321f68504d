-- One more piece is cut.
use Rattle.std.proofs.Common.{rules, ◌≡◌, ◌++◌, refl, length}
use Rattle.par_route.specs.Pieces.{piece_length}
use Rattle.par_route.proofs.Cutting.{step}
use Rattle.par_route.proofs.pieces.cut.Goals as goal

pub loop-before-preserved : goal.loop-before-preserved
loop-before-preserved g c =
    let kept = c.loop-before.invariant in
    let lt = c.loop-before-test.true in
    let split : c.loop-before.rest.now ≡ c.split_at.result.0.now ++ c.split_at.result.1.now = search rules in
    let len : length c.split_at.result.0.now ≡ piece_length (length c.args.items.now) c.min-count.result c.loop-before.before = search rules in
    rw c.in_ok-push.ensures.items
    (step c.args.items.now c.loop-before.rest.now c.split_at.result.0.now c.split_at.result.1.now c.min-count.result c.loop-before.before c.loop-before.pieces.items _ kept lt split len refl refl)
