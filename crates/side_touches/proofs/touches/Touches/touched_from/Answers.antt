-- The last place for the extents of the row is that for the line.
use Rattle.std.proofs.Common.{◌≡◌, ◌-◌, subst, take, drop, w64, to_z, of_z}
use Rattle.std.proofs.lemmas.Int.{to_z-of_z}
use Rattle.side_touches.specs.Extents.{IsLastPlace}
use Rattle.side_touches.specs.Rows.{in_row, line_touches, row_to}
use Rattle.side_touches.specs.Touches.{AreLineTouches, AreTouching}
use Rattle.side_touches.proofs.Pieces.{touches_in, touches_of}
use Rattle.side_touches.proofs.Runs.{touched_upto}
use Rattle.side_touches.proofs.touches.Touches.touched_from.Goals as goal

pub returns : goal.returns
returns c = λ lines solids l are is.
    let side = c.args.side in
    let d = c.args.heading in
    let at = c.args.at in
    let xs = c.self.inside.extents.items in
    let rows = c.self.inside.lines.items in
    let r = c.index.result.now in
    let row = c.to-row.result in
    let answer = c.last_place.result in
    let read : to_z w64 (of_z w64 at) ≡ at = to_z-of_z w64 at c.ranges.at in
    let touches : AreLineTouches solids l (line_touches xs r) = touches_of solids lines xs rows c.args.self.now c.args.line l r c.self.view_is are is c.requires.line c.index.ensures in
    let there = subst (λ ys. IsLastPlace d (to_z w64 (of_z w64 at)) (take (row.end - row.begin) (drop row.begin ys)) answer) c.deref.ensures.value c.last_place.ensures in
    let here = subst (λ z. IsLastPlace d z (in_row xs row) answer) read there in
    touched_upto solids l side d at (in_row xs (row_to side r)) answer (λ n. subst (AreTouching solids l side) (touches_in side xs r) (touches side n)) c.requires.across
    (subst (λ k. IsLastPlace d at (in_row xs k) answer) c.to-row.ensures here)
