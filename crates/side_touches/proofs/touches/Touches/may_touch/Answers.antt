-- The hull of the row shows whether one who goes on reaches an extent.
use Rattle.std.proofs.Common.{◌≡◌, ◌↔◌, ◌≤ℤ◌, All, sym, subst, w64, to_z, of_z}
use Rattle.std.specs.Prelude.{Any}
use Rattle.std.proofs.lemmas.Int.{to_z-of_z}
use Rattle.side_touches.specs.Extents.{begin_in}
use Rattle.side_touches.specs.Rows.{AreRows, in_row, line_touches, row_to}
use Rattle.side_touches.specs.Touches.{AreLineTouches, AreTouching}
use Rattle.side_touches.proofs.Pieces.{row_in_order, rows_of, touches_in, touches_of}
use Rattle.side_touches.proofs.Runs.{touched_at_all}
use Rattle.side_touches.proofs.touches.Touches.may_touch.Goals as goal

pub returns : goal.returns
returns c = λ lines solids l are is.
    let side = c.args.side in
    let d = c.args.heading in
    let at = c.args.at in
    let xs = c.self.inside.extents.items in
    let rows = c.self.inside.lines.items in
    let r = c.index.result.now in
    let ys = in_row xs (row_to side r) in
    let all : All (AreRows xs) rows = c.self.invariant in
    let read : to_z w64 (of_z w64 at) ≡ at = to_z-of_z w64 at c.ranges.at in
    let touches : AreLineTouches solids l (line_touches xs r) = touches_of solids lines xs rows c.args.self.now c.args.line l r c.self.view_is are is c.requires.line c.index.ensures in
    let row = row_in_order side xs r (rows_of xs rows c.args.self.now c.args.line r c.self.view_is all c.requires.line c.index.ensures) in
    let here = subst (λ k. (begin_in d k.hull ≤ℤ at) ↔ Any (λ x. begin_in d x ≤ℤ at) ys) (sym c.to.ensures) (row.hull d at c.requires.at) in
    let begins = subst (λ z. (begin_in d c.to.result.hull ≤ℤ z) ↔ Any (λ x. begin_in d x ≤ℤ at) ys) (sym read) here in
    touched_at_all solids l side d at ys c.begins_by.result (λ n. subst (AreTouching solids l side) (touches_in side xs r) (touches side n)) c.requires.across
    (λ t. begins.0 (c.begins_by.ensures.0 t), λ a. c.begins_by.ensures.1 (begins.1 a))
