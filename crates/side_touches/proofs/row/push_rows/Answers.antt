-- The first row stays as it is where the second one is appended.
use Rattle.std.proofs.Common.{◌∙◌, ◌≤ℤ◌, List, sym, ap, subst}
use Rattle.std.specs.Prelude.{AllPairs}
use Rattle.plane_geom.specs.Point.{opposite}
use Rattle.side_touches.specs.declared.row.Rows.{Rows}
use Rattle.side_touches.specs.declared.side.Side.{Side}
use Rattle.side_touches.specs.Rows.{in_row}
use Rattle.side_touches.specs.Sides.{sides_to}
use Rattle.side_touches.proofs.Pieces.{AreMet, kept_part, kept_row, line_rows}
use Rattle.side_touches.proofs.row.push_rows.Goals as goal

pub push_row-requires : goal.push_row-requires
push_row-requires c = subst (λ (xs : List Side). AllPairs (λ a b. a.at ≤ℤ b.at) xs) (sym c.to.ensures) (c.requires.1 c.lesser_side-side.result).order

pub push_row-requires-2 : goal.push_row-requires-2
push_row-requires-2 c = subst (λ (xs : List Side). AllPairs (λ a b. a.at ≤ℤ b.at) xs) (sym c.to-2.ensures) (c.requires.1 c.opposite.result).order

pub returns-clause-rows : goal.returns-clause-rows
returns-clause-rows c = λ solids are.
    let l = c.args.line.now in
    let sides = c.args.sides.now in
    let mid = c.push_row.new.extents.items in
    let new = c.push_row-2.new.extents.items in
    let lesser = c.in_ok-push_row.field-0 in
    let greater = c.in_ok-push_row-2.field-0 in
    let rows : Rows = record { lesser = lesser; greater = greater } in
    let on = c.in_ok-push_row-2.ensures.goes_on in
    let row = c.in_ok-push_row.ensures.row in
    let first = subst (AreMet l c.to.result.now) (sym (kept_part mid new lesser on row.ordered row.within)) c.in_ok-push_row.ensures.members in
    record {
      both = record { lesser = kept_row mid new lesser on row; greater = c.in_ok-push_row-2.ensures.row };
      touches = line_rows solids sides l new rows are
          (subst (λ ss. AreMet l ss (in_row new lesser)) (c.to.ensures ∙ ap (λ d. sides_to d sides) c.lesser_side-side.ensures) first)
          (subst (λ ss. AreMet l ss (in_row new greater)) (c.to-2.ensures ∙ ap (λ d. sides_to d sides) (c.opposite.ensures ∙ ap opposite c.lesser_side-side.ensures)) c.in_ok-push_row-2.ensures.members);
    }
