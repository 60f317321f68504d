-- What is appended is the row.
use Rattle.std.proofs.Common.{◌≡◌, ◌∙◌, ◌-◌, FitsSigned, w64, drop, take, length, sym, ap, subst, arith, rules}
use Rattle.std.specs.List.{filter_map}
use Rattle.std.proofs.lemmas.Int.{to_z-of_z}
use Rattle.side_touches.specs.declared.row.Row.{Row}
use Rattle.side_touches.specs.Extents.{IsHull}
use Rattle.side_touches.specs.Rows.{in_row}
use Rattle.side_touches.specs.Sides.{extent_met}
use Rattle.side_touches.proofs.Pieces.{AreMet, appended, longer, met_row, new_row}
use Rattle.side_touches.proofs.row.push_row.Goals as goal
use Rattle.side_touches.proofs.row.push_row.Goals.{After-hull}

row_of : After-hull → Row
row_of c = record { begin = c.len-begin.result; end = c.len.result; hull = c.hull.result }

same : (c : After-hull) → in_row c.push_met.new.extents.items (row_of c) ≡ filter_map (extent_met c.args.line.now) c.at_coordinate.result.now
unfolding row_of
same c = new_row c.args.extents.now.items (filter_map (extent_met c.args.line.now) c.at_coordinate.result.now) c.push_met.new.extents.items (row_of c) c.in_ok-push_met.ensures
    (search rules) (search rules)

pub returns-clause-row : goal.returns-clause-row
unfolding row_of
returns-clause-row c =
    let old = c.args.extents.now.items in
    let new = c.push_met.new.extents.items in
    let on = longer old new (appended old (filter_map (extent_met c.args.line.now) c.at_coordinate.result.now) new c.in_ok-push_met.ensures) in
    let begin : c.len-begin.result ≡ length old = search rules in
    let end : c.len.result ≡ length new = search rules in
    record {
      ordered = omega arith;
      within = omega arith;
      hull = subst (λ xs. IsHull xs c.hull.result)
          (ap (λ xs. take (length xs - c.len-begin.result) (drop c.len-begin.result xs)) c.deref.ensures.value ∙ ap (λ k. take (k - c.len-begin.result) (drop c.len-begin.result new)) (sym end))
          c.hull.ensures;
    }

pub returns-clause-members : goal.returns-clause-members
unfolding row_of
returns-clause-members c =
    let l = c.args.line.now in
    let fits : FitsSigned w64 l.at = search rules in
    subst (AreMet l c.args.sides.now) (sym (same c)) (met_row l c.args.sides.now c.at_coordinate.result.now _ (to_z-of_z w64 l.at fits) c.at_coordinate.ensures)
