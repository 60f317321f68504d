-- Spot by spot: a row comes where it has a label.
use Rattle.std.proofs.Common.{◌≡◌, ◌+◌, ◌++◌, take, sym, ap, ◌∙◌}
use Rattle.std.proofs.lemmas.List.{take_all}
use Rattle.proof_search.specs.Rows.{rows_in}
use Rattle.proof_search.proofs.RowsInOrder.Written.{row_comes_in, row_left_out}
use Rattle.proof_search.proofs.labels.Labels.push_stage.Goals as goal
use Rattle.proof_search.proofs.labels.Labels.push_stage.Goals.{then-has_label+in_ok-push, else-has_label}

pub loop-spot-preserved : goal.loop-spot-preserved
loop-spot-preserved c =
    let l = c.args.self.now in
    let k = c.args.stage in
    let spots = c.args.spots.now in
    let old = c.args.rows.now.items in
    let now = c.loop-spot.rows.items in
    elim c.if-has_label.branch as (λ _. c.if-has_label.rows.items ≡ old ++ rows_in l k (take (c.loop-spot.spot-index + 1) spots)) [
      | then-has_label+in_ok-push w ↦ (
          row_comes_in l k spots c.loop-spot.spot-index c.spot-item.result c.loop-spot-test.true c.spot-item.is c.row_at-row.result c.row_at-row.ensures old
          now c.loop-spot.invariant
          (sym c.has_label.ensures ∙ w.if-has_label.true) c.if-has_label.rows.items (ap (λ v. v.items) w.rows-is ∙ w.in_ok-push.ensures.items))
      | else-has_label w ↦ (
          ap (λ v. v.items) w.rows-is
          ∙ row_left_out l k spots c.loop-spot.spot-index c.spot-item.result c.loop-spot-test.true c.spot-item.is c.row_at-row.result c.row_at-row.ensures
          old now c.loop-spot.invariant
          (sym c.has_label.ensures ∙ w.if-has_label.false))
    ]

pub returns : goal.returns
returns c =
    let l = c.args.self.now in
    let whole = take_all c.loop-spot.spot-index c.args.spots.now c.loop-spot-test.false in
    c.loop-spot.invariant ∙ ap (λ spots. c.args.rows.now.items ++ rows_in l c.args.stage spots) whole
