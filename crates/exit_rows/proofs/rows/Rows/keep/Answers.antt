-- One row has one exit more, and is marked.
use Rattle.std.proofs.Common.{◌++◌, ◌∷◌, [], length, ap, ◌∙◌}
use Rattle.std.specs.Prelude.{OnErr, Ok, Err}
use Rattle.std.specs.declared.result.Result.{Result}
use Rattle.std.proofs.Math.ListN.{length-set, set}
use Rattle.exit_rows.proofs.Written.{kept_here, kept_more, kept_same, marked_with, was_kept}
use Rattle.exit_rows.proofs.rows.Rows.keep.Goals as goal

on_err : {T E P : Type 0} (r : Result T E) → P → OnErr r P
on_err (Ok x) p = tt
on_err (Err e) p = p

pub returns-in_err-push-clause-marked : goal.returns-in_err-push-clause-marked
returns-in_err-push-clause-marked c = marked_with c.mark.new.self c.row-at.result c.push.new.self c.in_ok-mark.ensures.ok c.in_ok-mark.ensures.marked

pub returns-in_err-push-clause-err : goal.returns-in_err-push-clause-err
returns-in_err-push-clause-err c =
    let m = c.in_ok-mark.ensures in
    on_err c.from_residual-in_err-push.result
    (kept_same c.args.self.now c.mark.new.self c.args.stage c.args.line c.args.heading c.row-at.result c.index_mut.result.now c.push.new.self c.requires.room m.lines m.rows
    c.row-at.ensures.exact c.row-at.ensures.within c.index_mut.ensures.value c.in_err-push.ensures.items)

pub returns-clause-marked : goal.returns-clause-marked
returns-clause-marked c = marked_with c.mark.new.self c.row-at.result c.push.new.self c.in_ok-mark.ensures.ok c.in_ok-mark.ensures.marked

pub returns-clause-ok : goal.returns-clause-ok
returns-clause-ok c =
    let old = c.args.self.now in
    let new = c.mark.new.self in
    let e = c.args.kept in
    let at = c.row-at.result in
    let was = c.index_mut.result.now in
    let row = c.push.new.self in
    let room = c.requires.room in
    let m = c.in_ok-mark.ensures in
    let stands = c.row-at.ensures.exact in
    let within = c.row-at.ensures.within in
    let read = c.index_mut.ensures.value in
    let more = c.in_ok-push.ensures.items in
    record {
      rooms = record { lines = m.lines; rows = length-set new.rows.items at row ∙ ap length m.rows };
      here = kept_here old new c.args.stage c.args.line c.args.heading at was row room m.lines m.rows stands within read e more;
      each = kept_more old new c.args.stage c.args.line c.args.heading at was row room m.lines m.rows stands within read e more;
      row = row;
      written = λ i. set (m.rows i) (stands i) row;
      more = more ∙ ap (λ xs. xs ++ e ∷ []) (was_kept old new c.args.stage c.args.line c.args.heading at was row room m.lines m.rows stands within read);
    }
