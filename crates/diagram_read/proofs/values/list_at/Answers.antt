-- Pair by pair, the first list under the key is among those that are left.
use Rattle.std.proofs.Common.{sym, ap, ◌∙◌, rules}
use Rattle.std.specs.Prelude.{slice_get}
use Rattle.diagram_read.proofs.Lists.{lists_no, lists_past}
use Rattle.diagram_read.proofs.values.list_at.Goals as goal
use Rattle.diagram_read.proofs.values.list_at.Goals.{else-has_key-via-else-has_key, else-has_key-via-then-has_key+in-None-1}

pub loop-pair-preserved : goal.loop-pair-preserved
loop-pair-preserved c =
    let key = c.args.key.now in
    let list = c.args.list.now in
    let i = c.loop-pair.pair-index in
    let p = c.pair-item.result in
    let within = c.loop-pair-test.true in
    let is = c.pair-item.is in
    elim c.else-has_key.branch [
      | else-has_key-via-else-has_key w ↦
          c.loop-pair.invariant ∙ ap (λ ls. slice_get ls 0) (lists_past key list i p within is (sym c.has_key.ensures ∙ w.if-has_key.false))
      | else-has_key-via-then-has_key+in-None-1 w ↦ c.loop-pair.invariant ∙ ap (λ ls. slice_get ls 0) (lists_no key list i p within is (search rules))
    ]
