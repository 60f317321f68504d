-- The place is among the choices of the pin at hand, or past them.
use Rattle.std.proofs.Common.{◌+◌, Some, List, drop, sym, ap, ◌∙◌}
use Rattle.std.specs.Prelude.{slice_get}
use Rattle.std.proofs.lemmas.List.{at_drop_more}
use Rattle.scene_model.specs.declared.pin.Pin.{Pin}
use Rattle.scene_model.specs.Routing.{choices_of}
use Rattle.scene_store.proofs.Choosing.{among_own, choices_among, past_other, past_own}
use Rattle.scene_store.proofs.routing.choice_of_class.Goals as goal
use Rattle.scene_store.proofs.routing.choice_of_class.Goals.{then-pin-class+in-Err, else-pin-class}

pub returns-in-Ok : goal.returns-in-Ok
returns-in-Ok c =
    let buffer = c.args.settings.buffer in
    let n = c.args.node.now in
    let items = c.pins_among-pin-items.result.now in
    let i = c.loop-pin.pin-index in
    ap Some c.choice.ensures
    ∙ sym (among_own buffer n c.args.class _ (drop (i + 1) items) c.loop-pin.place c.in-Ok.dir c.if-pin-class.true c.in-Ok.ensures)
    ∙ sym (at_drop_more (λ (ps : List Pin). slice_get (choices_among buffer n c.args.class ps) c.loop-pin.place) items i _ c.loop-pin-test.true)
    ∙ c.loop-pin.invariant
    ∙ ap (λ ps. slice_get (choices_of buffer n ps) c.args.place) c.pins_among-pin-items.ensures.class

pub loop-pin-preserved : goal.loop-pin-preserved
loop-pin-preserved c =
    let buffer = c.args.settings.buffer in
    let n = c.args.node.now in
    let items = c.pins_among-pin-items.result.now in
    let i = c.loop-pin.pin-index in
    let rest = drop (i + 1) items in
    let here =
    sym (at_drop_more (λ (ps : List Pin). slice_get (choices_among buffer n c.args.class ps) c.loop-pin.place) items i _ c.loop-pin-test.true)
    ∙ c.loop-pin.invariant in
    elim c.if-pin-class.branch [
      | then-pin-class+in-Err w ↦
          ap (slice_get (choices_among buffer n c.args.class rest)) w.place-is
          ∙ sym (past_own buffer n c.args.class _ rest c.loop-pin.place w.in-Err.past w.if-pin-class.true w.in-Err.ensures) ∙ here
      | else-pin-class w ↦
          ap (slice_get (choices_among buffer n c.args.class rest)) w.place-is
          ∙ sym (past_other buffer n c.args.class _ rest c.loop-pin.place w.if-pin-class.false) ∙ here
    ]
