-- One more is written.
use Rattle.std.proofs.Common.{sym, ap, false}
use Rattle.std.specs.Prelude.{pos, codes}
use Rattle.scene_model.specs.declared.pin.Pin.{Pin}
use Rattle.gml_text.specs.View.{content, pairs}
use Rattle.gml_text.proofs.Accepting.{then-none}
use Rattle.gml_scene.specs.Changes.{one}
use Rattle.gml_scene.specs.Forms.{pin_pair}
use Rattle.gml_scene.proofs.Walks.{written_more}
use Rattle.gml_scene.proofs.forms.push_pins.Goals as goal

pub loop-pin-init : goal.loop-pin-init
loop-pin-init c = sym (then-none (pairs c.args.list.now.items))

pub loop-pin-preserved : goal.loop-pin-preserved
loop-pin-preserved c =
    let d : Pin = record { class = 0; dx = pos 0; dy = pos 0; dirs = record { east = false; south = false; west = false; north = false }; cost = pos 0 } in
    written_more pin_pair c.args.pins.now c.loop-pin.pin-index d (pairs c.args.list.now.items) (pairs c.loop-pin.list.items) (pairs c.push.new.list.items)
    (one (codes "pin") (content c.in_ok-pin_of.field-0)) c.loop-pin-test.true c.loop-pin.invariant c.in_ok-push.ensures (ap (one (codes "pin")) c.in_ok-pin_of.ensures)
