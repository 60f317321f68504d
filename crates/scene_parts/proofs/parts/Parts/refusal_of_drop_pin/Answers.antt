-- Of a pin that is there, whether it is in use is the refusal.
use Rattle.std.proofs.Common.{◌-◌, ◌<◌, refl, sym, ap, ◌∙◌, to_z-of_z, length, get_or, arith}
use Rattle.std.proofs.lemmas.Option.{slice_get_read}
use Rattle.scene_model.specs.Scene.{node_with}
use Rattle.scene_model.specs.Edits.{is_no_place}
use Rattle.scene_model.proofs.Editing.Refusals.{place_within}
use Rattle.scene_parts.proofs.Refused.{dropped}
use Rattle.scene_parts.proofs.parts.Parts.refusal_of_drop_pin.Goals as goal

pub returns : goal.returns
returns c =
    let n = c.in-Some.node.now in
    let p = c.in_ok-pin.pin.now in
    let known = ap (node_with c.args.self.now) (sym (to_z-of_z c.ranges.id)) ∙ sym c.in-Some.ensures in
    let names = ap (λ ps. is_no_place (length ps) c.args.place) (sym c.as_slice.ensures) ∙ sym c.is_no_place.ensures ∙ c.if-is_no_place.false in
    let within = place_within (length n.pins) c.args.place names in
    let below : c.args.place - 1 < length n.pins = omega (arith, within.0, within.1) in
    let at = slice_get_read n.pins (length n.pins) (c.args.place - 1) p refl below (c.in_ok-pin.ensures.lookup.1 ∙ ap (λ ps. get_or ps (c.args.place - 1) p) c.as_slice-2.ensures) in
    c.pin_in_use.ensures ∙ dropped c.args.self.now c.args.id c.args.place n p known names at
