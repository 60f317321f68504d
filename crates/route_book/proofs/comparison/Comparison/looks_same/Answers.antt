-- What is the same of both ends.
use Rattle.std.proofs.Common.{◌≡◌, sym, ap, ◌∙◌, arith, w64, to_z, of_z}
use Rattle.std.proofs.lemmas.Int.{ints}
use Rattle.scene_model.specs.declared.settings.Settings.{Settings}
use Rattle.scene_model.specs.Stale.{shape}
use Rattle.route_book.proofs.Comparing.Looks.{looks_by, same_target}
use Rattle.route_book.proofs.comparison.Comparison.looks_same.Goals as goal

pub returns-then-has_same_shape : goal.returns-then-has_same_shape
returns-then-has_same_shape c =
    let old = c.args.self.now.old.now in
    let new = c.args.self.now.new.now in
    let was = c.args.was.now in
    let edge = c.args.edge.now in
    let from : was.from ≡ to_z w64 (of_z w64 was.from) = omega (arith, ints) in
    let to : was.to ≡ to_z w64 (of_z w64 was.to) = omega (arith, ints) in
    let test = c.if-settings.false in
    let left : c.settings.result.buffer ≡ old.settings.buffer = ap (λ (t : Settings). t.buffer) c.settings.ensures.value in
    let right : c.settings-2.result.buffer ≡ new.settings.buffer = ap (λ (t : Settings). t.buffer) c.settings-2.ensures.value in
    let low = c.settings.ensures.valid.settings.buffer in
    let high = c.settings.ensures.valid.settings.low_buffer in
    let low_new = c.settings-2.ensures.valid.settings.buffer in
    let high_new = c.settings-2.ensures.valid.settings.low_buffer in
    let buffer : old.settings.buffer ≡ new.settings.buffer = omega (arith, ints, test, left, right, low, high, low_new, high_new) in
    let source : shape old was.from ≡ shape new was.from = ap (shape old) from ∙ c.has_same_shape.ensures.0 c.if-has_same_shape.true ∙ ap (shape new) (sym from) in (
      λ h. looks_by old new was edge (c.ask_same.ensures.0 c.if-not-ask_same.false) buffer source (ap (shape old) to ∙ c.has_same_shape-then-has_same_shape.ensures.0 h ∙ ap (shape new) (sym to)),
      λ same. c.has_same_shape-then-has_same_shape.ensures.1 (ap (shape old) (sym to) ∙ same_target old new was edge same ∙ ap (shape new) to),
    )
