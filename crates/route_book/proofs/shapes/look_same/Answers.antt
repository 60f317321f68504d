-- What is the same in both shapes.
use Rattle.std.proofs.Common.{◌≡◌, sym, ap, ◌∙◌, true≢false}
use Rattle.std.specs.Prelude.{Decides}
use Rattle.std.proofs.lemmas.Bool.Decides.{Decides-at}
use Rattle.std.proofs.lemmas.Slice.Eq.{slice_eq-Decides}
use Rattle.scene_model.specs.Routing.{box}
use Rattle.scene_model.specs.Stale.{Shape}
use Rattle.route_book.proofs.Comparing.Same.{group_same, pin_same, rect_same}
use Rattle.route_book.proofs.shapes.look_same.Goals as goal
use Rattle.route_book.proofs.shapes.look_same.Goals.{then-eq, else-eq}

pub returns-then-one-other : goal.returns-then-one-other
returns-then-one-other c =
    let one = c.args.one.now in
    let other = c.args.other.now in
    let test = c.if-one-other.true in
    let pins : Decides c.eq-then-one-other.result (c.as_slice.result.now ≡ c.as_slice-then-one-other.result.now) = slice_eq-Decides pin_same c.as_slice.result.now c.as_slice-then-one-other.result.now c.eq-then-one-other.result c.eq-then-one-other.ensures in
    let boxes = Decides-at c.eq.result _ c.eq.ensures (rect_same c.rect.result c.rect-2.result) in
    elim c.if-eq.branch [
      | then-eq w ↦
          let rect : box one ≡ box other = sym c.rect.ensures ∙ boxes.0 w.if-eq.true ∙ c.rect-2.ensures in
          let group : one.group ≡ other.group = group_same one.group other.group (sym w.value-is ∙ test) in (
            λ h. λ i. record { rect = rect i; group = group i; pins = (sym c.as_slice.ensures ∙ pins.0 h ∙ c.as_slice-then-one-other.ensures) i },
            λ e. pins.1 (c.as_slice.ensures ∙ ap (λ (z : Shape). z.pins) e ∙ sym c.as_slice-then-one-other.ensures),
          )
      | else-eq w ↦ absurd (true≢false (sym test ∙ w.value-is ∙ w.if-eq.false))
    ]
