-- The last place with one more extent.
use Rattle.std.proofs.Common.{ℤ, ◌+◌, ◌≡◌, ◌∙◌, Some, false, true, take, refl, sym, subst, w64, to_z, of_z}
use Rattle.std.proofs.lemmas.Int.{to_z-of_z}
use Rattle.std.proofs.lemmas.List.{take_all}
use Rattle.side_touches.specs.Extents.{IsLastPlace}
use Rattle.side_touches.proofs.Meeting.{no_place, place_more, place_same}
use Rattle.side_touches.proofs.extent.last_place.Goals as goal
use Rattle.side_touches.proofs.extent.last_place.Goals.{then-begins_by, else-begins_by}

abbrev read : ℤ → ℤ
read z = to_z w64 (of_z w64 z)

pub loop-extent-init : goal.loop-extent-init
loop-extent-init c = no_place c.args.heading (read c.args.at)

pub loop-extent-preserved : goal.loop-extent-preserved
loop-extent-preserved c =
    let d = c.args.heading in
    let at = read c.args.at in
    let xs = c.args.extents.now in
    let i = c.loop-extent.extent-index in
    let inside = c.loop-extent-test.true in
    elim c.if-begins_by.branch [
      | then-begins_by w ↦
          let z : read w.further.result ≡ w.further.result = to_z-of_z w64 w.further.result (record { sfits = w.further.type_inv }) in
          let end : read w.end_by.result ≡ w.end_by.result = to_z-of_z w64 w.end_by.result (record { sfits = w.end_by.type_inv }) in
          subst (IsLastPlace d at (take (i + 1) xs)) (sym w.last-is)
          (subst (λ y. IsLastPlace d at (take (i + 1) xs) (Some y)) (sym z)
          (place_more d at xs i _ c.loop-extent.last (read w.end_by.result) w.further.result inside c.loop-extent.invariant (w.if-begins_by.ensures.0 refl) (end ∙ w.end_by.ensures) w.further.ensures))
      | else-begins_by w ↦
          subst (IsLastPlace d at (take (i + 1) xs)) (sym w.last-is)
          (place_same d at xs i _ c.loop-extent.last inside c.loop-extent.invariant (λ h. let e : false ≡ true = w.if-begins_by.ensures.1 h in cc))
    ]

pub returns : goal.returns
returns c =
    let at : read c.args.at ≡ c.args.at = to_z-of_z w64 c.args.at c.ranges.at in
    subst (λ z. IsLastPlace c.args.heading z c.args.extents.now c.loop-extent.last) at
    (subst (λ xs. IsLastPlace c.args.heading (read c.args.at) xs c.loop-extent.last) (take_all c.loop-extent.extent-index c.args.extents.now c.loop-extent-test.false) c.loop-extent.invariant)
