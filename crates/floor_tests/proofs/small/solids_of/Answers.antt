-- One more rectangle adds its solid, if it has an inside.
use Rattle.std.proofs.Common.{◌≡◌, pos, ℤ, ◌+◌, [], ◌∷◌, ◌++◌, get_or, take, sym, ap, ◌∙◌, rules}
use Rattle.std.specs.Prelude.{filter_map}
use Rattle.std.specs.List.{cons_option}
use Rattle.std.proofs.lemmas.List.{append-nil, take_more}
use Rattle.std.proofs.lemmas.List.Elements.{filter_map-append}
use Rattle.floor_tests.specs.Small.{solid_of_sides}
use Rattle.floor_tests.proofs.small.solids_of.Goals as goal
use Rattle.floor_tests.proofs.small.solids_of.Goals.{in-Some+in_ok-push, in_default}

-- what stands for the element of a list past its end
abbrev no_sides : ℤ × ℤ × ℤ × ℤ
no_sides = (pos 0, pos 0, pos 0, pos 0)

pub loop-sides-preserved : goal.loop-sides-preserved
loop-sides-preserved c =
    let rects = c.args.rects.now in
    let i = c.loop-sides.sides-index in
    let sides = get_or rects i no_sides in
    let before = filter_map solid_of_sides (take i rects) in
    let read : c.solid.result ≡ solid_of_sides sides = search rules in
    let more = ap (filter_map solid_of_sides) (take_more rects i no_sides c.loop-sides-test.true) ∙ filter_map-append solid_of_sides (take i rects) (sides ∷ []) in
    elim c.match-solid.branch as (λ _. c.match-solid.solids.items ≡ filter_map solid_of_sides (take (i + 1) rects)) [
      | in-Some+in_ok-push w ↦ ap (λ v. v.items) w.solids-is ∙ w.in_ok-push.ensures.items ∙ ap (λ xs. xs ++ w.in-Some.solid ∷ []) c.loop-sides.invariant ∙ ap (λ o. before ++ cons_option o []) (sym w.in-Some.is ∙ read) ∙ sym more
      | in_default w ↦ ap (λ v. v.items) w.solids-is ∙ c.loop-sides.invariant ∙ sym (append-nil before) ∙ ap (λ o. before ++ cons_option o []) (sym w.in_default.is ∙ read) ∙ sym more
    ]
