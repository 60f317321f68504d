-- What follows the space is all that is left.
use Rattle.std.proofs.Common.{◌+◌, ◌-◌, ℕ, Option, drop, length, length-drop, sym, ap, ◌∙◌, arith}
use Rattle.gml_scene.proofs.Walks.{all_taken}
use Rattle.live_replies.specs.Requests.{after_place}
use Rattle.live_replies.proofs.request.split_word.Goals as goal

pub returns-in-Some-clause-rest : goal.returns-in-Some-clause-rest
returns-in-Some-clause-rest c =
    let line = c.args.line.now in
    let place = c.in-Some.end in
    let left = length-drop (place + 1) line in
    all_taken (drop (place + 1) line) (length line - (place + 1)) (omega (arith, left))
    ∙ ap (λ (p : Option ℕ). after_place p line) (sym (sym c.space_in.ensures.place ∙ c.in-Some.is))
