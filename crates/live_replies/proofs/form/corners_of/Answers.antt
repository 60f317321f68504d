-- Two words on.
use Rattle.std.proofs.Common.{◌∙◌, FitsSigned, map, rules, sym, w64}
use Rattle.std.proofs.lemmas.Int.{to_z-of_z}
use Rattle.live_replies.specs.Forms.{corners_of}
use Rattle.live_replies.proofs.Corners.{one_more, one_word}
use Rattle.live_replies.proofs.form.corners_of.Goals as goal

pub loop-left-preserved : goal.loop-left-preserved
loop-left-preserved c =
    let x = c.in-Some-Some.x in
    let y = c.in-Some-Some.y in
    let fits_x : FitsSigned w64 x = search rules in
    let fits_y : FitsSigned w64 y = search rules in
    one_more (λ w. w.now) c.loop-left.left.now _ c.loop-left.corners.items c.push.new.self.items (corners_of (map (λ w. w.now) c.args.words.now)) x y
    c.in-len2-up.len_at_least (sym c.number_of.ensures ∙ c.in-Some-Some.is-0) (sym c.number_of-in-len2-up.ensures ∙ c.in-Some-Some.is-1)
    (simp to_z-of_z at c.in_ok-push.ensures.items) c.loop-left.invariant

pub returns-else-is_empty : goal.returns-else-is_empty
returns-else-is_empty c =
    one_word (λ w. w.now) c.loop-left.left.now c.loop-left.corners.items (corners_of (map (λ w. w.now) c.args.words.now))
    c.in_default.len_below (sym c.is_empty.ensures ∙ c.if-is_empty.false) c.loop-left.invariant
