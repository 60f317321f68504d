-- The next line may be put beside those that stay and those that came before it.
use Rattle.std.proofs.Common.{◌+◌, List, ◌++◌, ◌∷◌, [], get_or, take, sym, ap, subst, ◌∙◌, arith}
use Rattle.std.specs.Prelude.{count_by}
use Rattle.std.proofs.lemmas.List.{take_more}
use Rattle.plane_geom.specs.declared.floor.Line.{Line}
use Rattle.visibility_graph.specs.Meeting.{coming, meets}
use Rattle.visibility_graph.specs.Fill.{AreLines, ArePut, AreStrange}
use Rattle.visibility_graph.proofs.Counts.{coming_more, coming_part, no_line}
use Rattle.visibility_graph.proofs.Filled.{apart_now, lines_now, put_on, strange_now}
use Rattle.visibility_graph.proofs.fill.put_lines.Goals as goal

pub put_crossed-requires-clause-lines : goal.put_crossed-requires-clause-lines
put_crossed-requires-clause-lines c =
    subst (λ (ls : List Line). AreLines c.loop-place.arena (c.args.stay.now ++ ls)) (sym c.split_at.ensures.front)
    (lines_now c.args.arena.now c.loop-place.arena c.args.new.now c.args.stay.now c.loop-place.place c.requires c.loop-place-test.true c.loop-place.invariant)

pub put_crossed-requires-clause-strange : goal.put_crossed-requires-clause-strange
put_crossed-requires-clause-strange c =
    subst (AreStrange c.args.stay.now) (sym c.split_at.ensures.front)
    (strange_now c.args.arena.now c.loop-place.arena c.args.new.now c.args.stay.now c.loop-place.place c.requires c.loop-place-test.true c.loop-place.invariant)

pub put_crossed-requires-clause-apart : goal.put_crossed-requires-clause-apart
put_crossed-requires-clause-apart c =
    apart_now c.args.arena.now c.loop-place.arena c.args.new.now c.args.stay.now c.loop-place.place c.requires c.loop-place-test.true c.loop-place.invariant no_line

pub put_crossed-requires-clause-room_for_crossings : goal.put_crossed-requires-clause-room_for_crossings
put_crossed-requires-clause-room_for_crossings c =
    let new = c.args.new.now in
    let place = c.loop-place.place in
    let front = ap (count_by (meets (get_or new place no_line))) c.split_at.ensures.front in
    omega (arith, front, coming_more new c.args.stay.now place no_line c.loop-place-test.true, coming_part new c.args.stay.now (place + 1), c.loop-place.invariant.spare_crossings, c.requires.room_for_crossings)

pub loop-place-preserved : goal.loop-place-preserved
loop-place-preserved c =
    let new = c.args.new.now in
    let stay = c.args.stay.now in
    let place = c.loop-place.place in
    let line = get_or new place no_line in
    let a = c.args.arena.now in
    let b = c.put_crossed.new.arena in
    let front = ap (λ (ls : List Line). coming (take place new) stay + (count_by (meets line) stay + count_by (meets line) ls)) c.split_at.ensures.front in
    let both = put_on a c.loop-place.arena b (take place new) (line ∷ []) (coming (take place new) stay) (count_by (meets line) stay + count_by (meets line) c.split_at.result.0.now) c.loop-place.invariant c.put_crossed.ensures in
    subst (λ (ls : List Line). ArePut a b ls (coming (take (place + 1) new) stay)) (sym (take_more new place no_line c.loop-place-test.true))
    (subst (ArePut a b (take place new ++ line ∷ [])) (front ∙ sym (coming_more new stay place no_line c.loop-place-test.true)) both)
