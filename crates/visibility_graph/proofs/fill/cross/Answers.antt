-- Each of the others that the line meets gets its crossing, and has none before.
use Rattle.std.proofs.Common.{◌≡◌, ℕ, ◌<◌, true, List, ◌++◌, ◌∷◌, [], get_or, take, length, ◌+◌, sym, ap, subst, ◌∙◌}
use Rattle.std.specs.Prelude.{Contains, filter}
use Rattle.std.specs.FinMap.{get}
use Rattle.std.proofs.lemmas.List.{take_all}
use Rattle.std.proofs.lemmas.List.Elements.{Contains-get_or}
use Rattle.plane_geom.specs.declared.floor.Line.{Line}
use Rattle.line_arena.specs.Arena.{Arena}
use Rattle.sweep_lines.proofs.Members.{among_filtered, among_of_contains, contains_of_among}
use Rattle.visibility_graph.specs.Meeting.{meets}
use Rattle.visibility_graph.specs.Fill.{IsCrossed}
use Rattle.visibility_graph.proofs.Counts.{no_line}
use Rattle.visibility_graph.proofs.Crossed.{crossed_none, crossed_on, in_others, met_none, met_one, not_before, room_for_one, still_uncrossed}
use Rattle.visibility_graph.proofs.fill.cross.Goals as goal
use Rattle.visibility_graph.proofs.fill.cross.Goals.{then-is_reached, else-is_reached}

listed : (line : Line) (bs others : List Line) (i : ℕ) → filter (meets line) bs ≡ filter (meets line) others → i < length bs → meets line (get_or bs i no_line) ≡ true → Contains others (get_or bs i no_line)
listed line bs others i same l e = in_others (meets line) bs others (get_or bs i no_line) same (Contains-get_or bs i no_line l) e

pub put_meeting-place-requires-clause-there : goal.put_meeting-place-requires-clause-there
put_meeting-place-requires-clause-there c = ap (λ m. get m c.args.id) c.loop-other.invariant.lines ∙ c.requires.there

pub put_meeting-place-requires-clause-other_there : goal.put_meeting-place-requires-clause-other_there
put_meeting-place-requires-clause-other_there c =
    let other = get_or c.beside-place.result.1.now c.loop-other.other-index no_line in
    let there = c.requires.others_there other (listed c.args.line.now c.beside-place.result.1.now c.args.others.now c.loop-other.other-index c.beside-place.ensures.met c.loop-other-test.true (c.beside-place.ensures.across c.loop-other.other-index no_line c.loop-other-test.true ∙ sym c.is_reached.ensures ∙ c.if-is_reached.true)) in
    (there.0, ap (λ m. get m there.0) c.loop-other.invariant.lines ∙ there.1)

pub put_meeting-place-requires-clause-uncrossed : goal.put_meeting-place-requires-clause-uncrossed
put_meeting-place-requires-clause-uncrossed c =
    let bs = c.beside-place.result.1.now in
    let i = c.loop-other.other-index in
    let test = meets c.args.line.now in
    let other = get_or bs i no_line in
    still_uncrossed c.args.arena.now c.loop-other.arena c.args.id c.args.line.now.way (filter test (take i bs)) other c.loop-other.invariant
    (c.requires.uncrossed other (listed c.args.line.now c.beside-place.result.1.now c.args.others.now c.loop-other.other-index c.beside-place.ensures.met c.loop-other-test.true (c.beside-place.ensures.across c.loop-other.other-index no_line c.loop-other-test.true ∙ sym c.is_reached.ensures ∙ c.if-is_reached.true)))
    (λ among. not_before bs i no_line c.beside-place.ensures.ordered c.loop-other-test.true
    (contains_of_among (take i bs) other (among_filtered test (take i bs) other (among_of_contains (filter test (take i bs)) other among)).0))

pub put_meeting-place-requires-clause-room : goal.put_meeting-place-requires-clause-room
put_meeting-place-requires-clause-room c =
    let bs = c.beside-place.result.1.now in
    room_for_one (meets c.args.line.now) bs c.args.others.now c.loop-other.other-index no_line c.args.arena.now.spare_crossings c.loop-other.arena.spare_crossings
    c.beside-place.ensures.met c.loop-other-test.true (c.beside-place.ensures.across c.loop-other.other-index no_line c.loop-other-test.true ∙ sym c.is_reached.ensures ∙ c.if-is_reached.true) c.requires.room c.loop-other.invariant.spare_crossings

pub loop-other-init : goal.loop-other-init
loop-other-init c = crossed_none c.args.arena.now c.args.id c.args.line.now.way c.laws.ensures.written

pub loop-other-preserved : goal.loop-other-preserved
loop-other-preserved c =
    let a = c.args.arena.now in
    let id = c.args.id in
    let line = c.args.line.now in
    let test = meets line in
    let bs = c.beside-place.result.1.now in
    let i = c.loop-other.other-index in
    let other = get_or bs i no_line in
    elim c.if-is_reached.branch as (λ _. IsCrossed a c.if-is_reached.arena id line.way (filter test (take (i + 1) bs))) [
      | then-is_reached w ↦ subst (IsCrossed a c.if-is_reached.arena id line.way) (sym (met_one test bs i no_line c.loop-other-test.true (c.beside-place.ensures.across i no_line c.loop-other-test.true ∙ sym c.is_reached.ensures ∙ w.if-is_reached.true)))
          (subst (λ (b : Arena). IsCrossed a b id line.way (filter test (take i bs) ++ other ∷ [])) (sym w.arena-is)
          (crossed_on a c.loop-other.arena w.put_meeting-place.new.arena id line.way (filter test (take i bs)) (other ∷ []) c.loop-other.invariant w.put_meeting-place.ensures))
      | else-is_reached w ↦ subst (IsCrossed a c.if-is_reached.arena id line.way) (sym (met_none test bs i no_line c.loop-other-test.true (c.beside-place.ensures.across i no_line c.loop-other-test.true ∙ sym c.is_reached.ensures ∙ w.if-is_reached.false)))
          (subst (λ (b : Arena). IsCrossed a b id line.way (filter test (take i bs))) (sym w.arena-is) c.loop-other.invariant)
    ]

pub returns : goal.returns
returns c =
    let bs = c.beside-place.result.1.now in
    let test = meets c.args.line.now in
    subst (IsCrossed c.args.arena.now c.loop-other.arena c.args.id c.args.line.now.way)
    (ap (filter test) (take_all c.loop-other.other-index bs c.loop-other-test.false) ∙ c.beside-place.ensures.met) c.loop-other.invariant
