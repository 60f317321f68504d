-- The shared lines and those of one floor alone follow from the two lists of kept lines, and the room that is made is enough.
use Rattle.std.proofs.Common.{◌≡◌, true, false, List, length, not, refl, sym, ap, subst, ◌∙◌, arith}
use Rattle.plane_geom.specs.declared.floor.Line.{Line}
use Rattle.plane_geom.specs.declared.floor.Floor.{Floor}
use Rattle.plane_geom.specs.Order.{AreOrdered}
use Rattle.line_arena.specs.Arena.{IsArena}
use Rattle.line_arena.specs.Stands.{StandsFor}
use Rattle.sweep_lines.specs.Kept.{AreKept, is_near}
use Rattle.visibility_graph.specs.Meeting.{coming}
use Rattle.graph_repair.specs.Change.{AreAlone, AreShared, Change}
use Rattle.graph_repair.specs.Hull.{IsAloneWithin}
use Rattle.graph_repair.specs.Listed.{goes, is_listed, lines_of, stays}
use Rattle.graph_repair.proofs.Listing.{kept_of_arena, lines_alone, new_lines, ordered_filter, ordered_lines, shared_lines}
use Rattle.graph_repair.proofs.Exchanged.{leads_at, leads_first}
use Rattle.graph_repair.proofs.difference.plan.Goals as goal

pub compare-requires-clause-old : goal.compare-requires-clause-old
compare-requires-clause-old c = ordered_lines c.lines_in_order-old_lines.result.now c.lines_in_order-old_lines.ensures.ordered

pub make_room-requires-clause-stay_ordered : goal.make_room-requires-clause-stay_ordered
make_room-requires-clause-stay_ordered c =
    let old = lines_of c.lines_in_order-old_lines.result.now in
    subst AreOrdered (sym (c.as_slice-2.ensures.value ∙ c.in_ok-stay.ensures.stay))
    (ordered_filter (stays c.hull_of_difference-hull.result c.as_slice.result.now) old (ordered_lines c.lines_in_order-old_lines.result.now c.lines_in_order-old_lines.ensures.ordered))

pub make_room-requires-clause-here_ordered : goal.make_room-requires-clause-here_ordered
make_room-requires-clause-here_ordered c =
    let old = lines_of c.lines_in_order-old_lines.result.now in
    subst AreOrdered (sym (c.as_slice-3.ensures.value ∙ c.in_ok-stay.ensures.here))
    (ordered_filter (goes c.hull_of_difference-hull.result c.as_slice.result.now) old (ordered_lines c.lines_in_order-old_lines.result.now c.lines_in_order-old_lines.ensures.ordered))

pub make_room-requires-clause-there_ordered : goal.make_room-requires-clause-there_ordered
make_room-requires-clause-there_ordered c =
    let old = lines_of c.lines_in_order-old_lines.result.now in
    let new = c.as_slice.result.now in
    let kept = subst (AreKept c.args.new.now (λ l. is_near c.hull_of_difference-hull.result l ≡ true)) (sym c.as_slice.ensures.value) c.in_ok-new_lines.ensures in
    subst AreOrdered (sym (c.as_slice-4.ensures.value ∙ c.in_ok-stay.ensures.there)) (ordered_filter (λ l. not (is_listed old l)) new kept.ordered)

pub returns-clause-leads : goal.returns-clause-leads
returns-clause-leads c =
    let graph = c.args.graph.now in
    let a = graph.floor in
    let b = c.args.new.now in
    let old = lines_of c.lines_in_order-old_lines.result.now in
    let new = c.as_slice.result.now in
    let stay = c.in_ok-stay.field-0.stay.items in
    let here = c.in_ok-stay.field-0.here.items in
    let there = c.in_ok-stay.field-0.there.items in
    let of_a = kept_of_arena a c.arena.result.now c.lines_in_order-old_lines.result.now c.arena.ensures.stands c.lines_in_order-old_lines.ensures.ordered c.lines_in_order-old_lines.ensures.listed in
    let near = c.hull_of_difference-hull.result in
    let gone = subst (λ f. IsAloneWithin near f b) c.floor.ensures c.hull_of_difference-hull.ensures.gone in
    let come = subst (IsAloneWithin near b) c.floor.ensures c.hull_of_difference-hull.ensures.come in
    let of_b = subst (AreKept b (λ l. is_near near l ≡ true)) (sym c.as_slice.ensures.value) c.in_ok-new_lines.ensures in
    let shared = subst (AreShared a b) (sym c.in_ok-stay.ensures.stay) (shared_lines near a b gone come old new of_a of_b) in
    let alone = subst (AreAlone a b) (sym c.in_ok-stay.ensures.here) (lines_alone near a b gone come old new of_a of_b) in
    let other = subst (AreAlone b a) (sym c.in_ok-stay.ensures.there) (new_lines near a b gone come old new of_a of_b) in
    let stay_slice = c.as_slice-2.result.now in
    let arena = c.make_room.new.graph.arena in
    let come : coming c.as_slice-4.result.now stay_slice ≡ coming there stay = ap (λ (x : List Line). coming x stay_slice) c.as_slice-4.ensures.value ∙ ap (coming there) c.as_slice-2.ensures.value in
    let go : coming c.as_slice-3.result.now stay_slice ≡ coming here stay = ap (λ (x : List Line). coming x stay_slice) c.as_slice-3.ensures.value ∙ ap (coming here) c.as_slice-2.ensures.value in
    let many : length c.as_slice-4.result.now ≡ length there = ap length c.as_slice-4.ensures.value in
    let few : length c.as_slice-3.result.now ≡ length here = ap length c.as_slice-3.ensures.value in
    let room = c.in_ok-make_room.ensures in
    let leads = leads_first graph b stay here there arena shared alone other
    (subst IsArena c.arena-2.ensures.arena c.laws.ensures.arena) (subst (StandsFor a) c.arena.ensures.arena c.arena.ensures.stands)
    c.make_room.ensures.lines c.make_room.ensures.crossings (omega (arith, many, few, room.room_for_lines)) (omega (arith, come, go, room.room_for_crossings)) in
    let seen : Floor → Change = λ f. record { floor = f; stay = stay; here = here; there = there; applied = false } in
    leads_at (record { floor = a; arena = arena }) c.make_room.new.graph.floor arena
    (seen b) (seen c.in_ok-kept.kept) c.make_room.ensures.floor refl (ap seen c.in_ok-kept.ensures) leads
