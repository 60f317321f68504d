-- Each step looks at the heads of what is left of both lists.
use Rattle.std.proofs.Common.{◌≤◌, ◌+◌, ◌⊎◌, List, inl, inr, length, get_or, sym, subst, ◌∙◌, arith}
use Rattle.plane_geom.specs.declared.floor.Line.{Line}
use Rattle.visibility_graph.proofs.Counts.{no_line}
use Rattle.graph_repair.specs.Listed.{lines_of}
use Rattle.graph_repair.proofs.Compared.{AreFoundUpto, all_here, all_shared, all_there, found_both, found_first, found_new, found_old, one_line, two_lines}
use Rattle.graph_repair.proofs.compare.compare.Goals as goal
use Rattle.graph_repair.proofs.compare.compare.Goals.{In_ok-extend_from_slice, else-both-test, then-both-test+else-other_place-new}

pub both-init : goal.both-init
both-init c = record {
  within_old = omega arith;
  within_new = omega arith;
  found = found_first c.args.hull.now (lines_of c.args.old.now) c.args.new.now c.new.result.items c.new-2.result.items c.new-3.result.items c.new.ensures.items c.new-2.ensures.items c.new-3.ensures.items;
}

pub both-preserved-then-is_same : goal.both-preserved-then-is_same
both-preserved-then-is_same c =
    let near = c.args.hull.now in
    let old = c.args.old.now in
    let new = c.args.new.now in
    let line = (get_or old c.both.place c.index-old-place.result).0 in
    let same = one_line c.is_same.result line (get_or new c.both.other_place no_line) c.is_same.ensures c.if-is_same.true in
    record {
      within_old = omega arith;
      within_new = omega arith;
      found = subst (λ (ls : List Line). AreFoundUpto near (lines_of old) new (c.both.place + 1) (c.both.other_place + 1) ls c.both.difference.here.items c.both.difference.there.items) (sym (c.in_ok-push.ensures {u = tt}).items)
          (found_both near old new c.requires.old c.requires.new c.both.place c.both.other_place c.index-old-place.result no_line (omega arith) (omega arith) c.both.difference.stay.items c.both.difference.here.items c.both.difference.there.items c.both.invariant.found same);
    }

pub both-preserved-then-stands_before : goal.both-preserved-then-stands_before
both-preserved-then-stands_before c =
    let before = sym c.stands_before.ensures ∙ c.if-stands_before.true in
    let parted = c.in_ok-part_line.ensures {u = tt} in
    record {
      within_old = omega arith;
      within_new = omega arith;
      found = rw (parted.stay, parted.here, parted.there)
          (found_old c.args.hull.now c.args.old.now c.args.new.now c.requires.old c.requires.new c.both.place c.both.other_place c.index-old-place.result no_line (omega arith) (omega arith) c.both.difference.stay.items c.both.difference.here.items c.both.difference.there.items c.both.invariant.found before);
    }

pub both-preserved : goal.both-preserved
both-preserved c =
    let near = c.args.hull.now in
    let old = c.args.old.now in
    let new = c.args.new.now in
    let line = (get_or old c.both.place c.index-old-place.result).0 in
    let apart = two_lines c.is_same.result line (get_or new c.both.other_place no_line) c.is_same.ensures c.if-is_same.false in
    let behind = sym c.stands_before.ensures ∙ c.if-stands_before.false in
    record {
      within_old = omega arith;
      within_new = omega arith;
      found = subst (λ (ls : List Line). AreFoundUpto near (lines_of old) new c.both.place (c.both.other_place + 1) c.both.difference.stay.items c.both.difference.here.items ls) (sym (c.in_ok-push-2.ensures {u = tt}).items)
          (found_new near old new c.requires.old c.requires.new c.both.place c.both.other_place c.index-old-place.result no_line (omega arith) (omega arith) c.both.difference.stay.items c.both.difference.here.items c.both.difference.there.items c.both.invariant.found apart behind);
    }

-- one of the lists has ended
ended : (c : In_ok-extend_from_slice) → (length c.args.old.now ≤ c.both.place) ⊎ (length c.args.new.now ≤ c.both.other_place)
ended c = elim c.both-test.branch [ then-both-test+else-other_place-new w ↦ inr (omega (arith, w.if-other_place-new.false)) | else-both-test w ↦ inl (omega (arith, w.both-test.false)) ]

pub returns-clause-stay : goal.returns-clause-stay
returns-clause-stay c =
    (c.in_ok-part_lines.ensures {u = tt}).stay
    ∙ all_shared c.args.hull.now c.args.old.now c.args.new.now c.both.place c.both.other_place c.both.difference.stay.items c.both.difference.here.items c.both.difference.there.items c.both.invariant.found (ended c)

pub returns-clause-here : goal.returns-clause-here
returns-clause-here c =
    (c.in_ok-part_lines.ensures {u = tt}).here
    ∙ all_here c.args.hull.now c.args.old.now c.args.new.now c.both.place c.both.other_place c.both.difference.stay.items c.both.difference.here.items c.both.difference.there.items c.both.invariant.found (ended c)

pub returns-clause-there : goal.returns-clause-there
returns-clause-there c =
    (c.in_ok-extend_from_slice.ensures {u = tt}).items
    ∙ rw (c.in_ok-part_lines.ensures {u = tt}).there
    (all_there c.args.hull.now c.args.old.now c.args.new.now c.both.place c.both.other_place c.both.difference.stay.items c.both.difference.here.items c.both.difference.there.items c.both.invariant.found (ended c))
