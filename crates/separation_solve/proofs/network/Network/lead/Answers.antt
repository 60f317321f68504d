-- Flow goes on over a tight link, and back over a link with flow.
use Rattle.std.proofs.Common.{◌<ℤ◌, ◌≤ℤ◌, ◌≡◌, ◌<◌, pos, FitsSigned, arith, ap, sym, ◌∙◌, length, refl, to_z-of_z}
use mir.Syntax.{w128}
use Rattle.std.specs.Int.{int_min}
use Rattle.std.proofs.lemmas.List.{get_or_read}
use Rattle.separation_model.specs.Bundle.{int_at}
use Rattle.separation_solve.specs.Network.{link_at}
use Rattle.separation_solve.proofs.Searches.Leads.{lt_true, lt_false, between_fits, flow_fits, min_positive, no_lead, capacity_fits, leads_on, leads_back, sum_fits, difference_fits, offset_fits}
use Rattle.separation_solve.proofs.LightFractions.Spots.{cast_is, gap_narrow}
use Rattle.separation_solve.proofs.network.Network.lead.Goals as goal
use Rattle.separation_solve.proofs.network.Network.lead.Goals.{else-link-step-2-via-then-link-step-2+else-index-gt0, else-link-step-2-via-else-link-step-2}

pub overflow_add-result : goal.overflow_add-result
overflow_add-result c =
    let e : c.index-link.result.now ≡ link_at c.args.self.now.links.items c.args.index = get_or_read c.args.self.now.links.items c.args.index c.index-link.result.now c.requires.link.link c.index-link.ensures _ in
    let gap = (c.requires.sound.frame.links c.args.index c.requires.link.link).gap in
    let step = c.requires.step.1 in
    rw (e, to_z-of_z (offset_fits c.args.step.offset step.low step.high), to_z-of_z (gap_narrow _ gap)) (sum_fits _ _ step.low step.high gap)

pub overflow_sub-result : goal.overflow_sub-result
overflow_sub-result c =
    let e : c.index-link.result.now ≡ link_at c.args.self.now.links.items c.args.index = get_or_read c.args.self.now.links.items c.args.index c.index-link.result.now c.requires.link.link c.index-link.ensures _ in
    let gap = (c.requires.sound.frame.links c.args.index c.requires.link.link).gap in
    let step = c.requires.step.1 in
    rw (e, to_z-of_z (offset_fits c.args.step.offset step.low step.high), to_z-of_z (gap_narrow _ gap)) (difference_fits _ _ step.low step.high gap)

pub returns-then-link-step : goal.returns-then-link-step
returns-then-link-step c =
    let n = c.args.self.now in
    let e : c.index-link.result.now ≡ link_at n.links.items c.args.index = get_or_read n.links.items c.args.index c.index-link.result.now c.requires.link.link c.index-link.ensures _ in
    let gap = (c.requires.sound.frame.links c.args.index c.requires.link.link).gap in
    let step = c.requires.step.1 in
    let from : (link_at n.links.items c.args.index).from ≡ c.args.step.node = ap (λ l. l.from) (sym e) ∙ c.if-link-step.true in
    let leads = leads_on n c.args.index c.args.parent c.args.step _ c.requires.sound c.requires.link.link from c.requires.link.tight refl in
    rw (e, to_z-of_z (offset_fits c.args.step.offset step.low step.high), to_z-of_z (gap_narrow _ gap), to_z-of_z (sum_fits _ _ step.low step.high gap), to_z-of_z (capacity_fits n c.requires.step.0 c.args.step c.requires.sound step))
    leads

pub returns-then-index-gt0 : goal.returns-then-index-gt0
returns-then-index-gt0 c =
    let n = c.args.self.now in
    let sound = c.requires.sound in
    let e : c.index-link.result.now ≡ link_at n.links.items c.args.index = get_or_read n.links.items c.args.index c.index-link.result.now c.requires.link.link c.index-link.ensures _ in
    let gap = (sound.frame.links c.args.index c.requires.link.link).gap in
    let step = c.requires.step.1 in
    let to : (link_at n.links.items c.args.index).to ≡ c.args.step.node = ap (λ l. l.to) (sym e) ∙ c.if-link-step-2.true in
    let inside : c.args.index < length n.flow.items = omega (arith, sound.frame.flow, c.requires.link.link) in
    let fits = flow_fits n c.args.index sound c.requires.link.link in
    let capacity = capacity_fits n c.requires.step.0 c.args.step sound step in
    let flow = cast_is w128 c.index.result.now (int_at n.flow.items c.args.index) (get_or_read n.flow.items c.args.index c.index.result.now inside c.index.ensures _) fits in
    let other = cast_is w128 c.index-then-index-gt0.result.now (int_at n.flow.items c.args.index) (get_or_read n.flow.items c.args.index c.index-then-index-gt0.result.now inside c.index-then-index-gt0.ensures _) fits in
    let flows : pos 0 <ℤ int_at n.flow.items c.args.index = lt_true _ _ (rw flow at c.if-index-gt0.true) in
    let less : c.min.result ≤ℤ c.args.step.capacity = rw (to_z-of_z capacity) at c.min.ensures.self_bound in
    let back : c.min.result ≤ℤ int_at n.flow.items c.args.index = rw other at c.min.ensures.other_bound in
    let value : c.min.result ≡ int_min c.args.step.capacity (int_at n.flow.items c.args.index) = rw (to_z-of_z capacity, other) at c.min.ensures.value in
    let some = min_positive _ _ _ value step.some flows in
    let fits_min : FitsSigned w128 c.min.result = between_fits c.min.result c.args.step.capacity some less capacity in
    let leads = leads_back n c.args.index c.args.parent c.args.step _ c.min.result sound c.requires.link.link to flows refl less back some in
    rw (e, to_z-of_z (offset_fits c.args.step.offset step.low step.high), to_z-of_z (gap_narrow _ gap), to_z-of_z (difference_fits _ _ step.low step.high gap), to_z-of_z fits_min)
    leads

pub returns-else-link-step-2 : goal.returns-else-link-step-2
returns-else-link-step-2 c =
    let n = c.args.self.now in
    let sound = c.requires.sound in
    let e : c.index-link.result.now ≡ link_at n.links.items c.args.index = get_or_read n.links.items c.args.index c.index-link.result.now c.requires.link.link c.index-link.ensures _ in
    let inside : c.args.index < length n.flow.items = omega (arith, sound.frame.flow, c.requires.link.link) in
    let fits = flow_fits n c.args.index sound c.requires.link.link in
    no_lead n c.args.index c.args.step.node
    (λ from tight. absurd (c.if-link-step.false (ap (λ l. l.from) e ∙ from)))
    (λ to flows. elim c.else-link-step-2.branch [
      | else-link-step-2-via-then-link-step-2+else-index-gt0 w ↦
          let flow = cast_is w128 w.index.result.now (int_at n.flow.items c.args.index) (get_or_read n.flow.items c.args.index w.index.result.now inside w.index.ensures _) fits in
          let none = rw flow at w.if-index-gt0.false in
          absurd (lt_false _ _ none flows)
      | else-link-step-2-via-else-link-step-2 w ↦ absurd (w.if-link-step-2.false (ap (λ l. l.to) e ∙ to))
    ])
