-- One link of the way at a time: the flow on it rises or falls by the amount.
use Rattle.std.proofs.Common.{Vec, ◌≡◌, ℕ, ◌<◌, ◌<ℤ◌, ℤ, pos, ◌+ℤ◌, ◌-ℤ◌, FitsSigned, Some, None, length, get_or, arith, refl, sym, ap, ◌∙◌, subst, to_z, of_z, to_z-of_z}
use mir.Syntax.{w128}
use Rattle.separation_model.specs.Arena.{Arena}
use Rattle.std.proofs.lemmas.List.{get_or_read}
use Rattle.separation_model.specs.Bundle.{int_at}
use Rattle.separation_solve.specs.declared.network.Link.{Link}
use Rattle.separation_solve.specs.declared.network.Network.{Network}
use Rattle.separation_solve.specs.declared.reach.Reach.{Reach}
use Rattle.separation_solve.specs.declared.reach.Step.{Step}
use Rattle.separation_solve.specs.declared.reach.Via.{Via}
use Rattle.separation_solve.specs.Network.{IsSound, link_at}
use Rattle.separation_solve.specs.Push.{IsSent, KeepsRest}
use Rattle.separation_solve.specs.Reach.{IsAfter, IsReach, start_of, step_at}
use Rattle.separation_solve.proofs.Searches.Sending.{IsSending, amount_size, change_fits, sending_back, sending_forward, sending_none, sending_size, via_at, first_at}
use Rattle.separation_solve.proofs.LightFractions.Spots.{cast_is}
use Rattle.separation_solve.proofs.Lists.Optional.{none_if_not_some}
use Rattle.separation_solve.proofs.network.Network.send.Goals as goal
use Rattle.separation_solve.proofs.network.Network.send.Goals.{In-Some}

-- the step that was read, and its link
via_is : (r : Reach) (k : ℕ) (s : Step) (v : Via) → k < length r.steps.items → s ≡ get_or r.steps.items k s → s.via ≡ Some v → (step_at r.steps.items k).via ≡ Some v
via_is r k s v h e via = ap (λ t. t.via) (sym (get_or_read r.steps.items k s h e _)) ∙ via

link_is : (n now : Network) (j : ℕ) (l : Link) → KeepsRest n now → j < length n.links.items → l ≡ get_or now.links.items j l → l ≡ link_at n.links.items j
link_is n now j l rest h e = get_or_read n.links.items j l h (e ∙ ap (λ (ls : Vec Link Arena). get_or ls.items j l) rest.links) _

pub loop-via-init : goal.loop-via-init
loop-via-init c = rw (to_z-of_z c.ranges.amount) (sending_none c.args.self.now c.args.reach.now c.args.target c.args.amount c.requires.sound c.requires.some c.requires.capacity)

-- what a round knows
record Round (n now : Network) (r : Reach) (target at : ℕ) (a : ℤ) (v : Via) : Type 0 where
  sound : IsSound n
  reach : IsReach n (start_of r) r
  target_in : target < length r.steps.items
  some : pos 0 <ℤ a
  was : IsSending n now r target at a
  via : (step_at r.steps.items at).via ≡ Some v
  at_in : at < length r.steps.items
  flow_in : v.link < length now.flow.items
  fits : FitsSigned w128 (int_at now.flow.items v.link) × FitsSigned w128 (int_at now.flow.items v.link +ℤ a) × FitsSigned w128 (int_at now.flow.items v.link -ℤ a)
  known : (v.parent < at) × IsAfter n v.link (step_at r.steps.items v.parent) (step_at r.steps.items at)

round : (n now : Network) (r : Reach) (target at : ℕ) (a : ℤ) (v : Via) (s : Step) → FitsSigned w128 a → IsSound n → IsReach n (start_of r) r → target < length r.steps.items → pos 0 <ℤ a →
    IsSending n now r target at (to_z w128 (of_z w128 a)) → s ≡ get_or r.steps.items at s → s.via ≡ Some v → Round n now r target at a v
round n now r target at a v s fits sound reach h some sending e via =
    let was = subst (IsSending n now r target at) (to_z-of_z fits) sending in
    let inside : at < length r.steps.items = omega (arith, h, was.before) in
    let is = via_is r at s v inside e via in
    let known = via_at n (start_of r) r at v reach inside is in
    record {
      flow_in = omega (arith, known.1.link, was.sent.links, sound.frame.flow);
      fits = change_fits (int_at now.flow.items v.link) a (sending_size n now (start_of r) r target at a v.link sound reach h some was known.1.link) (amount_size n (start_of r) r at a sound reach inside some was.capacity);
      sound = sound;
      reach = reach;
      target_in = h;
      some = some;
      was = was;
      via = is;
      at_in = inside;
      known = known;
    }

-- what this round knows
round_here : (c : In-Some) → Round c.args.self.now c.loop-via.self c.args.reach.now c.args.target c.loop-via.at c.args.amount c.in-Some.via
round_here c =
    round c.args.self.now c.loop-via.self c.args.reach.now c.args.target c.loop-via.at c.args.amount c.in-Some.via c.index.result.now c.ranges.amount c.requires.sound c.requires.reach c.requires.target c.requires.some c.loop-via.invariant c.index.ensures c.in-Some.is

pub index-link-requires : goal.index-link-requires
index-link-requires c =
    let k = round_here (goal.at.index-link-requires c).In-Some in
    omega (arith, k.known.1.link, ap (λ (ls : Vec Link Arena). length ls.items) k.was.rest.links)

pub index_mut-requires : goal.index_mut-requires
index_mut-requires c =
    let k = round_here (goal.at.index_mut-requires c).In-Some in
    omega (arith, k.known.1.link, k.was.sent.links, k.sound.frame.flow)

pub overflow_sub-index_mut : goal.overflow_sub-index_mut
overflow_sub-index_mut c =
    let k = round_here (goal.at.overflow_sub-index_mut c).In-Some in
    let z = cast_is w128 c.index_mut.result.now _ (get_or_read c.loop-via.self.flow.items c.in-Some.via.link c.index_mut.result.now k.flow_in c.index_mut.ensures.value (pos 0)) k.fits.0 in
    rw (z, to_z-of_z c.ranges.amount) k.fits.2

pub loop-via-smaller-then-link-index : goal.loop-via-smaller-then-link-index
loop-via-smaller-then-link-index c = (round_here (goal.at.loop-via-smaller-then-link-index c).In-Some).known.0

pub loop-via-preserved-then-link-index : goal.loop-via-preserved-then-link-index
loop-via-preserved-then-link-index c =
    let k = round_here (goal.at.loop-via-preserved-then-link-index c).In-Some in
    let n = c.args.self.now in
    let j = c.in-Some.via.link in
    let z = cast_is w128 c.index_mut.result.now _ (get_or_read c.loop-via.self.flow.items j c.index_mut.result.now k.flow_in c.index_mut.ensures.value (pos 0)) k.fits.0 in
    let from : (link_at n.links.items j).from ≡ (step_at c.args.reach.now.steps.items c.loop-via.at).node =
    ap (λ (l : Link). l.from) (sym (link_is n c.loop-via.self j c.index-link.result.now k.was.rest k.known.1.link c.index-link.ensures)) ∙ c.if-link-index.true
    ∙ ap (λ (t : Step). t.node) (get_or_read c.args.reach.now.steps.items c.loop-via.at c.index-in-Some.result.now k.at_in c.index-in-Some.ensures _) in
    rw (z, to_z-of_z c.ranges.amount, to_z-of_z k.fits.2)
    (sending_back n c.loop-via.self _ (start_of c.args.reach.now) c.args.reach.now c.args.target c.loop-via.at c.in-Some.via c.args.amount k.sound k.reach k.target_in k.via k.was k.some from refl
    (record { links = k.was.rest.links; tight = k.was.rest.tight; wants = k.was.rest.wants; weights = k.was.rest.weights; places = k.was.rest.places; mirrored = k.was.rest.mirrored; excess = k.was.rest.excess }))

pub index_mut-requires-else-link-index : goal.index_mut-requires-else-link-index
index_mut-requires-else-link-index c =
    let k = round_here (goal.at.index_mut-requires-else-link-index c).In-Some in
    omega (arith, k.known.1.link, k.was.sent.links, k.sound.frame.flow)

pub overflow_add-index_mut : goal.overflow_add-index_mut
overflow_add-index_mut c =
    let k = round_here (goal.at.overflow_add-index_mut c).In-Some in
    let z = cast_is w128 c.index_mut-else-link-index.result.now _ (get_or_read c.loop-via.self.flow.items c.in-Some.via.link c.index_mut-else-link-index.result.now k.flow_in c.index_mut-else-link-index.ensures.value (pos 0)) k.fits.0 in
    rw (z, to_z-of_z c.ranges.amount) k.fits.1

pub loop-via-smaller : goal.loop-via-smaller
loop-via-smaller c = (round_here (goal.at.loop-via-smaller c).In-Some).known.0

pub loop-via-preserved : goal.loop-via-preserved
loop-via-preserved c =
    let k = round_here (goal.at.loop-via-preserved c).In-Some in
    let n = c.args.self.now in
    let j = c.in-Some.via.link in
    let z = cast_is w128 c.index_mut-else-link-index.result.now _ (get_or_read c.loop-via.self.flow.items j c.index_mut-else-link-index.result.now k.flow_in c.index_mut-else-link-index.ensures.value (pos 0)) k.fits.0 in
    let from : (link_at n.links.items j).from ≡ (step_at c.args.reach.now.steps.items c.loop-via.at).node → ⊥ = λ e.
    c.if-link-index.false (ap (λ (l : Link). l.from) (link_is n c.loop-via.self j c.index-link.result.now k.was.rest k.known.1.link c.index-link.ensures) ∙ e
    ∙ ap (λ (t : Step). t.node) (sym (get_or_read c.args.reach.now.steps.items c.loop-via.at c.index-in-Some.result.now k.at_in c.index-in-Some.ensures _))) in
    rw (z, to_z-of_z c.ranges.amount, to_z-of_z k.fits.1)
    (sending_forward n c.loop-via.self _ (start_of c.args.reach.now) c.args.reach.now c.args.target c.loop-via.at c.in-Some.via c.args.amount k.sound k.reach k.target_in k.via k.was k.some from refl
    (record { links = k.was.rest.links; tight = k.was.rest.tight; wants = k.was.rest.wants; weights = k.was.rest.weights; places = k.was.rest.places; mirrored = k.was.rest.mirrored; excess = k.was.rest.excess }))

pub returns-clause-sent : goal.returns-clause-sent
returns-clause-sent c =
    let n = c.args.self.now in
    let r = c.args.reach.now in
    let was = subst (IsSending n c.loop-via.self r c.args.target c.loop-via.at) (to_z-of_z c.ranges.amount) c.loop-via.invariant in
    let inside : c.loop-via.at < length r.steps.items = omega (arith, c.requires.target, was.before) in
    let none : (step_at r.steps.items c.loop-via.at).via ≡ None = ap (λ (t : Step). t.via) (sym (get_or_read r.steps.items c.loop-via.at c.index.result.now inside c.index.ensures _)) ∙ none_if_not_some _ c.in_default.not-Some in
    subst (λ m. IsSent n r c.args.target m c.args.amount c.loop-via.self.flow.items) (first_at n (start_of r) r c.loop-via.at c.requires.reach inside none) was.sent
