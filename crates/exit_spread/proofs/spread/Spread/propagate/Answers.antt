-- First the entries, then the checkpoints, then the turns from both sides.
use Rattle.std.proofs.Common.{◌<◌, ◌+◌, ◌*◌, ℕ, length, sym, ap, subst, ◌∙◌, inl, inr, arith}
use Rattle.std.specs.Prelude.{Contains}
use Rattle.std.proofs.lemmas.List.Elements.{All-contains}
use Rattle.std.proofs.lemmas.Option.{get_or_from_slice_get, slice_get_within}
use Rattle.plane_geom.specs.declared.point.Point.{Point}
use Rattle.plane_geom.specs.Point.{opposite}
use Rattle.move_model.specs.Places.{ComesTo}
use Rattle.line_lists.specs.Lists.{number_of}
use Rattle.exit_spread.specs.Propagating.{IsMet, IsMetAt, IsTurnOffered, IsTurnedOff, crosswise}
use Rattle.exit_spread.specs.Searching.{most_stops}
use Rattle.exit_spread.proofs.Holding.Runs.{two_across}
use Rattle.exit_spread.proofs.Spreading.Adding.{adds_both, adds_more, met_on, off_on}
use Rattle.exit_spread.proofs.spread.Spread.propagate.Goals as goal

-- the checkpoint that a walk passes at the point is there
passed_here : (via : _) (j k : ℕ) (q : Point) → j < k → ComesTo via j q k → Contains via q
passed_here via j k q less comes =
    let is = comes.passed j (omega arith) less in
    (j, slice_get_within via j q is, get_or_from_slice_get via j q q is)

pub returns-clause-adds : goal.returns-clause-adds
returns-clause-adds c =
    let p = c.args.problem.now in
    let n = number_of c.args.lists.now in
    let old = c.args.self.now in
    let first = c.meet_entries.new.self in
    let second = c.meet_checkpoints.new.self in
    let third = c.turn_off.new.self in
    let new = c.turn_off-2.new.self in
    let via = length p.task.now.via in
    let most = most_stops c.args.lists.now in
    let few = c.requires.ready.problem.is_task.few in
    adds_more p n old new (0 + 2 * via + most + most) (2 * most + 8) (omega (arith, few))
    (adds_both p n old third new (0 + 2 * via + most) most
    (adds_both p n old second third (0 + 2 * via) most
    (adds_both p n old first second 0 (2 * via) c.meet_entries.ensures.adds c.in_ok-meet_checkpoints.ensures.adds)
    c.in_ok-turn_off.ensures.adds)
    c.in_ok-turn_off-2.ensures.adds)

pub returns-clause-propagated : goal.returns-clause-propagated
returns-clause-propagated c = λ k q b.
    let p = c.args.problem.now in
    let n = number_of c.args.lists.now in
    let r = c.args.run.now in
    let d = r.heading in
    let via = p.task.now.via in
    let most = most_stops c.args.lists.now in
    let second = c.meet_checkpoints.new.self in
    let third = c.turn_off.new.self in
    let new = c.turn_off-2.new.self in
    let one = c.in_ok-turn_off.ensures.adds in
    let two = c.in_ok-turn_off-2.ensures.adds in
    let met : Contains via q → IsMet p n new r k q = λ has.
    met_on p n third new most two r q (met_on p n second third most one r q (All-contains (IsMetAt p n second r) via q c.in_ok-meet_checkpoints.ensures.met has)) k b in
    let this : IsTurnedOff p n new r (crosswise d) = off_on p n third new most two r (crosswise d) (subst (IsTurnedOff p n third r) c.crosswise-before.ensures c.in_ok-turn_off.ensures.turned) in
    let other : IsTurnedOff p n new r (opposite (crosswise d)) = subst (IsTurnedOff p n new r) (c.opposite.ensures ∙ ap opposite c.crosswise-before.ensures) c.in_ok-turn_off-2.ensures.turned in
    record {
      turns = λ h bend held may. elim (two_across h d bend) as (λ _. IsTurnOffered p n new r h k q) [
        | inl same ↦ subst (IsTurnedOff p n new r) (sym same) this k q b held may
        | inr same ↦ subst (IsTurnedOff p n new r) (sym same) other k q b held may
      ];
      tips = λ has. (met has).tip;
      ons = λ j less comes. (met (passed_here via j r.stage q less comes)).on j less comes;
    }
