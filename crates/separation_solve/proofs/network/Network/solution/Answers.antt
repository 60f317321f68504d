-- The goals of `Network::solution` that the check leaves.
use Rattle.std.proofs.Common.{arith, ap, ◌∙◌, to_z-of_z, ◌≡◌, map, take, drop, length}
use Rattle.separation_solve.specs.declared.fraction.Fraction.{Fraction}
use Rattle.separation_solve.proofs.Ending.{flow_long, read_accepted}
use Rattle.separation_solve.proofs.network.Network.solution.Goals as goal

pub split_at-requires-2 : goal.split_at-requires-2
split_at-requires-2 c =
    omega (
      arith,
      flow_long c.args.bundle.now _ c.args.self.now c.requires.sound c.requires.upright c.requires.of_bundle,
      c.split_at.ensures.back_len,
      c.deref-2.ensures.len,
      c.len-2.ensures,
      c.len-3.ensures,
    )

pub returns-clause-accepted : goal.returns-clause-accepted
returns-clause-accepted c =
    let b = c.args.bundle.now in
    let n = c.args.self.now in
    let items : c.len.result ≡ length b.items.items = omega (arith, c.len.ensures, b.items.ok) in
    let again : c.len-3.result ≡ length b.items.items = omega (arith, c.len-3.ensures, b.items.ok) in
    let rules_are : c.len-2.result ≡ length b.rules.items = omega (arith, c.len-2.ensures, b.rules.ok) in
    let few : take c.len.result c.deref.result.now ≡ take (length b.items.items) n.places.items = ap (λ k. take k c.deref.result.now) items ∙ ap (take (length b.items.items)) c.deref.ensures.value in
    read_accepted b _ n _ c.requires.bundle c.requires.gap c.requires.sound c.requires.balanced c.requires.upright c.requires.of_bundle (to_z-of_z c.ranges.gap) (record {
      dens = c.in_ok-denominators_of.ensures ∙ ap (map (λ (p : Fraction). p.den)) few;
      nums = c.in_ok-numerators_of.ensures ∙ ap (map (λ (p : Fraction). p.num)) few;
      rest = c.split_at.result.1.now;
      rest_is = c.split_at.ensures.back ∙ ap (λ k. drop k c.deref-2.result.now) rules_are ∙ ap (drop (length b.rules.items)) c.deref-2.ensures.value;
      mult = c.in_ok-to_vec.ensures.items_if_clones_equal (λ x y e. e) ∙ c.split_at.ensures.front ∙ ap (λ k. take k c.deref-2.result.now) rules_are ∙ ap (take (length b.rules.items)) c.deref-2.ensures.value;
      low = c.in_ok-to_vec-2.ensures.items_if_clones_equal (λ x y e. e) ∙ c.split_at-2.ensures.front ∙ ap (λ k. take k c.split_at.result.1.now) again;
      high = c.in_ok-to_vec-3.ensures.items_if_clones_equal (λ x y e. e) ∙ c.split_at-2.ensures.back ∙ ap (λ k. drop k c.split_at.result.1.now) again;
    })
