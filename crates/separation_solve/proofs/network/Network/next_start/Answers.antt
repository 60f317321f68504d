-- The goals of `Network::next_start` that the check leaves.
use Rattle.std.proofs.Common.{◌≡◌, ◌<◌, pos, ◌≤ℤ◌, ◌<ℤ◌, All, length, arith, sym, ap, ◌∙◌}
use Rattle.std.proofs.lemmas.Option.{MatchOption-at_none}
use Rattle.separation_model.specs.Bundle.{int_at}
use Rattle.separation_solve.specs.Network.{items_of, total_size}
use Rattle.separation_solve.proofs.Networks.Balancing.{all_zero}
use Rattle.separation_solve.proofs.Networks.Mirrored.{total_size-negated}
use Rattle.separation_solve.proofs.Lists.Optional.{match_option, none_is}
use Rattle.separation_solve.proofs.network.Network.next_start.Goals as goal

pub returns-clause-size : goal.returns-clause-size
returns-clause-size c = ap total_size c.mirror.ensures.excess ∙ total_size-negated c.args.self.now.excess.items

pub returns-clause-start : goal.returns-clause-start
returns-clause-start c =
    let n = c.args.self.now in
    let m = c.mirror.new.self in
    let none = MatchOption-at_none (All (λ z. pos 0 ≤ℤ z) n.excess.items) _ (none_is c.first_deficit-start.result (sym c.is_some.ensures ∙ c.if-is_some.false)) c.first_deficit-start.ensures in
    match_option c.first_deficit.result (All (λ z. pos 0 ≤ℤ z) m.excess.items) (All (λ z. z ≡ pos 0) m.excess.items)
    (λ s. (s < length m.excess.items) × (int_at m.excess.items s <ℤ pos 0)) (λ s. (s < items_of m) × (int_at m.excess.items s <ℤ pos 0))
    (all_zero n.excess.items m.excess.items c.mirror.ensures.excess none)
    (λ s _ h. (omega (arith, h.0, c.mirror.ensures.sound.frame.excess), h.1))
    c.first_deficit.ensures
