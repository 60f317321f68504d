-- The goals of `Network::into_solution` that the check leaves.
use Rattle.std.proofs.Common.{All, pos, ◌≡◌, sym, subst}
use Rattle.separation_solve.specs.declared.network.Network.{Network}
use Rattle.separation_solve.proofs.Ending.{balanced-negated}
use Rattle.separation_solve.proofs.network.Network.into_solution.Goals as goal
use Rattle.separation_solve.proofs.network.Network.into_solution.Goals.{then-self, else-self}

pub solution-requires-clause-balanced : goal.solution-requires-clause-balanced
solution-requires-clause-balanced c =
    elim c.if-self.branch [
      | then-self w ↦ subst (λ (n : Network). All (λ z. z ≡ pos 0) n.excess.items) (sym w.self-is) (balanced-negated c.args.self.excess.items _ w.mirror.ensures.excess c.requires.balanced)
      | else-self w ↦ subst (λ (n : Network). All (λ z. z ≡ pos 0) n.excess.items) (sym w.self-is) c.requires.balanced
    ]
