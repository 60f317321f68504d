-- The sums fit, and what they leave is a budget.
use Rattle.std.proofs.Common.{◌<◌, ◌^◌, ℤ, List, sum_by, unsigned_abs, arith, sym, ap, subst, ◌∙◌, lit<}
use Rattle.separation_solve.proofs.Searches.Sweeping.{budget_is, excess_total, flow_total}
use Rattle.separation_solve.proofs.network.Network.budget.Goals as goal

pub sum_of_sizes-requires : goal.sum_of_sizes-requires
sum_of_sizes-requires c =
    let total = flow_total c.args.self.now c.requires in
    subst (λ (zs : List ℤ). sum_by unsigned_abs zs < 2 ^ 128) (sym c.deref.ensures.value) (omega (arith, total, lit< {m = 78608000000000000000000000000000000000} {n = 2 ^ 128} tt))

pub sum_of_sizes-requires-2 : goal.sum_of_sizes-requires-2
sum_of_sizes-requires-2 c =
    let total = excess_total c.args.self.now c.requires in
    subst (λ (zs : List ℤ). sum_by unsigned_abs zs < 2 ^ 128) (sym c.deref-2.ensures.value) (omega (arith, total, lit< {m = 92480000000000000000000000000} {n = 2 ^ 128} tt))

pub returns : goal.returns
returns c =
    let flow = c.sum_of_sizes.ensures ∙ ap (λ (zs : List ℤ). sum_by unsigned_abs zs) c.deref.ensures.value in
    let excess = c.sum_of_sizes-2.ensures ∙ ap (λ (zs : List ℤ). sum_by unsigned_abs zs) c.deref-2.ensures.value in
    budget_is c.args.self.now c.saturating_sub-2.result c.requires (omega (arith, flow, excess, c.saturating_sub.ensures, c.saturating_sub-2.ensures))
