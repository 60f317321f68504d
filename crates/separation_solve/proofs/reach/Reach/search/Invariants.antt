-- What the loop of `Reach::search` keeps.
use Rattle.std.proofs.Common.{ℕ, ◌<◌, ◌≤◌, ◌-◌, length}
use Rattle.separation_solve.specs.Reach.{AddsLeads, IsReach, TakesFlow, step_at}
use Rattle.separation_solve.proofs.reach.Reach.search.Given as goal

abbrev pub invariant-loop-next : goal.invariant-loop-next
invariant-loop-next l = record {
  reach : IsReach l.network l.start l.self;
  within : l.next ≤ length l.self.steps.items;
  none_takes : (k : ℕ) → k < l.next → TakesFlow l.network (step_at l.self.steps.items k).node → ⊥;
  closed : (k : ℕ) → k < l.next → AddsLeads l.network (step_at l.self.steps.items k).node l.self;
}

abbrev pub decreases-loop-next : goal.decreases-loop-next
decreases-loop-next l = length l.self.found.items - l.next
