-- What the loop of `Reach::extend` keeps.
use Rattle.std.proofs.Common.{ℕ, ◌<◌, get_or, IsSome}
use Rattle.separation_solve.specs.Reach.{IsLead, IsReach, KeepsSteps, found_at, start_of}
use Rattle.separation_solve.proofs.reach.Reach.extend.Given as goal

abbrev pub invariant-loop-link : goal.invariant-loop-link
invariant-loop-link l = record {
  reach : IsReach l.network (start_of l.fn.self) l.self;
  keeps : KeepsSteps l.fn.self l.self;
  adds : (i b : ℕ) → i < l.link-index → IsLead l.network (get_or l.link-items i 0) l.step.node b → IsSome (found_at l.self.found.items b);
}
