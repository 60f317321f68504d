-- The equal steps at the ends of a walk. No public clause cites this module.
use Rattle.std.specs.Prelude.{ℕ, ◌≡◌, ◌-◌, ◌<◌, ◌≤◌, length}
use Rattle.walk_model.specs.Walk.{Walk, step_at}
use Rattle.route_check.specs.declared.run.Run.{Run}

-- exactly these steps of one direction begin the walk; there is none only if the walk has no step
pub record IsFirstRun (w : Walk) (run : Run) : Type 0 where
  pub within : run.length ≤ length w.steps
  pub some : 0 < length w.steps → 0 < run.length
  pub straight : (k : ℕ) → k < run.length → step_at w k ≡ run.heading
  pub whole : run.length < length w.steps → step_at w run.length ≡ run.heading → ⊥

-- exactly these steps of one direction end the first n steps of the walk; there is none only if n is 0
pub record IsLastRun (w : Walk) (n : ℕ) (run : Run) : Type 0 where
  pub within : run.length ≤ n
  pub some : 0 < n → 0 < run.length
  pub straight : (k : ℕ) → n - run.length ≤ k → k < n → step_at w k ≡ run.heading
  pub whole : run.length < n → step_at w (n - run.length - 1) ≡ run.heading → ⊥
