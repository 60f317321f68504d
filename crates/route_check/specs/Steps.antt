-- Ranges of steps. No public clause cites this module.
use Rattle.std.specs.Prelude.{ℕ, ◌<◌, ◌≤◌}
use Rattle.route_check.specs.declared.steps.Steps.{Steps}

-- step k is one of these
abbrev pub IsAmong : Steps → ℕ → Type 0
IsAmong steps k = (steps.begin ≤ k) × (k < steps.end)
