-- Bundles made of plain numbers.
use Rattle.std.specs.Prelude.{Bool}
use Rattle.separation_model.specs.declared.bundle.Rule.{Rule}

-- the rule of two items that the first stays before the second
abbrev pub first_before_second : Bool → Rule
first_before_second spaced = record { left = 0; right = 1; spaced = spaced }
