-- The effect of removing lines from an arena. No public clause cites this module.
use Rattle.std.specs.Prelude.{◌≡◌, ◌↔◌, ◌+◌, List, Contains}
use Rattle.std.specs.FinMap.{len}
use Rattle.plane_geom.specs.declared.floor.Line.{Line}
use Rattle.line_arena.specs.Arena.{Arena}
use Rattle.line_arena.specs.Stands.{HasLine, IsComplete}

-- the lines were removed with all their crossings, and their places are free
pub record AreTaken (old new : Arena) (lines : List Line) : Type 0 where
  pub stands : (l : Line) → HasLine new l ↔ (HasLine old l × (Contains lines l → ⊥))
  pub complete : IsComplete new
  pub written : new.written ≡ old.written
  pub line_places : len new.lines + new.spare_lines ≡ len old.lines + old.spare_lines
  pub crossing_places : len new.crossings + new.spare_crossings ≡ len old.crossings + old.spare_crossings
