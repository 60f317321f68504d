-- The solids so far are on the sheet.
use Rattle.std.proofs.Common.{All}
use Rattle.plane_geom.specs.declared.rect.Solid.{Solid}
use Rattle.plane_geom.specs.Rect.{RectIsOnSheet}
use Rattle.search_tests.proofs.verdicts.solids.Given as goal

abbrev pub invariant-loop-of : goal.invariant-loop-of
invariant-loop-of l = All (λ (s : Solid). RectIsOnSheet s.rect) l.all.items
