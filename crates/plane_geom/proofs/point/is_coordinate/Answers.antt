-- Answers at which mutants of this function are refused.
use Rattle.std.proofs.Common.{rules}
use Rattle.plane_geom.proofs.point.is_coordinate.Goals as goal

pub returns-then-z-ge-SHEET_START-clause-test : goal.returns-then-z-ge-SHEET_START-clause-test
returns-then-z-ge-SHEET_START-clause-test c = search rules

pub returns-then-z-ge-SHEET_START-clause-meaning : goal.returns-then-z-ge-SHEET_START-clause-meaning
returns-then-z-ge-SHEET_START-clause-meaning c = search rules
