-- Answers at which mutants of this function are refused.
use Rattle.std.proofs.Common.{rules}
use Rattle.form_certificate.proofs.size.too_large.Goals as goal

pub returns-then-pin_count-gt-MOST_PINS : goal.returns-then-pin_count-gt-MOST_PINS
returns-then-pin_count-gt-MOST_PINS c = search rules

pub returns-then-edges-gt-MOST_EDGES : goal.returns-then-edges-gt-MOST_EDGES
returns-then-edges-gt-MOST_EDGES c = search rules

pub returns-then-via_count-gt-MOST_VIAS : goal.returns-then-via_count-gt-MOST_VIAS
returns-then-via_count-gt-MOST_VIAS c = search rules

pub returns-else-via_count-gt-MOST_VIAS : goal.returns-else-via_count-gt-MOST_VIAS
returns-else-via_count-gt-MOST_VIAS c = search rules
