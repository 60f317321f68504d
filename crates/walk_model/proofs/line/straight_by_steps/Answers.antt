-- By induction over the steps.
use Rattle.std.proofs.Common.{ap, ◌∙◌}
use Rattle.std.proofs.lemmas.List.{take-replicate}
use Rattle.walk_model.specs.Walk.{after}
use Rattle.walk_model.proofs.CornerByCorner.Bends.{bends-stretch, runs-stretch}
use Rattle.walk_model.proofs.CornerByCorner.Lengths.{line_leads}
use Rattle.walk_model.proofs.CornerByCorner.Scan.{after-replicate}
use Rattle.walk_model.proofs.CornerByCorner.Shapes.{lean-stretch}
use Rattle.walk_model.proofs.line.straight_by_steps.Goals as goal

pub returns-clause-end : goal.returns-clause-end
returns-clause-end c = λ p d n. after-replicate p n d

pub returns-clause-points : goal.returns-clause-points
returns-clause-points c = λ p d n k h. ap (after p) (take-replicate k n d h) ∙ after-replicate p k d

pub returns-clause-no_bend : goal.returns-clause-no_bend
returns-clause-no_bend c = bends-stretch

pub returns-clause-one_run : goal.returns-clause-one_run
returns-clause-one_run c = runs-stretch

pub returns-clause-one_lean : goal.returns-clause-one_lean
returns-clause-one_lean c = lean-stretch

pub returns-clause-line_end : goal.returns-clause-line_end
returns-clause-line_end c = line_leads
