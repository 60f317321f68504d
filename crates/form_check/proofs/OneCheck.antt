-- A document and a scene have one check of their lines.
use Rattle.std.proofs.Common.{◌≡◌, Bool, true, false, List, [], ◌∷◌, Option, Some, None, Result, Ok, Err, refl, sym, ap, ◌∙◌}
use Rattle.std.specs.List.{list_any, AllZip}
use Rattle.plane_geom.specs.declared.point.Point.{Point}
use Rattle.gml_text.specs.Tree.{Pairs}
use Rattle.scene_model.specs.declared.edge.Edge.{Edge}
use Rattle.scene_model.specs.Scene.{Scene, is_loop}
use Rattle.scene_model.specs.Routing.{solids, task_of}
use Rattle.route_check.proofs.OneVerdict.Verdicts.{one_verdict}
use Rattle.diagram_read.specs.declared.fault.DiagramFault.{DiagramFault}
use Rattle.diagram_read.specs.Lines.{line_of}
use Rattle.report_text.specs.declared.finding.Finding.{Finding}
use Rattle.report_text.specs.declared.finding.Finding.TheVariants.{Judged}
use Rattle.report_text.specs.declared.finding.EdgeFinding.{EdgeFinding}
use Rattle.report_text.specs.Findings.{finding_lines}
use Rattle.form_check.specs.Checks.{IsFinding, IsFindingOf, IsLineFinding, HaveOneCheck, is_breach}

one_line_finding : (s : Scene) (e : Edge) (r : Result (Option (List Point)) DiagramFault) (f g : Finding) → IsLineFinding s e r f → IsLineFinding s e r g → f ≡ g
one_line_finding s e (Ok None) f g a b = a ∙ sym b
one_line_finding s e (Ok (Some points)) f g a b =
    a.finding ∙ ap Judged (one_verdict (solids s) (task_of s e) points a.task a.verdict b.verdict a.is_verdict b.is_verdict) ∙ sym b.finding
one_line_finding s e (Err fault) f g a b = absurd a

same_finding : (f g : EdgeFinding) → f.edge ≡ g.edge → f.finding ≡ g.finding → f ≡ g
same_finding f g edge finding = λ i. record { edge = edge i; finding = finding i }

one_finding : (tree : Pairs) (s : Scene) (e : Edge) (f g : EdgeFinding) → IsFinding tree s e f → IsFinding tree s e g → f ≡ g
one_finding tree s e f g a b = same_finding f g (a.edge ∙ sym b.edge) (by (is_loop e) a.finding b.finding)
  where
    by : (loop : Bool) → IsFindingOf loop s e (line_of tree e) f.finding → IsFindingOf loop s e (line_of tree e) g.finding
        → f.finding ≡ g.finding
    by true p q = p ∙ sym q
    by false p q = one_line_finding s e (line_of tree e) f.finding g.finding p q

one_list : (tree : Pairs) (s : Scene) (es : List Edge) (fs gs : List EdgeFinding) → AllZip (IsFinding tree s) es fs → AllZip (IsFinding tree s) es gs → fs ≡ gs
one_list tree s [] [] [] a b = refl
one_list tree s [] [] (g ∷ gs) a b = absurd b
one_list tree s [] (f ∷ fs) gs a b = absurd a
one_list tree s (e ∷ es) [] gs a b = absurd a
one_list tree s (e ∷ es) (f ∷ fs) [] a b = absurd b
one_list tree s (e ∷ es) (f ∷ fs) (g ∷ gs) a b =
    let first = one_finding tree s e f g a.0 b.0 in
    let rest = one_list tree s es fs gs a.1 b.1 in
    λ i. first i ∷ rest i

pub one_check : HaveOneCheck
one_check tree s text other breach other_breach p q =
    let same = one_list tree s s.edges p.findings q.findings p.found q.found in
    record {
      same_text = p.is_text ∙ ap finding_lines same ∙ sym q.is_text;
      same_verdict = p.verdict ∙ ap (list_any (λ (f : EdgeFinding). is_breach f.finding)) same ∙ sym q.verdict;
    }
