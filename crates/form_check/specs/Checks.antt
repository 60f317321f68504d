-- What a check of the lines of a diagram finds and writes.
use Rattle.std.specs.Prelude.{◌≡◌, ℕ, Bool, true, false, if◌then◌else◌, List, [], ◌∷◌, Option, Some, None, Result, Ok, Err}
use Rattle.std.specs.Option.{option_or}
use Rattle.std.specs.Result.{result_err}
use Rattle.std.specs.List.{list_any, AllZip}
use Rattle.plane_geom.specs.declared.point.Point.{Point}
use Rattle.gml_text.specs.Tree.{Pairs}
use Rattle.scene_model.specs.declared.edge.Edge.{Edge}
use Rattle.scene_model.specs.Scene.{Scene, is_loop}
use Rattle.scene_model.specs.Routing.{solids, task_of}
use Rattle.walk_model.specs.Legal.{IsTask}
use Rattle.route_check.specs.declared.verdict.Breach.{Breach}
use Rattle.route_check.specs.Verdict.{IsVerdict}
use Rattle.diagram_read.specs.declared.fault.DiagramFault.{DiagramFault}
use Rattle.diagram_read.specs.declared.fault.DiagramFault.TheVariants as faults
use Rattle.diagram_read.specs.Lines.{line_of}
use Rattle.report_text.specs.declared.finding.Finding.{Finding}
use Rattle.report_text.specs.declared.finding.Finding.TheVariants.{Loop, NoLine, Judged}
use Rattle.report_text.specs.declared.finding.EdgeFinding.{EdgeFinding}
use Rattle.report_text.specs.Findings.{finding_lines}
use Rattle.report_text.specs.Faults.{fault_line}
use Rattle.report_text.specs.Outcome.{Outcome, unsearched}
use Rattle.report_text.specs.declared.status.Status.{Status}
use Rattle.report_text.specs.declared.status.Status.TheVariants.{Diagram, BadLine, Done}

-- the fault of an edge's line, if it has one; the line of a loop is not read
abbrev pub line_fault : Pairs → Edge → Option DiagramFault
line_fault tree e = if is_loop e then None else result_err (line_of tree e)

-- the first of these faults
abbrev pub first_line_fault : Pairs → List Edge → Option DiagramFault
first_line_fault tree [] = None
first_line_fault tree (e ∷ es) = option_or (line_fault tree e) (first_line_fault tree es)

-- the result for a line of a connector: the verdict on it, for the task of the connector, if it can be judged
pub record IsEdgeJudged (s : Scene) (e : Edge) (points : List Point) (f : Finding) : Type 0 where
  pub verdict : Result ℕ Breach
  pub task : IsTask (task_of s e)
  pub is_verdict : IsVerdict (solids s) (task_of s e) points verdict
  pub finding : f ≡ Judged verdict

-- the result for a connector with this reading of its line
abbrev pub IsLineFinding : Scene → Edge → Result (Option (List Point)) DiagramFault → Finding → Type 0
IsLineFinding s e (Ok None) finding = finding ≡ NoLine
IsLineFinding s e (Ok (Some points)) finding = IsEdgeJudged s e points finding
IsLineFinding s e (Err fault) finding = ⊥

-- the result for an edge that is a loop or not, and with this reading of its line
abbrev pub IsFindingOf : Bool → Scene → Edge → Result (Option (List Point)) DiagramFault → Finding → Type 0
IsFindingOf true s e line finding = finding ≡ Loop
IsFindingOf false s e line finding = IsLineFinding s e line finding

-- the result for an edge
pub record IsFinding (tree : Pairs) (s : Scene) (e : Edge) (f : EdgeFinding) : Type 0 where
  pub edge : f.edge ≡ e.number
  pub finding : IsFindingOf (is_loop e) s e (line_of tree e) f.finding

-- the line breaks a rule
abbrev pub is_breach : Finding → Bool
is_breach Loop = false
is_breach NoLine = false
is_breach (Judged (Ok cost)) = false
is_breach (Judged (Err breach)) = true

-- there is one line of text for each edge, in order, and this says whether the line of an edge breaks a rule
pub record ChecksLines (tree : Pairs) (s : Scene) (text : List ℕ) (breach : Bool) : Type 0 where
  pub findings : List EdgeFinding
  pub found : AllZip (IsFinding tree s) s.edges findings
  pub is_text : text ≡ finding_lines findings
  pub verdict : breach ≡ list_any (λ f. is_breach f.finding) findings

-- how a check ends in which a line breaks a rule, or none
abbrev pub check_status : Bool → Status
check_status true = BadLine
check_status false = Done

-- there is one line for each edge, in order
pub record SaysFindings (tree : Pairs) (s : Scene) (o : Outcome) : Type 0 where
  pub text : List ℕ
  pub breach : Bool
  pub checks : ChecksLines tree s text breach
  pub outcome : o ≡ unsearched (check_status breach) text

-- the outcome if the lines have this first fault, if they have one
abbrev pub ChecksUnless : Pairs → Scene → Option DiagramFault → Outcome → Type 0
ChecksUnless tree s None o = SaysFindings tree s o
ChecksUnless tree s (Some fault) o = o ≡ unsearched Diagram (fault_line fault)

-- the outcome of a check of the diagram
abbrev pub Checks : Pairs → Scene → Outcome → Type 0
Checks tree s = ChecksUnless tree s (first_line_fault tree s.edges)

-- the fault is the first of the lines, or out of memory, on which the lines have no influence
abbrev pub IsLineFault : Option DiagramFault → DiagramFault → Type 0
IsLineFault first faults.Memory = Unit {0}
IsLineFault first fault = first ≡ Some fault

-- two checks have the same text and the same verdict
pub record IsSameCheck (text other : List ℕ) (breach other_breach : Bool) : Type 0 where
  pub same_text : text ≡ other
  pub same_verdict : breach ≡ other_breach

-- the law: the lines of a document and a scene have one check
abbrev pub HaveOneCheck : Type 0
HaveOneCheck =
    (tree : Pairs) (s : Scene) (text other : List ℕ) (breach other_breach : Bool) → ChecksLines tree s text breach → ChecksLines tree s other other_breach
    → IsSameCheck text other breach other_breach
