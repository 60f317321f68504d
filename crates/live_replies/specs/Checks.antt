-- What is said of the present scene: the paths that routes share, crossings, and the verdict on a line that is given.
use Rattle.std.specs.Prelude.{◌≡◌, ℕ, List, [], ◌∷◌, ◌++◌, Result, Ok, Err}
use Rattle.plane_geom.specs.declared.point.Point.{Point}
use Rattle.shared_paths.specs.declared.path.SharedPath.{SharedPath}
use Rattle.shared_paths.specs.Listed.{AreSharedPaths}
use Rattle.route_check.specs.declared.verdict.Breach.{Breach}
use Rattle.scene_model.specs.declared.fault.SceneFault.{SceneFault}
use Rattle.scene_model.specs.declared.fault.SceneFault.TheVariants.{Memory}
use Rattle.scene_model.specs.declared.fault.SessionFault.TheVariants.{Edit}
use Rattle.session_model.specs.State.{State}
use Rattle.route_session.specs.Shares.{CountsCrossings, raw_runs}
use Rattle.report_text.specs.declared.finding.EdgeFinding.{EdgeFinding}
use Rattle.report_text.specs.declared.finding.Finding.TheVariants.{Judged}
use Rattle.report_text.specs.declared.refusal.Refusal.TheVariants.{Command}
use Rattle.report_text.specs.Findings.{finding_lines}
use Rattle.report_text.specs.Shared.{crossings_line, shared_lines}
use Rattle.drawing.specs.Checks.{IsChecked}
use Rattle.live_replies.specs.Texts.{ok_line, refused_line}

-- the paths that the routes of the present scene share, before nudging
abbrev pub SaysShared : State → List ℕ → Type 0
SaysShared s said = (paths : List SharedPath) × AreSharedPaths (raw_runs s.book) paths × (said ≡ shared_lines paths ++ ok_line)

-- how often the nudged lines of the present scene cross
abbrev pub SaysCrossings : State → List ℕ → Type 0
SaysCrossings s said = (crossings : ℕ) × CountsCrossings s.world.present s.book crossings × (said ≡ crossings_line crossings ++ ok_line)

-- the verdict on a line for the connector
abbrev pub verdict_of : ℕ → Result ℕ Breach → EdgeFinding
verdict_of number verdict = record { edge = number; finding = Judged verdict }

-- the verdict, or why there is none
abbrev pub ReportsVerdict : ℕ → Result (Result ℕ Breach) SceneFault → List ℕ → Type 0
ReportsVerdict number (Ok verdict) said = said ≡ finding_lines (verdict_of number verdict ∷ []) ++ ok_line
ReportsVerdict number (Err Memory) said = ⊥
ReportsVerdict number (Err fault) said = said ≡ refused_line (Command (Edit fault))

-- the verdict on a line through these corners, for the connector of the present scene
abbrev pub SaysVerdict : ℕ → List Point → State → List ℕ → Type 0
SaysVerdict number corners s said =
    (answer : Result (Result ℕ Breach) SceneFault) × IsChecked s.world.present number corners answer × ReportsVerdict number answer said
