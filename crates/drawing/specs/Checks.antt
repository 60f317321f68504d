-- The verdict on a line that is given for a connector of the present scene.
use Rattle.std.specs.Prelude.{◌≡◌, ℕ, ◌+◌, ◌*◌, ◌&&◌, Bool, not, nat_lt, List, [], ◌∷◌, length, position, Option, None, Some, option_map, Result, Ok, Err}
use Rattle.plane_geom.specs.declared.point.Point.{Point}
use Rattle.plane_geom.specs.Point.{is_coordinate}
use Rattle.scene_model.specs.declared.edge.Edge.{Edge}
use Rattle.scene_model.specs.declared.fault.SceneFault.{SceneFault}
use Rattle.scene_model.specs.declared.fault.SceneFault.TheVariants.{SameNode, OutOfRange, TooMany, Memory}
use Rattle.scene_model.specs.Edits.{at_edge, first_some, unknown_edge, when}
use Rattle.scene_model.specs.Routing.{solids, task_of}
use Rattle.scene_model.specs.Scene.{Scene, edge_with, is_loop}
use Rattle.route_check.specs.declared.verdict.Breach.{Breach}
use Rattle.route_check.specs.Verdict.{IsVerdict}

-- the corner does not lie on the sheet
abbrev pub is_off_sheet : Point → Bool
is_off_sheet p = not (is_coordinate p.x && is_coordinate p.y)

-- why a line is not judged, or none: no connector has the number, it is a loop, or the corners are too many, or one, by its first word, is off the sheet
abbrev pub unjudged : Scene → ℕ → List Point → Option SceneFault
unjudged s number corners = first_some (
    unknown_edge s number
    ∷ at_edge s number (λ e. when (is_loop e) (SameNode e.from))
    ∷ when (nat_lt 40000000 (length corners)) (TooMany 40000000)
    ∷ option_map (λ place. OutOfRange (2 * place + 3)) (position is_off_sheet corners) ∷ [])

-- the verdict on the line, for the task of the connector
pub record IsLineJudged (s : Scene) (number : ℕ) (corners : List Point) (verdict : Result ℕ Breach) : Type 0 where
  pub edge : Edge
  pub is_edge : edge_with s number ≡ Some edge
  pub is_verdict : IsVerdict (solids s) (task_of s edge) corners verdict

-- the line is judged, or there is this reason why not, or no memory is left
abbrev pub IsChecked : Scene → ℕ → List Point → Result (Result ℕ Breach) SceneFault → Type 0
IsChecked s number corners (Ok verdict) = IsLineJudged s number corners verdict
IsChecked s number corners (Err Memory) = Unit {0}
IsChecked s number corners (Err fault) = unjudged s number corners ≡ Some fault
