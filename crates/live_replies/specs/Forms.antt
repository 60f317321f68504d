-- The forms of the requests that have words after their name.
use Rattle.std.specs.Prelude.{ℕ, List, [], ◌∷◌, codes, bytes_eq, Option, None, Some, unwrap_or, if◌then◌else◌}
use Rattle.fixed_milli.specs.Steps.{◌>>=◌}
use Rattle.plane_geom.specs.declared.point.Point.{Point}
use Rattle.scene_model.specs.declared.edit.Command.TheVariants.{Bad}
use Rattle.edit_script.specs.Values.{count_of, id_of_word, number_of}
use Rattle.drawing.specs.declared.reconnect.End.{End}
use Rattle.drawing.specs.declared.reconnect.End.TheVariants.{From, To}
use Rattle.live_replies.specs.declared.request.Request.{Request}
use Rattle.live_replies.specs.declared.request.Request.TheVariants.{Do, Reconnect, Check}

-- an end of a connector, by its name
abbrev pub end_of : List ℕ → Option End
end_of word =
    if bytes_eq word (codes "source") then Some From
    else if bytes_eq word (codes "target") then Some To else None

-- EDGE END ID CLASS
abbrev pub reconnect_form : List (List ℕ) → Option Request
reconnect_form (a ∷ b ∷ c ∷ d ∷ []) = do
  number ← count_of a
  end ← end_of b
  id ← id_of_word c
  class ← count_of d
  Some (Reconnect number end id class)
reconnect_form _ = None

-- X Y of each corner
abbrev pub corners_of : List (List ℕ) → Option (List Point)
corners_of [] = Some []
corners_of (a ∷ []) = None
corners_of (a ∷ b ∷ rest) = do
  x ← number_of a
  y ← number_of b
  corners ← corners_of rest
  Some (record { x = x; y = y } ∷ corners)

-- EDGE, and X Y of each corner
abbrev pub check_form : List (List ℕ) → Option Request
check_form [] = None
check_form (a ∷ rest) = do
  number ← count_of a
  corners ← corners_of rest
  Some (Check number corners)

-- the request of a valid form, or no valid line
abbrev pub formed : Option Request → Request
formed request = unwrap_or request (Do Bad)

-- the request with its name and the words after it, if it is one of these
abbrev pub named_request : List (List ℕ) → Option Request
named_request [] = None
named_request (name ∷ args) =
    if bytes_eq name (codes "reconnect") then Some (formed (reconnect_form args))
    else if bytes_eq name (codes "check") then Some (formed (check_form args)) else None
