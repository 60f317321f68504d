-- The forms of a script's lines, each by its name and the words after it.
use Rattle.std.specs.Prelude.{ℕ, List, [], ◌∷◌, codes, bytes_eq, Option, Some, None, option_map, if◌then◌else◌}
use Rattle.fixed_milli.specs.Steps.{◌>>=◌}
use Rattle.scene_model.specs.declared.edit.Edit.{Edit as SceneEdit}
use Rattle.scene_model.specs.declared.edit.Edit.TheVariants.{AddNode, MoveNode, SizeNode, DropNode, AddPin, DropPin, AddEdge, CutEdge, SetClasses, AddVia, DropVia, Set}
use Rattle.scene_model.specs.declared.edit.Command.{Command}
use Rattle.scene_model.specs.declared.edit.Command.TheVariants.{Begin, Edit, Commit, Abort, Undo, Redo}
use Rattle.scene_model.specs.Letters.{dirs_of}
use Rattle.edit_script.specs.Values.{number_of, id_of_word, count_of, setting_of}

-- ID X Y W H
abbrev pub node_form : List (List ℕ) → Option SceneEdit
node_form (a ∷ b ∷ c ∷ d ∷ e ∷ []) = do
  id ← id_of_word a
  x ← number_of b
  y ← number_of c
  w ← number_of d
  h ← number_of e
  Some (AddNode id x y w h)
node_form _ = None

-- ID X Y
abbrev pub move_form : List (List ℕ) → Option SceneEdit
move_form (a ∷ b ∷ c ∷ []) = do
  id ← id_of_word a
  x ← number_of b
  y ← number_of c
  Some (MoveNode id x y)
move_form _ = None

-- ID W H
abbrev pub size_form : List (List ℕ) → Option SceneEdit
size_form (a ∷ b ∷ c ∷ []) = do
  id ← id_of_word a
  w ← number_of b
  h ← number_of c
  Some (SizeNode id w h)
size_form _ = None

-- ID
abbrev pub drop_form : List (List ℕ) → Option SceneEdit
drop_form (a ∷ []) = do
  id ← id_of_word a
  Some (DropNode id)
drop_form _ = None

-- ID CLASS DX DY DIRS
abbrev pub pin_form : List (List ℕ) → Option SceneEdit
pin_form (a ∷ b ∷ c ∷ d ∷ e ∷ []) = do
  id ← id_of_word a
  class ← count_of b
  dx ← number_of c
  dy ← number_of d
  dirs ← dirs_of e
  Some (AddPin id class dx dy dirs)
pin_form _ = None

-- ID PLACE
abbrev pub unpin_form : List (List ℕ) → Option SceneEdit
unpin_form (a ∷ b ∷ []) = do
  id ← id_of_word a
  place ← count_of b
  Some (DropPin id place)
unpin_form _ = None

-- ID ID CLASS CLASS
abbrev pub edge_form : List (List ℕ) → Option SceneEdit
edge_form (a ∷ b ∷ c ∷ d ∷ []) = do
  from ← id_of_word a
  to ← id_of_word b
  from_class ← count_of c
  to_class ← count_of d
  Some (AddEdge from to from_class to_class)
edge_form _ = None

-- EDGE
abbrev pub cut_form : List (List ℕ) → Option SceneEdit
cut_form (a ∷ []) = do
  number ← count_of a
  Some (CutEdge number)
cut_form _ = None

-- EDGE CLASS CLASS
abbrev pub classes_form : List (List ℕ) → Option SceneEdit
classes_form (a ∷ b ∷ c ∷ []) = do
  number ← count_of a
  from_class ← count_of b
  to_class ← count_of c
  Some (SetClasses number from_class to_class)
classes_form _ = None

-- EDGE PLACE X Y
abbrev pub via_form : List (List ℕ) → Option SceneEdit
via_form (a ∷ b ∷ c ∷ d ∷ []) = do
  number ← count_of a
  place ← count_of b
  x ← number_of c
  y ← number_of d
  Some (AddVia number place x y)
via_form _ = None

-- EDGE PLACE
abbrev pub unvia_form : List (List ℕ) → Option SceneEdit
unvia_form (a ∷ b ∷ []) = do
  number ← count_of a
  place ← count_of b
  Some (DropVia number place)
unvia_form _ = None

-- penalty, buffer or nudge, and NUMBER
abbrev pub set_form : List (List ℕ) → Option SceneEdit
set_form (a ∷ b ∷ []) = do
  what ← setting_of a
  value ← number_of b
  Some (Set what value)
set_form _ = None

-- the edit with this name and the words after it
abbrev pub edit_form : List ℕ → List (List ℕ) → Option SceneEdit
edit_form name args =
    if bytes_eq name (codes "node") then node_form args
    else if bytes_eq name (codes "move") then move_form args
    else if bytes_eq name (codes "size") then size_form args
    else if bytes_eq name (codes "drop") then drop_form args
    else if bytes_eq name (codes "pin") then pin_form args
    else if bytes_eq name (codes "unpin") then unpin_form args
    else if bytes_eq name (codes "edge") then edge_form args
    else if bytes_eq name (codes "cut") then cut_form args
    else if bytes_eq name (codes "classes") then classes_form args
    else if bytes_eq name (codes "via") then via_form args
    else if bytes_eq name (codes "unvia") then unvia_form args
    else if bytes_eq name (codes "set") then set_form args else None

-- the command with this name and no word after it
abbrev pub bare_form : List ℕ → Option Command
bare_form name =
    if bytes_eq name (codes "begin") then Some Begin
    else if bytes_eq name (codes "commit") then Some Commit
    else if bytes_eq name (codes "abort") then Some Abort
    else if bytes_eq name (codes "undo") then Some Undo
    else if bytes_eq name (codes "redo") then Some Redo else None

-- the command with this name and the words after it, if they have a valid form
abbrev pub command_form : List ℕ → List (List ℕ) → Option Command
command_form name [] = bare_form name
command_form name (arg ∷ args) = option_map Edit (edit_form name (arg ∷ args))
