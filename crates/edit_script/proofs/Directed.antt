-- Each pin that a script adds has a direction.
use Rattle.std.proofs.Common.{◌≡◌, ℕ, suc, Bool, true, false, cond, List, [], ◌∷◌, Option, Some, None, refl}
use Rattle.std.specs.Prelude.{codes, option_and_then, option_map, unwrap_or, bytes_eq}
use Rattle.std.specs.List.{AllByRecursion}
use Rattle.scene_model.specs.declared.edit.Edit.{Edit as SceneEdit}
use Rattle.scene_model.specs.declared.edit.Command.{Command}
use Rattle.scene_model.specs.declared.edit.Command.TheVariants.{Edit, Bad}
use Rattle.scene_model.specs.Letters.{dirs_of}
use Rattle.scene_model.specs.Edits.{IsDirected}
use Rattle.scene_model.specs.World.{IsDirectedCommand}
use Rattle.edit_script.specs.Values.{number_of, id_of_word, count_of, setting_of}
use Rattle.edit_script.specs.Forms.{node_form, move_form, size_form, drop_form, pin_form, unpin_form, edge_form, cut_form, classes_form, via_form, unvia_form, set_form, edit_form, bare_form, command_form}
use Rattle.edit_script.specs.Script.{words, is_comment, command_of, numbered, commands_from, lines, HaveDirections}
use Rattle.scene_model.proofs.Directions.{dirs_lead}

-- the pin of an edit, if there is one, has a direction
abbrev Directed : Option SceneEdit → Type 0
Directed None = Unit {0}
Directed (Some e) = IsDirected e

bound : {A : Type 0} (o : Option A) (f : A → Option SceneEdit) → ((a : A) → o ≡ Some a → Directed (f a)) → Directed (option_and_then f o)
bound None f h = tt
bound (Some a) f h = h a refl

node_directed : (args : List (List ℕ)) → Directed (node_form args)
node_directed (a ∷ b ∷ c ∷ d ∷ e ∷ []) = bound (id_of_word a) _ (λ v h. bound (number_of b) _ (λ w i. bound (number_of c) _ (λ x j. bound (number_of d) _ (λ y k. bound (number_of e) _ (λ z m. tt)))))
node_directed _ = tt

move_directed : (args : List (List ℕ)) → Directed (move_form args)
move_directed (a ∷ b ∷ c ∷ []) = bound (id_of_word a) _ (λ v h. bound (number_of b) _ (λ w i. bound (number_of c) _ (λ x j. tt)))
move_directed _ = tt

size_directed : (args : List (List ℕ)) → Directed (size_form args)
size_directed (a ∷ b ∷ c ∷ []) = bound (id_of_word a) _ (λ v h. bound (number_of b) _ (λ w i. bound (number_of c) _ (λ x j. tt)))
size_directed _ = tt

drop_directed : (args : List (List ℕ)) → Directed (drop_form args)
drop_directed (a ∷ []) = bound (id_of_word a) _ (λ v h. tt)
drop_directed _ = tt

pin_directed : (args : List (List ℕ)) → Directed (pin_form args)
pin_directed (a ∷ b ∷ c ∷ d ∷ e ∷ []) = bound (id_of_word a) _ (λ v h. bound (count_of b) _ (λ w i. bound (number_of c) _ (λ x j. bound (number_of d) _ (λ y k. bound (dirs_of e) _ (λ z m. dirs_lead e z m)))))
pin_directed _ = tt

unpin_directed : (args : List (List ℕ)) → Directed (unpin_form args)
unpin_directed (a ∷ b ∷ []) = bound (id_of_word a) _ (λ v h. bound (count_of b) _ (λ w i. tt))
unpin_directed _ = tt

edge_directed : (args : List (List ℕ)) → Directed (edge_form args)
edge_directed (a ∷ b ∷ c ∷ d ∷ []) = bound (id_of_word a) _ (λ v h. bound (id_of_word b) _ (λ w i. bound (count_of c) _ (λ x j. bound (count_of d) _ (λ y k. tt))))
edge_directed _ = tt

cut_directed : (args : List (List ℕ)) → Directed (cut_form args)
cut_directed (a ∷ []) = bound (count_of a) _ (λ v h. tt)
cut_directed _ = tt

classes_directed : (args : List (List ℕ)) → Directed (classes_form args)
classes_directed (a ∷ b ∷ c ∷ []) = bound (count_of a) _ (λ v h. bound (count_of b) _ (λ w i. bound (count_of c) _ (λ x j. tt)))
classes_directed _ = tt

via_directed : (args : List (List ℕ)) → Directed (via_form args)
via_directed (a ∷ b ∷ c ∷ d ∷ []) = bound (count_of a) _ (λ v h. bound (count_of b) _ (λ w i. bound (number_of c) _ (λ x j. bound (number_of d) _ (λ y k. tt))))
via_directed _ = tt

unvia_directed : (args : List (List ℕ)) → Directed (unvia_form args)
unvia_directed (a ∷ b ∷ []) = bound (count_of a) _ (λ v h. bound (count_of b) _ (λ w i. tt))
unvia_directed _ = tt

set_directed : (args : List (List ℕ)) → Directed (set_form args)
set_directed (a ∷ b ∷ []) = bound (setting_of a) _ (λ v h. bound (number_of b) _ (λ w i. tt))
set_directed _ = tt

chosen : (b : Bool) (x y : Option SceneEdit) → Directed x → Directed y → Directed (cond b x y)
chosen true x y p q = p
chosen false x y p q = q

edit_directed : (name : List ℕ) (args : List (List ℕ)) → Directed (edit_form name args)
edit_directed name args =
    chosen (bytes_eq name (codes "node")) _ _ (node_directed args) (
    chosen (bytes_eq name (codes "move")) _ _ (move_directed args) (
    chosen (bytes_eq name (codes "size")) _ _ (size_directed args) (
    chosen (bytes_eq name (codes "drop")) _ _ (drop_directed args) (
    chosen (bytes_eq name (codes "pin")) _ _ (pin_directed args) (
    chosen (bytes_eq name (codes "unpin")) _ _ (unpin_directed args) (
    chosen (bytes_eq name (codes "edge")) _ _ (edge_directed args) (
    chosen (bytes_eq name (codes "cut")) _ _ (cut_directed args) (
    chosen (bytes_eq name (codes "classes")) _ _ (classes_directed args) (
    chosen (bytes_eq name (codes "via")) _ _ (via_directed args) (
    chosen (bytes_eq name (codes "unvia")) _ _ (unvia_directed args) (
    chosen (bytes_eq name (codes "set")) _ _ (set_directed args) tt)))))))))))

-- the pin of a command
abbrev DirectedCommand : Option Command → Type 0
DirectedCommand None = Unit {0}
DirectedCommand (Some c) = IsDirectedCommand c

chosen_command : (b : Bool) (x y : Option Command) → DirectedCommand x → DirectedCommand y → DirectedCommand (cond b x y)
chosen_command true x y p q = p
chosen_command false x y p q = q

bare_directed : (name : List ℕ) → DirectedCommand (bare_form name)
bare_directed name =
    chosen_command (bytes_eq name (codes "begin")) _ _ tt (
    chosen_command (bytes_eq name (codes "commit")) _ _ tt (
    chosen_command (bytes_eq name (codes "abort")) _ _ tt (
    chosen_command (bytes_eq name (codes "undo")) _ _ tt (
    chosen_command (bytes_eq name (codes "redo")) _ _ tt tt))))

edit_command : (o : Option SceneEdit) → Directed o → DirectedCommand (option_map Edit o)
edit_command None p = tt
edit_command (Some e) p = p

form_directed : (name : List ℕ) (args : List (List ℕ)) → DirectedCommand (command_form name args)
form_directed name [] = bare_directed name
form_directed name (a ∷ args) = edit_command (edit_form name (a ∷ args)) (edit_directed name (a ∷ args))

or_bad : (o : Option Command) → DirectedCommand o → IsDirectedCommand (unwrap_or o Bad)
or_bad None p = tt
or_bad (Some c) p = p

command_directed : (ws : List (List ℕ)) → DirectedCommand (command_of ws)
command_directed [] = tt
command_directed (name ∷ args) = chosen_command (is_comment name) None _ tt (or_bad (command_form name args) (form_directed name args))

abbrev AreDirected : List (ℕ × Command) → Type 0
AreDirected cs = AllByRecursion (λ c. IsDirectedCommand c.1) cs

numbered_directed : (number : ℕ) (o : Option Command) (rest : List (ℕ × Command)) → DirectedCommand o → AreDirected rest → AreDirected (numbered number o rest)
numbered_directed number None rest p q = q
numbered_directed number (Some c) rest p q = (p, q)

from_directed : (number : ℕ) (ls : List (List ℕ)) → AreDirected (commands_from number ls)
from_directed number [] = tt
from_directed number (line ∷ ls) = numbered_directed number (command_of (words line)) _ (command_directed (words line)) (from_directed (suc number) ls)

pub have_directions : HaveDirections
have_directions bytes = from_directed 1 (lines bytes)
