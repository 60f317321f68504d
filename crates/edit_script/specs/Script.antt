-- The commands of a script.
use Rattle.std.specs.Prelude.{ℕ, suc, ◌≤◌, ◌==◌, ◌||◌, Bool, false, not, List, [], ◌∷◌, length, filter, Option, None, Some, unwrap_or, if◌then◌else◌}
use Rattle.std.specs.List.{slice_split, AllByRecursion}
use Rattle.std.specs.Str.Lines.{strip_carriage_return}
use Rattle.scene_model.specs.declared.edit.Command.{Command}
use Rattle.scene_model.specs.declared.edit.Command.TheVariants.{Bad}
use Rattle.scene_model.specs.World.{IsDirectedCommand}
use Rattle.edit_script.specs.Forms.{command_form}

-- words are separated by spaces and tabs
abbrev pub is_blank : ℕ → Bool
is_blank b = b == 32 || b == 9

-- the words of a line, without a carriage return at its end
abbrev pub words : List ℕ → List (List ℕ)
words line = filter (λ w. not (length w == 0)) (slice_split is_blank (strip_carriage_return line))

-- a comment begins with `#`
abbrev pub is_comment : List ℕ → Bool
is_comment [] = false
is_comment (b ∷ bs) = b == 35

-- the command of the words of a line: none for no words and for a comment, and `Bad` for what is not valid
abbrev pub command_of : List (List ℕ) → Option Command
command_of [] = None
command_of (name ∷ args) = if is_comment name then None else Some (unwrap_or (command_form name args) Bad)

-- a command with the number of its line, if there is one
abbrev pub numbered : ℕ → Option Command → List (ℕ × Command) → List (ℕ × Command)
numbered number None rest = rest
numbered number (Some command) rest = (number, command) ∷ rest

-- the commands of the lines, which are counted from this number on
abbrev pub commands_from : ℕ → List (List ℕ) → List (ℕ × Command)
commands_from number [] = []
commands_from number (line ∷ lines) = numbered number (command_of (words line)) (commands_from (suc number) lines)

-- the lines of a script, each of which ends at a line feed or the end
abbrev pub lines : List ℕ → List (List ℕ)
lines bytes = slice_split (λ b. b == 10) bytes

-- the commands of a script, each with the number of its line, from 1
abbrev pub commands : List ℕ → List (ℕ × Command)
commands bytes = commands_from 1 (lines bytes)

-- the law: each pin that a script adds has a direction
abbrev pub HaveDirections : Type 0
HaveDirections = (bytes : List ℕ) → AllByRecursion (λ c. IsDirectedCommand c.1) (commands bytes)

-- the numbers begin with this one or later, and each is greater than the one before
abbrev pub RiseFrom : ℕ → List (ℕ × Command) → Type 0
RiseFrom number [] = Unit {0}
RiseFrom number (c ∷ cs) = (number ≤ c.0) × RiseFrom (suc c.0) cs

-- the law: each line has at most one command, and they are in the order of the lines
abbrev pub NumbersRise : Type 0
NumbersRise = (bytes : List ℕ) → RiseFrom 1 (commands bytes)
