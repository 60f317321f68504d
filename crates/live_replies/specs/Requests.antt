-- What a line of input asks for.
use Rattle.std.specs.Prelude.{⊤, ℕ, ◌+◌, ◌==◌, Bool, List, [], ◌∷◌, take, drop, position, codes, bytes_eq, Option, None, Some, option_map, unwrap_or, if◌then◌else◌}
use Rattle.std.specs.Str.Lines.{strip_carriage_return}
use Rattle.scene_model.specs.declared.edit.Command.{Command}
use Rattle.scene_model.specs.declared.edit.Command.TheVariants.{Bad}
use Rattle.scene_model.specs.World.{IsDirectedCommand}
use Rattle.edit_script.specs.Script.{commands, words}
use Rattle.edit_script.specs.Values.{count_of, id_of_word}
use Rattle.drawing.specs.declared.labels.Labelled.{Labelled}
use Rattle.drawing.specs.declared.labels.Labelled.TheVariants as labelled
use Rattle.live_replies.specs.declared.request.Request.{Request}
use Rattle.live_replies.specs.declared.request.Request.TheVariants.{Nothing, Do, Label, Reconnect, Preview, Lines, Gml, Next, ReadScene, Why, Shared, Crossings, Check, Quit}
use Rattle.live_replies.specs.Forms.{named_request}

-- the first of the commands, or nothing
abbrev pub first_of : List (ℕ × Command) → Request
first_of [] = Nothing
first_of (c ∷ commands) = Do c.1

-- a line of a script: no words and a comment ask for nothing, and what is not a valid command is bad
abbrev pub command_request : List ℕ → Request
command_request line = first_of (commands line)

-- the line is this word, where one carriage return at its end is dropped
abbrev pub is_word : List ℕ → List ℕ → Bool
is_word word line = bytes_eq (strip_carriage_return line) word

-- the line asks for the end
abbrev pub is_quit : List ℕ → Bool
is_quit line = is_word (codes "quit") line

-- the bytes before a place, and those after it; without a place all are before it
abbrev pub before_place : Option ℕ → List ℕ → List ℕ
before_place (Some place) line = take place line
before_place None line = line

abbrev pub after_place : Option ℕ → List ℕ → List ℕ
after_place (Some place) line = drop (place + 1) line
after_place None line = []

-- the bytes before the first space, and those after it
abbrev pub first_word : List ℕ → List ℕ
first_word line = before_place (position (λ b. b == 32) line) line

abbrev pub after_word : List ℕ → List ℕ
after_word line = after_place (position (λ b. b == 32) line) line

-- what a label is for, by the words of its kind and of its id or number
abbrev pub labelled_of : List ℕ → List ℕ → Option Labelled
labelled_of kind word =
    if bytes_eq kind (codes "box") then option_map labelled.Node (id_of_word word)
    else if bytes_eq kind (codes "connector") then option_map labelled.Edge (count_of word)
    else None

abbrev pub labelling : Option Labelled → List ℕ → Request
labelling (Some what) text = Label what text
labelling None text = Do Bad

-- a label: the words of what it is for, and then its text, which is the rest of the line
abbrev pub label_request : List ℕ → Request
label_request line = labelling (labelled_of (first_word line) (first_word (after_word line))) (after_word (after_word line))

-- the line begins with the word `label`
abbrev pub is_label : List ℕ → Bool
is_label line = bytes_eq (first_word (strip_carriage_return line)) (codes "label")

-- what a line asks for
abbrev pub request_of : List ℕ → Request
request_of line =
    if is_word (codes "preview") line then Preview
    else if is_word (codes "lines") line then Lines
    else if is_word (codes "gml") line then Gml
    else if is_word (codes "next") line then Next
    else if is_word (codes "scene") line then ReadScene
    else if is_word (codes "why") line then Why
    else if is_word (codes "shared") line then Shared
    else if is_word (codes "crossings") line then Crossings
    else if is_quit line then Quit
    else if is_label line then label_request (after_word (strip_carriage_return line))
    else unwrap_or (named_request (words line)) (command_request line)

-- each pin that the request adds has a direction
abbrev pub IsDirectedRequest : Request → Type 0
IsDirectedRequest (Do command) = IsDirectedCommand command
IsDirectedRequest Nothing = ⊤
IsDirectedRequest (Label what text) = ⊤
IsDirectedRequest (Reconnect number end id class) = ⊤
IsDirectedRequest Preview = ⊤
IsDirectedRequest Lines = ⊤
IsDirectedRequest Gml = ⊤
IsDirectedRequest Next = ⊤
IsDirectedRequest ReadScene = ⊤
IsDirectedRequest Why = ⊤
IsDirectedRequest Shared = ⊤
IsDirectedRequest Crossings = ⊤
IsDirectedRequest (Check number corners) = ⊤
IsDirectedRequest Quit = ⊤
