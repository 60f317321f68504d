-- The subcommands, and the arguments that ask for them.
use Rattle.std.specs.Prelude.{ℕ, ◌==◌, ◌&&◌, ◌||◌, Bool, true, false, not, nat_lt, nat_le, List, [], ◌∷◌, ◌++◌, length, Option, Some, None, is_some, option_map, option_and_then, codes, bytes_eq, if◌then◌else◌}
use Rattle.std.specs.List.{list_any, list_all, before_first, after_first}
use Rattle.std.specs.Char.{is_ascii_digit}
use Rattle.std.specs.Str.Parse.{digits_value}

-- what arguments ask for
pub data Form : Type 0 where
  -- a check of the diagram with this name
  check : List ℕ → Form
  -- the diagram and the script with these names, the number of workers, and whether searches are counted
  route : List ℕ → List ℕ → ℕ → Bool → Form
  -- the replay that is generated from this seed
  make : ℕ → Form
  -- the transactions that the second file proposes for the diagram, and the number of workers
  preview : List ℕ → List ℕ → ℕ → Form
  -- the paths that the routes of the diagram with this name share
  shared : List ℕ → Form
  -- a certificate of the costs of the diagram with this name
  prove : List ℕ → Form
  -- the diagram and the certificate with these names
  audit : List ℕ → List ℕ → Form

-- an argument names a file if it is not empty
abbrev pub names_file : List ℕ → Bool
names_file [] = false
names_file (b ∷ word) = true

-- the number of workers that an argument gives, from 1 to 4
abbrev pub workers_of : List ℕ → Option ℕ
workers_of word =
    if bytes_eq word (codes "1") then Some 1
    else (if bytes_eq word (codes "2") then Some 2
    else (if bytes_eq word (codes "3") then Some 3
    else (if bytes_eq word (codes "4") then Some 4 else None)))

-- an argument is a seed if it consists of 1 to 19 decimal digits
abbrev pub is_seed : List ℕ → Bool
is_seed word = nat_lt 0 (length word) && (nat_le (length word) 19 && list_all is_ascii_digit word)

-- the seed that an argument gives
abbrev pub seed_of : List ℕ → Option ℕ
seed_of word = if is_seed word then Some (digits_value 10 word) else None

-- an argument that begins with a minus (45) and is longer than one byte
abbrev pub is_option : List ℕ → Bool
is_option [] = false
is_option (b ∷ []) = false
is_option (b ∷ c ∷ word) = b == 45

-- what the arguments after the first have given so far
pub record Said : Type 0 where
  -- the arguments that are neither options nor values of them
  pub plain : List (List ℕ)
  -- the values of `--workers`
  pub workers : List (List ℕ)
  -- `--count` was given
  pub count : Bool
  -- `--workers` was given, and its value is the next argument
  pub waits : Bool
  -- `--` was given, and no later argument is an option
  pub ended : Bool

abbrev pub nothing_said : Said
nothing_said = record { plain = []; workers = []; count = false; waits = false; ended = false }

-- with an argument that is not an option
abbrev pub with_plain : Said → List ℕ → Said
with_plain s word =
    if s.waits then record s { workers = s.workers ++ word ∷ []; waits = false }
    else record s { plain = s.plain ++ word ∷ [] }

-- with `--workers`, and its value if it is in the same argument
abbrev pub with_workers : Said → Option (List ℕ) → Said
with_workers s None = record s { waits = true }
with_workers s (Some value) = record s { workers = s.workers ++ value ∷ [] }

-- with `--count`, which has no value and may be given once
abbrev pub with_count : Said → Option (List ℕ) → Option Said
with_count s value = if is_some value || s.count then None else Some (record s { count = true })

-- with the option of this name; a subcommand with options has two
abbrev pub with_named : Bool → Said → List ℕ → Option (List ℕ) → Option Said
with_named false s name value = None
with_named true s name value =
    if bytes_eq (codes "workers") name then Some (with_workers s value)
    else (if bytes_eq (codes "count") name then with_count s value else None)

-- an option's name is the text after its two minuses up to the first `=` (61), and its value is the text after that
abbrev pub option_value : List ℕ → Option (List ℕ)
option_value text = if list_any (λ b. b == 61) text then Some (after_first (λ b. b == 61) text) else None

abbrev pub with_option : Bool → Said → List ℕ → Option Said
with_option has_options s (b ∷ c ∷ text) =
    if c == 45 then with_named has_options s (before_first (λ b. b == 61) text) (option_value text) else None
with_option has_options s word = None

-- with one more argument, unless it is refused: an option is refused where a value is expected, or if it is unknown
abbrev pub with_word : Bool → Said → List ℕ → Option Said
with_word has_options s word =
    if s.ended || not (is_option word) then Some (with_plain s word)
    else (if s.waits then None
    else (if bytes_eq word (codes "--") then Some (record s { ended = true })
    else with_option has_options s word))

-- with all the arguments; at the end no value may be expected
abbrev pub said_after : Bool → Said → List (List ℕ) → Option Said
said_after has_options s [] = if s.waits then None else Some s
said_after has_options s (word ∷ words) = option_and_then (λ next. said_after has_options next words) (with_word has_options s word)

-- the one file that was said, if it is one
abbrev pub file_in : List (List ℕ) → Option (List ℕ)
file_in (file ∷ []) = if names_file file then Some file else None
file_in plain = None

-- the two files that were said, if they are two
abbrev pub files_in : List (List ℕ) → Option (List ℕ × List ℕ)
files_in (first ∷ second ∷ []) = if names_file first && names_file second then Some (first, second) else None
files_in plain = None

-- the number of workers that was asked for, at most once; 1 if none was
abbrev pub workers_said : List (List ℕ) → Option ℕ
workers_said [] = Some 1
workers_said (word ∷ []) = workers_of word
workers_said words = None

-- the subcommand of the arguments after `route`: two files
abbrev pub route_form : List (List ℕ) → Bool → ℕ → Option Form
route_form plain count workers = option_map (λ files. route files.0 files.1 workers count) (files_in plain)

-- the subcommand of the arguments after `preview`: two files, and no `--count`
unfoldable pub preview_form : List (List ℕ) → Bool → ℕ → Option Form
preview_form plain count workers = if count then None else option_map (λ files. preview files.0 files.1 workers) (files_in plain)

-- the subcommand of the argument after `make`: a seed
abbrev pub make_form : List (List ℕ) → Option Form
make_form (word ∷ []) = option_map make (seed_of word)
make_form plain = None

-- the file that the arguments of a subcommand without options name, if it is one
abbrev pub file_said : List (List ℕ) → Option (List ℕ)
file_said words = option_and_then (λ s. file_in s.plain) (said_after false nothing_said words)

-- the two files that they name, if they are two
abbrev pub files_said : List (List ℕ) → Option (List ℕ × List ℕ)
files_said words = option_and_then (λ s. files_in s.plain) (said_after false nothing_said words)

-- the subcommand of arguments with options
abbrev pub form_with : (List (List ℕ) → Bool → ℕ → Option Form) → List (List ℕ) → Option Form
form_with form words = option_and_then (λ s. option_and_then (form s.plain s.count) (workers_said s.workers)) (said_after true nothing_said words)

-- the subcommand with this name and the arguments after it
abbrev pub form_after : List ℕ → List (List ℕ) → Option Form
form_after command words =
    if bytes_eq command (codes "check") then option_map check (file_said words)
    else (if bytes_eq command (codes "route") then form_with route_form words
    else (if bytes_eq command (codes "make") then option_and_then (λ s. make_form s.plain) (said_after false nothing_said words)
    else (if bytes_eq command (codes "preview") then form_with preview_form words
    else (if bytes_eq command (codes "shared") then option_map shared (file_said words)
    else (if bytes_eq command (codes "prove") then option_map prove (file_said words)
    else (if bytes_eq command (codes "audit") then option_map (λ files. audit files.0 files.1) (files_said words)
    else None))))))

-- the subcommand that the arguments ask for, if they are valid
abbrev pub form_of : List (List ℕ) → Option Form
form_of [] = None
form_of (command ∷ words) = form_after command words
