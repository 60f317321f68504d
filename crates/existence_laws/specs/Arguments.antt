-- What arguments ask for, said of the parts that they consist of.
use Rattle.std.specs.Prelude.{◌≡◌, ◌↔◌, ℕ, Bool, true, false, List, [], ◌∷◌, ◌++◌, length, filter, Option, Some, None, codes, unwrap_or, if◌then◌else◌}
use Rattle.std.specs.List.{AllByRecursion, filter_map, flat_map}
use Rattle.command_words.specs.Words.{Form, check, route, make, preview, shared, prove, audit, form_of, is_option, names_file, seed_of, workers_said}

-- what stands after a subcommand: an argument that is no option, `--workers=N`, `--workers N`, or `--count`
pub data Part : Type 0 where
  plain : List ℕ → Part
  joined : List ℕ → Part
  parted : List ℕ → Part
  counting : Part

-- the arguments of a part
abbrev pub words_in : Part → List (List ℕ)
words_in (plain word) = word ∷ []
words_in (joined value) = (codes "--workers=" ++ value) ∷ []
words_in (parted value) = codes "--workers" ∷ value ∷ []
words_in counting = codes "--count" ∷ []

-- no plain argument, and no value of its own, looks like an option
abbrev pub IsPart : Part → Type 0
IsPart (plain word) = is_option word ≡ false
IsPart (joined value) = Unit {0}
IsPart (parted value) = is_option value ≡ false
IsPart counting = Unit {0}

abbrev pub plain_of : Part → Option (List ℕ)
plain_of (plain word) = Some word
plain_of (joined value) = None
plain_of (parted value) = None
plain_of counting = None

-- the value of `--workers`
abbrev pub value_of : Part → Option (List ℕ)
value_of (plain word) = None
value_of (joined value) = Some value
value_of (parted value) = Some value
value_of counting = None

abbrev pub is_counting : Part → Bool
is_counting (plain word) = false
is_counting (joined value) = false
is_counting (parted value) = false
is_counting counting = true

-- `--`, if it stands there, and the arguments after it
abbrev pub after_end : Option (List (List ℕ)) → List (List ℕ)
after_end None = []
after_end (Some words) = codes "--" ∷ words

-- the arguments are these parts, and then those after `--`
pub record Consist (words : List (List ℕ)) (parts : List Part) (after : Option (List (List ℕ))) : Type 0 where
  pub spelled : words ≡ flat_map words_in parts ++ after_end after
  pub each : AllByRecursion IsPart parts

-- the arguments that are no options: the plain ones, and all after `--`
abbrev pub plain_in : List Part → Option (List (List ℕ)) → List (List ℕ)
plain_in parts after = filter_map plain_of parts ++ unwrap_or after []

-- the name of the subcommand
abbrev pub name_of : Form → List ℕ
name_of (check diagram) = codes "check"
name_of (route diagram script workers count) = codes "route"
name_of (make seed) = codes "make"
name_of (preview diagram script workers) = codes "preview"
name_of (shared diagram) = codes "shared"
name_of (prove diagram) = codes "prove"
name_of (audit diagram certificate) = codes "audit"

-- the argument is the file, or the two are the files
abbrev pub IsFile : List (List ℕ) → List ℕ → Type 0
IsFile words file = (words ≡ file ∷ []) × (names_file file ≡ true)

abbrev pub AreFiles : List (List ℕ) → List ℕ → List ℕ → Type 0
AreFiles words first second = (words ≡ first ∷ second ∷ []) × (names_file first ≡ true) × (names_file second ≡ true)

-- the arguments that are no options are the files of the form, or its seed
abbrev pub ArePlainOf : Form → List (List ℕ) → Type 0
ArePlainOf (check diagram) words = IsFile words diagram
ArePlainOf (route diagram script workers count) words = AreFiles words diagram script
ArePlainOf (make seed) words = (word : List ℕ) × (words ≡ word ∷ []) × (seed_of word ≡ Some seed)
ArePlainOf (preview diagram script workers) words = AreFiles words diagram script
ArePlainOf (shared diagram) words = IsFile words diagram
ArePlainOf (prove diagram) words = IsFile words diagram
ArePlainOf (audit diagram certificate) words = AreFiles words diagram certificate

-- there is no option
abbrev pub AreNone : List (List ℕ) → ℕ → Type 0
AreNone values counts = (values ≡ []) × (counts ≡ 0)

-- the values of `--workers`, at most one, and how often `--count` is given, are those that the form has
abbrev pub AreOptionsOf : Form → List (List ℕ) → ℕ → Type 0
AreOptionsOf (check diagram) values counts = AreNone values counts
AreOptionsOf (route diagram script workers count) values counts = (workers_said values ≡ Some workers) × (counts ≡ (if count then 1 else 0))
AreOptionsOf (make seed) values counts = AreNone values counts
AreOptionsOf (preview diagram script workers) values counts = (workers_said values ≡ Some workers) × (counts ≡ 0)
AreOptionsOf (shared diagram) values counts = AreNone values counts
AreOptionsOf (prove diagram) values counts = AreNone values counts
AreOptionsOf (audit diagram certificate) values counts = AreNone values counts

-- the arguments ask for the form: they name its subcommand, and have its files and options in any order
pub record Ask (words : List (List ℕ)) (form : Form) : Type 0 where
  pub rest : List (List ℕ)
  pub named : words ≡ name_of form ∷ rest
  pub parts : List Part
  pub after : Option (List (List ℕ))
  pub consist : Consist rest parts after
  pub plain : ArePlainOf form (plain_in parts after)
  pub options : AreOptionsOf form (filter_map value_of parts) (length (filter is_counting parts))

-- the law: what arguments are read as is what they ask for, and they ask for one form at most
pub record ArgumentsAsk : Type 0 where
  pub read : (words : List (List ℕ)) (form : Form) → (form_of words ≡ Some form) ↔ Ask words form
  pub one : (words : List (List ℕ)) (form other : Form) → Ask words form → Ask words other → form ≡ other
