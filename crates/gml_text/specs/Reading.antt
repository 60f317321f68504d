-- How bytes are read one by one, as a function on states. No public clause cites this module; `Grammar` and `Parse` state what is promised.
use Rattle.std.specs.Prelude.{ℕ, not, ◌==◌, ◌||◌, if◌then◌else◌, List, [], ◌∷◌, ◌++◌, Option, Some, None}
use Rattle.std.specs.Option.{option_map, option_and_then}
use Rattle.gml_text.specs.Bytes.{line_feed, hash, quote, opening, closing, is_space, begins_key, is_key_byte, is_word_byte}
use Rattle.gml_text.specs.Tree.{Content, number, text, list, Pairs, no_pairs, pair, ◌then◌}
use Rattle.gml_text.specs.Token.{begun, after, is_complete}
use Rattle.gml_text.specs.declared.token.NumberPart.{NumberPart}

-- where white space stands: between two pairs, or after a key
pub data Where : Type 0 where
  between : Where
  following : List ℕ → Where

-- the kind of the last byte, with the key and the bytes of the value so far
pub data Mode : Type 0 where
  in_gap : Where → Mode
  in_comment : Where → Mode
  in_key : List ℕ → Mode
  in_number : List ℕ → List ℕ → NumberPart → Mode
  in_text : List ℕ → List ℕ → Mode

-- an open list: its key, and the pairs before it in the list around it
pub record Frame : Type 0 where
  pub key : List ℕ
  pub before : Pairs

-- the state after the bytes so far: the mode, the open lists, innermost first, and the pairs of the innermost one
pub record State : Type 0 where
  pub mode : Mode
  pub lists : List Frame
  pub pairs : Pairs

-- the state before the first byte
abbrev pub start : State
start = record { mode = in_gap between; lists = []; pairs = no_pairs }

-- a pair has ended
abbrev pub ended : List Frame → Pairs → List ℕ → Content → State
ended fs ps key value = record { mode = in_gap between; lists = fs; pairs = ps then pair key value no_pairs }

-- a bracket closes the innermost list
abbrev pub closed : List Frame → Pairs → Option State
closed [] ps = None
closed (f ∷ fs) ps = Some (ended fs f.before f.key (list ps))

-- a bracket opens a list after the key
abbrev pub opened : List Frame → Pairs → List ℕ → State
opened fs ps key = record { mode = in_gap between; lists = record { key = key; before = ps } ∷ fs; pairs = no_pairs }

-- a byte that is not white space
abbrev pub begins : Where → List Frame → Pairs → ℕ → Option State
begins between fs ps b =
    if b == closing then closed fs ps
    else if begins_key b then Some (record { mode = in_key (b ∷ []); lists = fs; pairs = ps })
    else None
begins (following key) fs ps b =
    if b == opening then Some (opened fs ps key)
    else if b == quote then Some (record { mode = in_text key []; lists = fs; pairs = ps })
    else option_map (λ part. record { mode = in_number key (b ∷ []) part; lists = fs; pairs = ps }) (begun b)

-- a byte of white space, or one that ends it
abbrev pub in_space : Where → List Frame → Pairs → ℕ → Option State
in_space here fs ps b =
    if is_space b then Some (record { mode = in_gap here; lists = fs; pairs = ps })
    else if b == hash then Some (record { mode = in_comment here; lists = fs; pairs = ps })
    else begins here fs ps b

-- a byte of a key, or one that ends it
abbrev pub key_step : List ℕ → List Frame → Pairs → ℕ → Option State
key_step key fs ps b =
    if is_key_byte b then Some (record { mode = in_key (key ++ b ∷ []); lists = fs; pairs = ps })
    else if is_word_byte b then None
    else in_space (following key) fs ps b

-- a byte that ends a number
abbrev pub number_ended : List ℕ → List ℕ → NumberPart → List Frame → Pairs → ℕ → Option State
number_ended key digits part fs ps b =
    if is_word_byte b || not (is_complete part) then None
    else in_space between fs (ps then pair key (number digits) no_pairs) b

-- a byte of a number, or one that ends it
abbrev pub number_step : List ℕ → List ℕ → NumberPart → List Frame → Pairs → ℕ → Option NumberPart → Option State
number_step key digits part fs ps b None = number_ended key digits part fs ps b
number_step key digits part fs ps b (Some next) = Some (record { mode = in_number key (digits ++ b ∷ []) next; lists = fs; pairs = ps })

-- a byte of a string, or the quote that ends it
abbrev pub text_step : List ℕ → List ℕ → List Frame → Pairs → ℕ → Option State
text_step key inner fs ps b =
    if b == quote then Some (ended fs ps key (text inner))
    else Some (record { mode = in_text key (inner ++ b ∷ []); lists = fs; pairs = ps })

-- the state after one more byte
abbrev pub mode_step : Mode → List Frame → Pairs → ℕ → Option State
mode_step (in_gap here) fs ps b = in_space here fs ps b
mode_step (in_comment here) fs ps b =
    Some (record { mode = if b == line_feed then in_gap here else in_comment here; lists = fs; pairs = ps })
mode_step (in_key key) fs ps b = key_step key fs ps b
mode_step (in_number key digits part) fs ps b = number_step key digits part fs ps b (after part b)
mode_step (in_text key inner) fs ps b = text_step key inner fs ps b

abbrev pub stepped : State → ℕ → Option State
stepped s b = mode_step s.mode s.lists s.pairs b

-- the pairs, if no list is open
abbrev pub whole : List Frame → Pairs → Option Pairs
whole [] ps = Some ps
whole (f ∷ fs) ps = None

-- the pairs of a document that may end here
abbrev pub finished : Mode → List Frame → Pairs → Option Pairs
finished (in_gap between) fs ps = whole fs ps
finished (in_gap (following key)) fs ps = None
finished (in_comment between) fs ps = whole fs ps
finished (in_comment (following key)) fs ps = None
finished (in_key key) fs ps = None
finished (in_number key digits part) fs ps =
    if is_complete part then whole fs (ps then pair key (number digits) no_pairs) else None
finished (in_text key inner) fs ps = None

-- the result of these bytes from the state
abbrev pub accepted : List ℕ → State → Option Pairs
accepted [] s = finished s.mode s.lists s.pairs
accepted (b ∷ bs) s = option_and_then (accepted bs) (stepped s b)
