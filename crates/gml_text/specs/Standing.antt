-- The position of a reader in the bytes: the state that the bytes before it leave. No public clause cites this module.
use Rattle.std.specs.Prelude.{◌≡◌, ℕ, ◌+◌, ◌<◌, ◌≤◌, false, ◌==◌, List, [], ◌∷◌, ◌++◌, length, take, slice_index, slice_range, Result, Ok, Err}
use Rattle.gml_text.specs.Bytes.{hash, is_space}
use Rattle.gml_text.specs.Tree.{list, Pairs, no_pairs, pair, depth, ◌then◌}
use Rattle.gml_text.specs.Parse.{most_open, IsSyntaxAt, IsTooDeepAt, IsDocument}
use Rattle.gml_text.specs.View.{tree}
use Rattle.gml_text.specs.Reading.{Where, Frame, State, in_gap, in_comment, in_key, in_number, in_text, start, stepped, finished, accepted}
use Rattle.gml_text.specs.declared.fault.GmlFault.{GmlFault}
use Rattle.gml_text.specs.declared.fault.GmlFault.TheVariants.{Syntax, TooDeep, Memory}
use Rattle.gml_text.specs.declared.token.NumberPart.{NumberPart}
use Rattle.gml_text.specs.declared.tree.Doc.{Doc}

-- the pairs of the document if each open list is closed at once
abbrev pub closed_up : List Frame → Pairs → Pairs
closed_up [] ps = ps
closed_up (f ∷ fs) ps = closed_up fs (f.before then pair f.key (list ps) no_pairs)

-- the depth of that document
abbrev pub height : State → ℕ
height s = depth (closed_up s.lists s.pairs)

-- the bytes lead from the start to the state
abbrev pub Leads : List ℕ → State → Type 0
Leads front s = (more : List ℕ) → accepted (front ++ more) start ≡ accepted more s

-- the same within the limit
pub record LeadsWithinLimit (front : List ℕ) (s : State) : Type 0 where
  pub leads : Leads front s
  pub within : height s ≤ most_open

-- the bytes before the place lead to the state, or to one that continues and ends as this one does there
pub record Stands (bytes : List ℕ) (at : ℕ) (s : State) : Type 0 where
  pub through : State
  pub leads : LeadsWithinLimit (take at bytes) through
  pub few : length s.lists ≤ most_open
  pub goes_on : at < length bytes → stepped through (slice_index bytes at) ≡ stepped s (slice_index bytes at)
  pub ends : finished through.mode through.lists through.pairs ≡ finished s.mode s.lists s.pairs

-- white space, a comment, a key, a number and a string of a reader with these lists and pairs
abbrev pub gap_state : Where → List Frame → Pairs → State
gap_state here fs ps = record { mode = in_gap here; lists = fs; pairs = ps }

abbrev pub comment_state : Where → List Frame → Pairs → State
comment_state here fs ps = record { mode = in_comment here; lists = fs; pairs = ps }

abbrev pub key_state : List ℕ → List Frame → Pairs → State
key_state key fs ps = record { mode = in_key key; lists = fs; pairs = ps }

abbrev pub number_state : List ℕ → List ℕ → NumberPart → List Frame → Pairs → State
number_state key digits part fs ps = record { mode = in_number key digits part; lists = fs; pairs = ps }

abbrev pub text_state : List ℕ → List ℕ → List Frame → Pairs → State
text_state key inner fs ps = record { mode = in_text key inner; lists = fs; pairs = ps }

-- from one place to another: the rest of a comment, and white space with it
abbrev pub EndsComment : List ℕ → ℕ → ℕ → Type 0
EndsComment bytes from end = (here : Where) (fs : List Frame) (ps : Pairs) → Stands bytes from (comment_state here fs ps) → Stands bytes end (gap_state here fs ps)

-- white space and comments
abbrev pub EndsGap : List ℕ → ℕ → ℕ → Type 0
EndsGap bytes from end = (here : Where) (fs : List Frame) (ps : Pairs) → Stands bytes from (gap_state here fs ps) → Stands bytes end (gap_state here fs ps)

-- the rest of a key
abbrev pub EndsKey : List ℕ → ℕ → ℕ → Type 0
EndsKey bytes at end = (fs : List Frame) (ps : Pairs) → Stands bytes (at + 1) (key_state (slice_range bytes at (at + 1)) fs ps)
    → Stands bytes end (key_state (slice_range bytes at end) fs ps)

-- the rest of a string
abbrev pub EndsText : List ℕ → ℕ → ℕ → Type 0
EndsText bytes from end = (key : List ℕ) (fs : List Frame) (ps : Pairs) → Stands bytes from (text_state key [] fs ps)
    → Stands bytes end (text_state key (slice_range bytes from end) fs ps)

-- the rest of a number
abbrev pub EndsNumber : List ℕ → ℕ → NumberPart → ℕ → NumberPart → Type 0
EndsNumber bytes at begun end part = (key : List ℕ) (fs : List Frame) (ps : Pairs)
    → Stands bytes (at + 1) (number_state key (slice_range bytes at (at + 1)) begun fs ps)
    → Stands bytes end (number_state key (slice_range bytes at end) part fs ps)

-- the byte is neither white space nor the first of a comment
pub record IsNoGap (b : ℕ) : Type 0 where
  pub no_space : is_space b ≡ false
  pub no_hash : (b == hash) ≡ false

-- the fault of the bytes; out of memory requires nothing of them
abbrev pub IsFaultOf : List ℕ → GmlFault → Type 0
IsFaultOf bytes (Syntax at) = IsSyntaxAt bytes at
IsFaultOf bytes (TooDeep at) = IsTooDeepAt bytes at
IsFaultOf bytes Memory = Unit {0}

-- a reader reaches a place where its state is this, or the bytes have the fault
abbrev pub Goes : List ℕ → Result ℕ GmlFault → State → Type 0
Goes bytes (Ok next) s = (next ≤ length bytes) × Stands bytes next s
Goes bytes (Err fault) s = IsFaultOf bytes fault

-- the document of the bytes, or the fault that they have
abbrev pub IsAnswer : List ℕ → Result Doc GmlFault → Type 0
IsAnswer bytes (Ok doc) = IsDocument (tree doc) bytes
IsAnswer bytes (Err fault) = IsFaultOf bytes fault
