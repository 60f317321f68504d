-- clap's walk over the arguments, beside what the arguments have given.
use Rattle.std.proofs.Common.{◌≡◌, ◌⊎◌, inl, inr, Bool, true, false, List, [], ◌∷◌, ◌++◌, Option, Some, None, is_some, codes, refl, sym, ap, subst, ◌∙◌, true≢false}
use Rattle.std.specs.Prelude.{◌==◌, bytes_eq, drop, fold, option_and_then, unwrap_or, if◌then◌else◌}
use Rattle.std.specs.List.{AllByRecursion as Each, before_first}
use Rattle.std.specs.Str.{IsUtf8}
use Rattle.std.proofs.lemmas.Bool.{cases_Bool}
use Rattle.clap.specs.Lexer.{long_of, short_of}
use Rattle.clap.specs.Kinds.{Kinds, or_else}
use Rattle.clap.specs.declared.error.kind.ErrorKind.{ErrorKind}
use Rattle.clap.specs.declared.error.kind.ErrorKind.TheVariants.{ArgumentConflict, InvalidValue, TooManyValues, UnknownArgument}
use Rattle.clap.specs.Faults.{built_fault, check_fault, defaults_fault, fault_of, repeat_fault, settle_fault, turn_fault, walk_fault}
use Rattle.clap.specs.Walk.{Held, Row, Text, Waiting, Walk, all_of, finished, has_row, idle, nothing_held, one_of, option, positional, rows_after, settled, settled_rows, walk_from, walked, with_default, without}
use Rattle.clap.specs.Simple.{App, argument_words, matches_of, names_of}
use Rattle.clap.specs.declared.parser.matches.ValueSource.TheVariants.{DefaultValue}
use Rattle.clap.proofs.FaultLemmas.{leaf_fault}
use Rattle.command_words.specs.Commands.{app_for}
use Rattle.command_words.specs.Words.{Said, is_option, nothing_said, option_value, said_after, with_count, with_named, with_option, with_plain, with_word, with_workers}
use Rattle.command_words.proofs.Built.{built_is, rules_for, shape_for}
use Rattle.command_words.proofs.Looks.{Look, is_end, is_long, is_plain, is_short, look}
use Rattle.command_words.proofs.Rows.{Holds, added, first_added, has_row_is, none_without, other_added, other_kept, own_more, row_in, row_with, values_with, with_value}
use Rattle.command_words.proofs.Turns as turn
use Rattle.command_words.proofs.Turns.{Pending, calm, held, walk_at}

-- ---- an argument that waits to be settled

pub data Use : Type 0 where
  nothing : Use
  plain : Text → Use
  workers : Text → Use

abbrev pub pending_of : Use → Pending
pending_of nothing = None
pending_of (plain v) = Some (codes "plain", v ∷ [])
pending_of (workers v) = Some (codes "workers", v ∷ [])

abbrev pub settled_by : Use → List Row → List Row
settled_by nothing rows = rows
settled_by (plain v) rows = with_value (codes "plain") v rows
settled_by (workers v) rows = with_value (codes "workers") v rows

-- the argument is one of the command's
abbrev pub Fits : Bool → Use → Type 0
Fits false (workers v) = ⊥
Fits has u = Unit {0}

plain_fits : (has : Bool) (v : Text) → Fits has (plain v)
plain_fits false v = tt
plain_fits true v = tt

settles : (has : Bool) (u : Use) (rows : List Row) → Fits has u → settle_fault (rules_for has) false (held rows (pending_of u)) ≡ []
settles false nothing rows fits = refl
settles false (plain v) rows fits = refl
settles false (workers v) rows fits = absurd fits
settles true nothing rows fits = refl
settles true (plain v) rows fits = refl
settles true (workers v) rows fits = refl

settles_to : (has : Bool) (u : Use) (rows : List Row) → Fits has u → settled_rows (rules_for has) (pending_of u) rows ≡ settled_by u rows
settles_to false nothing rows fits = refl
settles_to false (plain v) rows fits = refl
settles_to false (workers v) rows fits = absurd fits
settles_to true nothing rows fits = refl
settles_to true (plain v) rows fits = refl
settles_to true (workers v) rows fits = refl

-- ---- the values in the rows

holds_plain : (s : Said) (word : Text) (rows : List Row) → Holds s rows → Holds (record s { plain = s.plain ++ word ∷ [] }) (with_value (codes "plain") word rows)
holds_plain s word rows h = record {
  plain = own_more (codes "plain") word s.plain rows h.plain;
  workers = other_kept (codes "plain") (codes "workers") word rows refl ∙ h.workers;
  count = other_kept (codes "plain") (codes "count") word rows refl ∙ h.count;
}

holds_workers : (s : Said) (word : Text) (rows : List Row) → Holds s rows → Holds (record s { workers = s.workers ++ word ∷ [] }) (with_value (codes "workers") word rows)
holds_workers s word rows h = record {
  plain = other_kept (codes "workers") (codes "plain") word rows refl ∙ h.plain;
  workers = own_more (codes "workers") word s.workers rows h.workers;
  count = other_kept (codes "workers") (codes "count") word rows refl ∙ h.count;
}

no_count : (s : Said) (rows : List Row) → s.count ≡ false → Holds s rows → row_in (codes "count") rows ≡ None
no_count s rows e h = h.count ∙ ap (λ (b : Bool). row_with (codes "count") (if b then codes "true" ∷ [] else [])) e

holds_count : (s : Said) (rows : List Row) → s.count ≡ false → Holds s rows
    → Holds (record s { count = true }) (with_value (codes "count") (codes "true") (without (codes "count") rows))
holds_count s rows e h =
    let none = no_count s rows e h in
    rw (none_without (codes "count") rows none) (record {
      plain = other_kept (codes "count") (codes "plain") (codes "true") rows refl ∙ h.plain;
      workers = other_kept (codes "count") (codes "workers") (codes "true") rows refl ∙ h.workers;
      count = own_more (codes "count") (codes "true") [] rows none;
    })

repeats_not : (rows : List Row) → row_in (codes "count") rows ≡ None → repeat_fault false (codes "count") rows ≡ []
repeats_not rows none = let e : has_row (codes "count") rows ≡ false = has_row_is (codes "count") rows ∙ ap is_some none in rw e refl

repeats : (s : Said) (rows : List Row) → s.count ≡ true → Holds s rows → repeat_fault false (codes "count") rows ≡ ArgumentConflict ∷ []
repeats s rows e h =
    let there = h.count ∙ ap (λ (b : Bool). row_with (codes "count") (if b then codes "true" ∷ [] else [])) e in
    let has : has_row (codes "count") rows ≡ true = has_row_is (codes "count") rows ∙ ap is_some there in
    rw has refl

-- ---- where the walk stands

-- nothing is waited for
pub record Free (has : Bool) (s : Said) (w : Walk) : Type 0 where
  pub rows : List Row
  pub last : Use
  pub kind : Bool
  pub fits : Fits has last
  pub waits : s.waits ≡ false
  pub holds : Holds s (settled_by last rows)
  pub is : w ≡ walk_at rows (pending_of last) (calm kind) s.ended

-- the value of `--workers` is
pub record Waits (has : Bool) (s : Said) (w : Walk) : Type 0 where
  pub rows : List Row
  pub options : has ≡ true
  pub waits : s.waits ≡ true
  pub ended : s.ended ≡ false
  pub holds : Holds s rows
  pub is : w ≡ walk_at rows (Some (codes "workers", [])) (option (codes "workers")) false

abbrev pub Matches : Bool → Said → Walk → Type 0
Matches has s w = Free has s w ⊎ Waits has s w

-- the faults of the rest of the arguments, and the rows at their end
abbrev pub faults_at_end : Bool → Text → Held → Kinds
faults_at_end has name h =
    or_else (settle_fault (rules_for has) false h)
    (or_else (defaults_fault (settled (rules_for has) h).rows (rules_for has)) (check_fault (shape_for has name) (finished (rules_for has) h) false))

abbrev pub end_of : Bool → Walk → List Text → Held
end_of has w words = (fold (walked (rules_for has) []) w words).held

abbrev pub whole : Bool → Text → Walk → List Text → Kinds
whole has name w words = or_else (walk_fault (shape_for has name) [] w words) (faults_at_end has name (end_of has w words))

abbrev pub rows_at_end : Bool → Walk → List Text → List Row
rows_at_end has w words = finished (rules_for has) (end_of has w words)

-- the rows have the values that were given
pub record Says (has : Bool) (s : Said) (rows : List Row) : Type 0 where
  pub plain : unwrap_or (all_of (codes "plain") rows) [] ≡ s.plain
  pub workers : unwrap_or (all_of (codes "workers") rows) [] ≡ s.workers
  pub count : has ≡ true → one_of (codes "count") rows ≡ Some (if s.count then codes "true" else codes "false")

-- there is no fault if the arguments are valid
abbrev pub Agrees : Bool → Option Said → Kinds → List Row → Type 0
Agrees has None faults rows = faults ≡ [] → ⊥
Agrees has (Some s) faults rows = (faults ≡ []) × Says has s rows

-- what one argument has to keep
abbrev Keeps : Bool → Text → Option Said → Walk → Text → Type 0
Keeps has name None w word = (words : List Text) → whole has name w (word ∷ words) ≡ [] → ⊥
Keeps has name (Some s) w word = (turn_fault (shape_for has name) [] w word ≡ []) × Matches has s (walked (rules_for has) [] w word)

or_else_assoc : (a b c : Kinds) → or_else (or_else a b) c ≡ or_else a (or_else b c)
or_else_assoc [] b c = refl
or_else_assoc (k ∷ ks) b c = refl

whole_more : (has : Bool) (name : Text) (w : Walk) (word : Text) (words : List Text)
    → whole has name w (word ∷ words) ≡ or_else (turn_fault (shape_for has name) [] w word) (whole has name (walked (rules_for has) [] w word) words)
unfolding walk_fault
whole_more has name w word words = or_else_assoc (turn_fault (shape_for has name) [] w word) (walk_fault (shape_for has name) [] (walked (rules_for has) [] w word) words) (faults_at_end has name (end_of has (walked (rules_for has) [] w word) words))

some_fault : (k : ErrorKind) (ks : Kinds) → k ∷ ks ≡ [] → ⊥
some_fault k ks e = cc

-- a fault at the argument is one of the whole
turn_fails : (has : Bool) (name : Text) (w : Walk) (word : Text) (k : ErrorKind) (ks : Kinds) → turn_fault (shape_for has name) [] w word ≡ k ∷ ks → (words : List Text)
    → whole has name w (word ∷ words) ≡ [] → ⊥
turn_fails has name w word k ks e words none =
    some_fault k ks (sym (ap (λ f. or_else f (whole has name (walked (rules_for has) [] w word) words)) e) ∙ sym (whole_more has name w word words) ∙ none)

-- ---- one argument

keeps_none : (has : Bool) (name : Text) (s : Said) (w : Walk) (word : Text) → with_word has s word ≡ None
    → ((words : List Text) → whole has name w (word ∷ words) ≡ [] → ⊥) → Keeps has name (with_word has s word) w word
keeps_none has name s w word e fails = subst (λ o. Keeps has name o w word) (sym e) fails

keeps_some : (has : Bool) (name : Text) (s next : Said) (w : Walk) (word : Text) → with_word has s word ≡ Some next
    → turn_fault (shape_for has name) [] w word ≡ [] → Matches has next (walked (rules_for has) [] w word) → Keeps has name (with_word has s word) w word
keeps_some has name s next w word e fault matches = subst (λ o. Keeps has name o w word) (sym e) (fault, matches)

free_plain : (s : Said) (word : Text) → s.waits ≡ false → with_plain s word ≡ record s { plain = s.plain ++ word ∷ [] }
free_plain s word e = rw e refl

-- with an argument that goes to the list of plain ones
after_plain : (has : Bool) (name : Text) (s : Said) (rows : List Row) (last : Use) (w : Walk) (word : Text) → Fits has last → s.waits ≡ false → Holds s (settled_by last rows)
    → with_word has s word ≡ Some (with_plain s word)
    → turn_fault (shape_for has name) [] w word ≡ settle_fault (rules_for has) false (held rows (pending_of last))
    → walked (rules_for has) [] w word ≡ walk_at (settled_rows (rules_for has) (pending_of last) rows) (Some (codes "plain", word ∷ [])) positional s.ended
    → Keeps has name (with_word has s word) w word
after_plain has name s rows last w word fits waits holds with-is fault is =
    keeps_some has name s (record s { plain = s.plain ++ word ∷ [] }) w word (with-is ∙ ap Some (free_plain s word waits)) (fault ∙ settles has last rows fits)
    (inl (record {
      rows = settled_by last rows;
      last = plain word;
      kind = true;
      fits = plain_fits has word;
      waits = waits;
      holds = holds_plain s word (settled_by last rows) holds;
      is = is ∙ ap (λ r. walk_at r (Some (codes "plain", word ∷ [])) positional s.ended) (settles_to has last rows fits);
    }))

-- after `--` each argument is plain
ended_word : (has : Bool) (name : Text) (s : Said) (rows : List Row) (last : Use) (waiting : Waiting) (word : Text) → Fits has last → s.waits ≡ false → Holds s (settled_by last rows) → s.ended ≡ true
    → Keeps has name (with_word has s word) (walk_at rows (pending_of last) waiting true) word
ended_word has name s rows last waiting word fits waits holds ended =
    after_plain has name s rows last (walk_at rows (pending_of last) waiting true) word fits waits holds (rw ended refl)
    (turn.trailing_fault has name rows (pending_of last) waiting word)
    (turn.trailing_walk has rows (pending_of last) waiting word ∙ ap (walk_at (settled_rows (rules_for has) (pending_of last) rows) (Some (codes "plain", word ∷ [])) positional) (sym ended))

-- an argument that is no option
plain_word : (has : Bool) (name : Text) (s : Said) (rows : List Row) (last : Use) (kind : Bool) (word : Text) → Fits has last → s.waits ≡ false → Holds s (settled_by last rows) → s.ended ≡ false
    → is_option word ≡ false → bytes_eq word (codes "--") ≡ false → long_of word ≡ None → short_of word ≡ None
    → Keeps has name (with_word has s word) (walk_at rows (pending_of last) (calm kind) false) word
plain_word has name s rows last kind word fits waits holds ended o d l h =
    after_plain has name s rows last (walk_at rows (pending_of last) (calm kind) false) word fits waits holds (rw (ended, o) refl)
    (turn.plain_fault has name rows (pending_of last) kind word d l h)
    (turn.plain_walk has rows (pending_of last) kind word d l h ∙ ap (walk_at (settled_rows (rules_for has) (pending_of last) rows) (Some (codes "plain", word ∷ [])) positional) (sym ended))

-- `--`
end_word : (has : Bool) (name : Text) (s : Said) (rows : List Row) (last : Use) (kind : Bool) (word : Text) → Fits has last → s.waits ≡ false → Holds s (settled_by last rows) → s.ended ≡ false
    → is_option word ≡ true → bytes_eq word (codes "--") ≡ true
    → Keeps has name (with_word has s word) (walk_at rows (pending_of last) (calm kind) false) word
end_word has name s rows last kind word fits waits holds ended o d =
    keeps_some has name s (record s { ended = true }) (walk_at rows (pending_of last) (calm kind) false) word (rw (ended, o, waits, d) refl)
    (turn.end_fault has name rows (pending_of last) (calm kind) word d)
    (inl (record {
      rows = rows;
      last = last;
      kind = kind;
      fits = fits;
      waits = waits;
      holds = record { plain = holds.plain; workers = holds.workers; count = holds.count };
      is = turn.end_walk has rows (pending_of last) (calm kind) word d;
    }))

-- an option, where no value is waited for
at_option : (has : Bool) (s : Said) (word : Text) → s.ended ≡ false → s.waits ≡ false → is_option word ≡ true → bytes_eq word (codes "--") ≡ false → with_word has s word ≡ with_option has s word
at_option has s word ended waits o d = rw (ended, o, waits, d) refl

workers_word : (name : Text) (s : Said) (rows : List Row) (last : Use) (kind : Bool) (word n : Text) (v : Option Text) → Fits true last → s.waits ≡ false → Holds s (settled_by last rows) → s.ended ≡ false
    → bytes_eq word (codes "--") ≡ false → long_of word ≡ Some (n, v) → bytes_eq (codes "workers") n ≡ true → with_word true s word ≡ Some (with_workers s v)
    → Keeps true name (with_word true s word) (walk_at rows (pending_of last) (calm kind) false) word
workers_word name s rows last kind word n None fits waits holds ended d l w with-is =
    keeps_some true name s (record s { waits = true }) (walk_at rows (pending_of last) (calm kind) false) word with-is
    (turn.before_fault name rows (pending_of last) (calm kind) word n d l w ∙ settles true last rows fits)
    (inr (record {
      rows = settled_by last rows;
      options = refl;
      waits = refl;
      ended = ended;
      holds = record { plain = holds.plain; workers = holds.workers; count = holds.count };
      is = turn.before_walk rows (pending_of last) (calm kind) word n d l w
          ∙ ap (λ r. walk_at r (Some (codes "workers", [])) (option (codes "workers")) false) (settles_to true last rows fits);
    }))
workers_word name s rows last kind word n (Some v) fits waits holds ended d l w with-is =
    keeps_some true name s (record s { workers = s.workers ++ v ∷ [] }) (walk_at rows (pending_of last) (calm kind) false) word with-is
    (turn.value_fault name rows (pending_of last) (calm kind) word n v d l w ∙ settles true last rows fits)
    (inl (record {
      rows = with_value (codes "workers") v (settled_by last rows);
      last = nothing;
      kind = false;
      fits = tt;
      waits = waits;
      holds = holds_workers s v (settled_by last rows) holds;
      is = turn.value_walk rows (pending_of last) (calm kind) word n v d l w
          ∙ ap (λ r. walk_at (with_value (codes "workers") v r) None idle false) (settles_to true last rows fits)
          ∙ ap (walk_at (with_value (codes "workers") v (settled_by last rows)) None idle) (sym ended);
    }))

count_word : (name : Text) (s : Said) (rows : List Row) (last : Use) (kind : Bool) (word n : Text) (v : Option Text) → Fits true last → s.waits ≡ false → Holds s (settled_by last rows) → s.ended ≡ false
    → bytes_eq word (codes "--") ≡ false → long_of word ≡ Some (n, v) → bytes_eq (codes "workers") n ≡ false → bytes_eq (codes "count") n ≡ true → with_word true s word ≡ with_count s v
    → Keeps true name (with_word true s word) (walk_at rows (pending_of last) (calm kind) false) word
count_word name s rows last kind word n (Some v) fits waits holds ended d l w k with-is =
    keeps_none true name s (walk_at rows (pending_of last) (calm kind) false) word with-is
    (turn_fails true name (walk_at rows (pending_of last) (calm kind) false) word TooManyValues [] (turn.counted_fault name rows (pending_of last) (calm kind) word n v d l w k))
count_word name s rows last kind word n None fits waits holds ended d l w k with-is = elim (cases_Bool s.count) [
  | inl again ↦
      keeps_none true name s (walk_at rows (pending_of last) (calm kind) false) word (with-is ∙ rw again refl)
      (turn_fails true name (walk_at rows (pending_of last) (calm kind) false) word ArgumentConflict []
      (turn.count_fault_is name rows (pending_of last) (calm kind) word n d l w k
      ∙ ap (λ f. or_else f (repeat_fault false (codes "count") (settled_rows (rules_for true) (pending_of last) rows))) (settles true last rows fits)
      ∙ ap (repeat_fault false (codes "count")) (settles_to true last rows fits)
      ∙ repeats s (settled_by last rows) again holds))
  | inr once ↦
      keeps_some true name s (record s { count = true }) (walk_at rows (pending_of last) (calm kind) false) word (with-is ∙ rw once refl)
      (turn.count_fault_is name rows (pending_of last) (calm kind) word n d l w k
      ∙ ap (λ f. or_else f (repeat_fault false (codes "count") (settled_rows (rules_for true) (pending_of last) rows))) (settles true last rows fits)
      ∙ ap (repeat_fault false (codes "count")) (settles_to true last rows fits)
      ∙ repeats_not (settled_by last rows) (no_count s (settled_by last rows) once holds))
      (inl (record {
        rows = with_value (codes "count") (codes "true") (without (codes "count") (settled_by last rows));
        last = nothing;
        kind = false;
        fits = tt;
        waits = waits;
        holds = holds_count s (settled_by last rows) once holds;
        is = turn.count_walk rows (pending_of last) (calm kind) word n d l w k
            ∙ ap (λ r. walk_at (with_value (codes "count") (codes "true") (without (codes "count") r)) None idle false) (settles_to true last rows fits)
            ∙ ap (walk_at (with_value (codes "count") (codes "true") (without (codes "count") (settled_by last rows))) None idle) (sym ended);
      }))
]

long_word : (has : Bool) (name : Text) (s : Said) (rows : List Row) (last : Use) (kind : Bool) (word n : Text) (v : Option Text) → Fits has last → s.waits ≡ false → Holds s (settled_by last rows) → s.ended ≡ false
    → bytes_eq word (codes "--") ≡ false → long_of word ≡ Some (n, v) → with_word has s word ≡ with_named has s n v
    → Keeps has name (with_word has s word) (walk_at rows (pending_of last) (calm kind) false) word
long_word false name s rows last kind word n v fits waits holds ended d l with-is =
    keeps_none false name s (walk_at rows (pending_of last) (calm kind) false) word with-is
    (turn_fails false name (walk_at rows (pending_of last) (calm kind) false) word UnknownArgument [] (turn.long_fault_is name rows (pending_of last) (calm kind) word n v d l))
long_word true name s rows last kind word n v fits waits holds ended d l with-is = elim (cases_Bool (bytes_eq (codes "workers") n)) [
  | inl w ↦ workers_word name s rows last kind word n v fits waits holds ended d l w (with-is ∙ rw w refl)
  | inr w ↦ elim (cases_Bool (bytes_eq (codes "count") n)) [
    | inl k ↦ count_word name s rows last kind word n v fits waits holds ended d l w k (with-is ∙ rw (w, k) refl)
    | inr k ↦
        keeps_none true name s (walk_at rows (pending_of last) (calm kind) false) word (with-is ∙ rw (w, k) refl)
        (turn_fails true name (walk_at rows (pending_of last) (calm kind) false) word UnknownArgument [] (turn.unknown_fault name rows (pending_of last) (calm kind) word n v d l w k))
  ]
]

-- an argument, where no value is expected
free_word : (has : Bool) (name : Text) (s : Said) (rows : List Row) (last : Use) (kind : Bool) (word : Text) → Fits has last → s.waits ≡ false → Holds s (settled_by last rows) → s.ended ≡ false
    → Look word → Keeps has name (with_word has s word) (walk_at rows (pending_of last) (calm kind) false) word
free_word has name s rows last kind word fits waits holds ended (is_plain o d l h) = plain_word has name s rows last kind word fits waits holds ended o d l h
free_word has name s rows last kind word fits waits holds ended (is_end o d) = end_word has name s rows last kind word fits waits holds ended o d
free_word has name s rows last kind word fits waits holds ended (is_long text o d l with-is) =
    long_word has name s rows last kind word (before_first (λ b. b == 61) text) (option_value text) fits waits holds ended d l (at_option has s word ended waits o d ∙ with-is has s)
free_word has name s rows last kind word fits waits holds ended (is_short c b bs o d l h first with-is) =
    keeps_none has name s (walk_at rows (pending_of last) (calm kind) false) word (at_option has s word ended waits o d ∙ with-is has s)
    (turn_fails has name (walk_at rows (pending_of last) (calm kind) false) word UnknownArgument [] (turn.short_fault_is has name rows (pending_of last) (calm kind) word c b bs d l h first))

step_free : (has : Bool) (name : Text) (s : Said) (word : Text) (rows : List Row) (last : Use) (kind ended : Bool) → Fits has last → s.waits ≡ false → Holds s (settled_by last rows) → s.ended ≡ ended
    → Look word → Keeps has name (with_word has s word) (walk_at rows (pending_of last) (calm kind) ended) word
step_free has name s word rows last kind true fits waits holds e looks = ended_word has name s rows last (calm kind) word fits waits holds e
step_free has name s word rows last kind false fits waits holds e looks = free_word has name s rows last kind word fits waits holds e looks

-- ---- the same where the value of `--workers` is waited for

abbrev awaiting : List Row → Walk
awaiting rows = walk_at rows (Some (codes "workers", [])) (option (codes "workers")) false

refused : (s : Said) (word : Text) → s.waits ≡ true → s.ended ≡ false → is_option word ≡ true → with_word true s word ≡ None
refused s word waits ended o = rw (ended, o, waits) refl

without_value : (name : Text) (rows : List Row) (words : List Text) → whole true name (walk_at rows (Some (codes "workers", [])) (option (codes "workers")) true) words ≡ [] → ⊥
unfolding walk_fault
without_value name rows [] e = some_fault InvalidValue [] e
without_value name rows (next ∷ words) e =
    turn_fails true name (walk_at rows (Some (codes "workers", [])) (option (codes "workers")) true) next InvalidValue []
    (turn.trailing_fault true name rows (Some (codes "workers", [])) (option (codes "workers")) next) words e

-- `--` ends the options before the value came
ends_early : (name : Text) (rows : List Row) (word : Text) → bytes_eq word (codes "--") ≡ true → (words : List Text) → whole true name (awaiting rows) (word ∷ words) ≡ [] → ⊥
ends_early name rows word d words none =
    without_value name rows words (sym (ap (λ w. whole true name w words) (turn.end_walk true rows (Some (codes "workers", [])) (option (codes "workers")) word d))
    ∙ sym (ap (λ f. or_else f (whole true name (walked (rules_for true) [] (awaiting rows) word) words)) (turn.end_fault true name rows (Some (codes "workers", [])) (option (codes "workers")) word d))
    ∙ sym (whole_more true name (awaiting rows) word words) ∙ none)

waits_again : (name : Text) (rows : List Row) (word n : Text) (v : Option Text) → bytes_eq word (codes "--") ≡ false → long_of word ≡ Some (n, v) → bytes_eq (codes "workers") n ≡ true
    → turn_fault (shape_for true name) [] (awaiting rows) word ≡ InvalidValue ∷ []
waits_again name rows word n None d l w = turn.before_fault name rows (Some (codes "workers", [])) (option (codes "workers")) word n d l w
waits_again name rows word n (Some x) d l w = turn.value_fault name rows (Some (codes "workers", [])) (option (codes "workers")) word n x d l w

waits_count : (name : Text) (s : Said) (rows : List Row) (word n : Text) (v : Option Text) → with_word true s word ≡ None → bytes_eq word (codes "--") ≡ false → long_of word ≡ Some (n, v)
    → bytes_eq (codes "workers") n ≡ false → bytes_eq (codes "count") n ≡ true → Keeps true name (with_word true s word) (awaiting rows) word
waits_count name s rows word n None with-is d l w k = keeps_none true name s (awaiting rows) word with-is
    (turn_fails true name (awaiting rows) word InvalidValue [] (turn.count_fault_is name rows (Some (codes "workers", [])) (option (codes "workers")) word n d l w k))
waits_count name s rows word n (Some x) with-is d l w k = keeps_none true name s (awaiting rows) word with-is
    (turn_fails true name (awaiting rows) word TooManyValues [] (turn.counted_fault name rows (Some (codes "workers", [])) (option (codes "workers")) word n x d l w k))

waits_long : (name : Text) (s : Said) (rows : List Row) (word n : Text) (v : Option Text) → with_word true s word ≡ None → bytes_eq word (codes "--") ≡ false → long_of word ≡ Some (n, v)
    → Keeps true name (with_word true s word) (awaiting rows) word
waits_long name s rows word n v with-is d l = elim (cases_Bool (bytes_eq (codes "workers") n)) [
  | inl w ↦ keeps_none true name s (awaiting rows) word with-is (turn_fails true name (awaiting rows) word InvalidValue [] (waits_again name rows word n v d l w))
  | inr w ↦ elim (cases_Bool (bytes_eq (codes "count") n)) [
    | inl k ↦ waits_count name s rows word n v with-is d l w k
    | inr k ↦ keeps_none true name s (awaiting rows) word with-is
        (turn_fails true name (awaiting rows) word UnknownArgument [] (turn.unknown_fault name rows (Some (codes "workers", [])) (option (codes "workers")) word n v d l w k))
  ]
]

waits_word : (name : Text) (s : Said) (rows : List Row) (word : Text) → s.waits ≡ true → s.ended ≡ false → Holds s rows → Look word
    → Keeps true name (with_word true s word) (awaiting rows) word
waits_word name s rows word waits ended holds (is_plain o d l h) =
    keeps_some true name s (record s { workers = s.workers ++ word ∷ []; waits = false }) (awaiting rows) word (rw (ended, o, waits) refl)
    (turn.awaited_fault name rows word d l h)
    (inl (record {
      rows = rows;
      last = workers word;
      kind = false;
      fits = tt;
      waits = refl;
      holds = let more = holds_workers s word rows holds in record { plain = more.plain; workers = more.workers; count = more.count };
      is = turn.awaited_walk rows word d l h ∙ ap (walk_at rows (Some (codes "workers", word ∷ [])) idle) (sym ended);
    }))
waits_word name s rows word waits ended holds (is_end o d) = keeps_none true name s (awaiting rows) word (refused s word waits ended o) (ends_early name rows word d)
waits_word name s rows word waits ended holds (is_long text o d l with-is) =
    waits_long name s rows word (before_first (λ b. b == 61) text) (option_value text) (refused s word waits ended o) d l
waits_word name s rows word waits ended holds (is_short c b bs o d l h first with-is) =
    keeps_none true name s (awaiting rows) word (refused s word waits ended o)
    (turn_fails true name (awaiting rows) word UnknownArgument [] (turn.short_fault_is true name rows (Some (codes "workers", [])) (option (codes "workers")) word c b bs d l h first))

step_waits : (has : Bool) (name : Text) (s : Said) (word : Text) (rows : List Row) → has ≡ true → s.waits ≡ true → s.ended ≡ false → Holds s rows → Look word
    → Keeps has name (with_word has s word) (awaiting rows) word
step_waits false name s word rows options waits ended holds looks = absurd (true≢false (sym options))
step_waits true name s word rows options waits ended holds looks = waits_word name s rows word waits ended holds looks

step : (has : Bool) (name : Text) (s : Said) (w : Walk) (word : Text) → Look word → Matches has s w → Keeps has name (with_word has s word) w word
step has name s w word looks (inl f) = subst (λ v. Keeps has name (with_word has s word) v word) (sym f.is) (step_free has name s word f.rows f.last f.kind s.ended f.fits f.waits f.holds refl looks)
step has name s w word looks (inr f) = subst (λ v. Keeps has name (with_word has s word) v word) (sym f.is) (step_waits has name s word f.rows f.options f.waits f.ended f.holds looks)

-- ---- the end of the arguments

if_same : {X : Type 0} (b : Bool) (x : X) → (if b then x else x) ≡ x
if_same true x = refl
if_same false x = refl

abbrev defaulted : Bool → List Row → List Row
defaulted has rows = fold with_default rows (rules_for has)

counted_so : (s : Said) (rows : List Row) → Holds s rows → s.count ≡ true → defaulted true rows ≡ rows
counted_so s rows h e =
    let there = h.count ∙ ap (λ (b : Bool). row_with (codes "count") (if b then codes "true" ∷ [] else [])) e in
    let has : has_row (codes "count") rows ≡ true = has_row_is (codes "count") rows ∙ ap is_some there in
    simp (if_same, has)

uncounted_so : (s : Said) (rows : List Row) → Holds s rows → s.count ≡ false → defaulted true rows ≡ added DefaultValue (codes "count") (codes "false") rows
uncounted_so s rows h e =
    let has : has_row (codes "count") rows ≡ false = has_row_is (codes "count") rows ∙ ap is_some (no_count s rows e h) in
    simp (if_same, has)

says_rows : (has : Bool) (s : Said) (rows : List Row) → Holds s rows → (has ≡ true → one_of (codes "count") rows ≡ Some (if s.count then codes "true" else codes "false")) → Says has s rows
says_rows has s rows h count = record {
  plain = values_with (codes "plain") s.plain rows h.plain;
  workers = values_with (codes "workers") s.workers rows h.workers;
  count = count;
}

values_end : (has : Bool) (s : Said) (rows : List Row) → Holds s rows → Says has s (defaulted has rows)
values_end false s rows h = subst (Says false s) (sym (if_same (has_row (codes "plain") rows) rows)) (says_rows false s rows h (λ e. absurd (true≢false (sym e))))
values_end true s rows h = elim (cases_Bool s.count) [
  | inl e ↦
      let there = h.count ∙ ap (λ (b : Bool). row_with (codes "count") (if b then codes "true" ∷ [] else [])) e in
      subst (Says true s) (sym (counted_so s rows h e)) (says_rows true s rows h (λ t. rw (e, there) refl))
  | inr e ↦
      let own = first_added DefaultValue (codes "count") (codes "false") rows (no_count s rows e h) in
      let plain = other_added DefaultValue (codes "count") (codes "plain") (codes "false") rows refl ∙ h.plain in
      let workers = other_added DefaultValue (codes "count") (codes "workers") (codes "false") rows refl ∙ h.workers in
      subst (Says true s) (sym (uncounted_so s rows h e)) (record {
        plain = values_with (codes "plain") s.plain (added DefaultValue (codes "count") (codes "false") rows) plain;
        workers = values_with (codes "workers") s.workers (added DefaultValue (codes "count") (codes "false") rows) workers;
        count = λ t. rw (e, own) refl;
      })
]

end_faults : (has : Bool) (name : Text) (rows : List Row) (p : Pending) → faults_at_end has name (held rows p) ≡ settle_fault (rules_for has) false (held rows p)
unfolding defaults_fault
end_faults false name rows p = simp (if_same, turn.or_else_nil)
end_faults true name rows p = simp (if_same, turn.or_else_nil)

unless_waits : (has waits : Bool) (s : Said) (faults : Kinds) (rows : List Row) → waits ≡ false → Agrees has (Some s) faults rows → Agrees has (if waits then None else Some s) faults rows
unless_waits has waits s faults rows e agrees = rw e agrees

end_free : (has : Bool) (name : Text) (s : Said) (rows : List Row) (last : Use) (waiting : Waiting) (ended : Bool) → Fits has last → s.waits ≡ false → Holds s (settled_by last rows)
    → Agrees has (said_after has s []) (whole has name (walk_at rows (pending_of last) waiting ended) []) (rows_at_end has (walk_at rows (pending_of last) waiting ended) [])
unfolding walk_fault
end_free has name s rows last waiting ended fits waits holds =
    unless_waits has s.waits s (faults_at_end has name (held rows (pending_of last))) (defaulted has (settled_rows (rules_for has) (pending_of last) rows)) waits (
      end_faults has name rows (pending_of last) ∙ settles has last rows fits,
      subst (Says has s) (sym (ap (defaulted has) (settles_to has last rows fits))) (values_end has s (settled_by last rows) holds),
    )

end_waits : (has : Bool) (name : Text) (s : Said) (rows : List Row) → has ≡ true → s.waits ≡ true
    → Agrees has (said_after has s []) (whole has name (awaiting rows) []) (rows_at_end has (awaiting rows) [])
unfolding walk_fault
end_waits false name s rows options waits = absurd (true≢false (sym options))
end_waits true name s rows options waits = rw waits (λ e. some_fault InvalidValue [] e)

at_end : (has : Bool) (name : Text) (s : Said) (w : Walk) → Matches has s w → Agrees has (said_after has s []) (whole has name w []) (rows_at_end has w [])
at_end has name s w (inl f) = subst (λ v. Agrees has (said_after has s []) (whole has name v []) (rows_at_end has v [])) (sym f.is) (end_free has name s f.rows f.last (calm f.kind) s.ended f.fits f.waits f.holds)
at_end has name s w (inr f) = subst (λ v. Agrees has (said_after has s []) (whole has name v []) (rows_at_end has v [])) (sym f.is) (end_waits has name s f.rows f.options f.waits)

follow : (has : Bool) (name : Text) (w : Walk) (word : Text) (words : List Text) (o : Option Said) → Keeps has name o w word
    → ((next : Said) → Matches has next (walked (rules_for has) [] w word)
    → Agrees has (said_after has next words) (whole has name (walked (rules_for has) [] w word) words) (rows_at_end has (walked (rules_for has) [] w word) words))
    → Agrees has (option_and_then (λ next. said_after has next words) o) (whole has name w (word ∷ words)) (rows_at_end has w (word ∷ words))
follow has name w word words None keeps rest = keeps words
follow has name w word words (Some next) keeps rest =
    subst (λ f. Agrees has (said_after has next words) f (rows_at_end has (walked (rules_for has) [] w word) words))
    (sym (whole_more has name w word words ∙ ap (λ f. or_else f (whole has name (walked (rules_for has) [] w word) words)) keeps.0))
    (rest next keeps.1)

agree : (has : Bool) (name : Text) (s : Said) (w : Walk) (words : List Text) → Each IsUtf8 words → Matches has s w → Agrees has (said_after has s words) (whole has name w words) (rows_at_end has w words)
agree has name s w [] texts matches = at_end has name s w matches
agree has name s w (word ∷ words) texts matches =
    follow has name w word words (with_word has s word) (step has name s w word (look word texts.0) matches)
    (λ next more. agree has name next (walked (rules_for has) [] w word) words texts.1 more)

none_fits : (has : Bool) → Fits has nothing
none_fits false = tt
none_fits true = tt

words_after : (has : Bool) (name : Text) (words : List Text) → argument_words (app_for has name) words ≡ drop 1 words
words_after false name words = refl
words_after true name words = refl

abbrev app_built : Bool → Text → App
app_built has name = record { top = shape_for has name; subs = [] }

faults_are : (has : Bool) (name : Text) (words : List Text) → fault_of (app_for has name) words ≡ whole has name (walk_from nothing_held) (drop 1 words)
faults_are has name words =
    ap (λ a. built_fault a nothing_held (argument_words (app_for has name) words)) (built_is has name)
    ∙ ap (built_fault (app_built has name) nothing_held) (words_after has name words)
    ∙ leaf_fault (app_built has name) nothing_held (drop 1 words) refl

rows_are : (has : Bool) (name : Text) (words : List Text) → matches_of (app_for has name) words ≡ rows_at_end has (walk_from nothing_held) (drop 1 words)
rows_are has name words =
    ap (λ a. rows_after a.top.rules (names_of a) (argument_words (app_for has name) words)) (built_is has name)
    ∙ ap (rows_after (rules_for has) []) (words_after has name words)

-- what clap finds in the arguments is what they have given
pub words_agree : (has : Bool) (name : Text) (words : List Text) → Each IsUtf8 (drop 1 words)
    → Agrees has (said_after has nothing_said (drop 1 words)) (fault_of (app_for has name) words) (matches_of (app_for has name) words)
words_agree has name words texts =
    let start : Matches has nothing_said (walk_from nothing_held) = inl (record {
      rows = [];
      last = nothing;
      kind = false;
      fits = none_fits has;
      waits = refl;
      holds = record { plain = refl; workers = refl; count = refl };
      is = refl;
    }) in
    subst (λ f. Agrees has (said_after has nothing_said (drop 1 words)) f (matches_of (app_for has name) words)) (sym (faults_are has name words))
    (subst (λ r. Agrees has (said_after has nothing_said (drop 1 words)) (whole has name (walk_from nothing_held) (drop 1 words)) r) (sym (rows_are has name words))
    (agree has name nothing_said (walk_from nothing_held) (drop 1 words) texts start))
