-- What clap makes of one argument.
use Rattle.std.proofs.Common.{◌≡◌, ℕ, Bool, true, false, List, [], ◌∷◌, Option, Some, None, codes, refl}
use Rattle.std.specs.Prelude.{◌&&◌, ◌||◌, bytes_eq, slice_get}
use Rattle.std.specs.Str.{chars}
use Rattle.clap.specs.Lexer.{long_of, short_of}
use Rattle.clap.specs.Faults.{flags_fault, repeat_fault, settle_fault, turn_fault}
use Rattle.clap.specs.Kinds.{Kinds, or_else}
use Rattle.clap.specs.Walk.{Held, Row, Text, Waiting, Walk, settled_rows, subcommand_met, walked, without}
use Rattle.clap.specs.Walk.{idle, option, positional}
use Rattle.clap.specs.declared.error.kind.ErrorKind.TheVariants.{TooManyValues, UnknownArgument}
use Rattle.command_words.proofs.Built.{rules_for, shape_for}
use Rattle.command_words.proofs.Looks.{dashes}
use Rattle.command_words.proofs.Rows.{with_value}

-- where the walk stands with these rows, this pending argument and what waits
abbrev pub Pending : Type 0
Pending = Option (Text × List Text)

abbrev pub held : List Row → Pending → Held
held rows p = record { rows = rows; pending = p; skip = 0 }

abbrev pub walk_at : List Row → Pending → Waiting → Bool → Walk
walk_at rows p waiting ended = record { held = held rows p; waiting = waiting; position = 1; is_trailing = ended; stopped = None }

-- nothing waits, or the positional does
abbrev pub calm : Bool → Waiting
calm false = idle
calm true = positional

no_subcommand : (waiting : Waiting) (word : Text) → subcommand_met [] waiting word ≡ None
no_subcommand idle word = refl
no_subcommand (option id) word = refl
no_subcommand positional word = refl

and_false : (b : Bool) → (b && false) ≡ false
and_false true = refl
and_false false = refl

or_false : (b : Bool) → (b || false) ≡ b
or_false true = refl
or_false false = refl

pub or_else_nil : (ks : Kinds) → or_else ks [] ≡ ks
or_else_nil [] = refl
or_else_nil (k ∷ ks) = refl

-- an argument after `--`
pub trailing_fault : (has : Bool) (name : Text) (rows : List Row) (p : Pending) (waiting : Waiting) (word : Text)
    → turn_fault (shape_for has name) [] (walk_at rows p waiting true) word ≡ settle_fault (rules_for has) false (held rows p)
trailing_fault false name rows p waiting word = simp and_false
trailing_fault true name rows p waiting word = simp and_false

pub trailing_walk : (has : Bool) (rows : List Row) (p : Pending) (waiting : Waiting) (word : Text)
    → walked (rules_for has) [] (walk_at rows p waiting true) word ≡ walk_at (settled_rows (rules_for has) p rows) (Some (codes "plain", word ∷ [])) positional true
unfolding walked
trailing_walk false rows p waiting word = simp and_false
trailing_walk true rows p waiting word = simp and_false

-- an argument that is no option, where no value is expected
pub plain_fault : (has : Bool) (name : Text) (rows : List Row) (p : Pending) (c : Bool) (word : Text)
    → bytes_eq word dashes ≡ false → long_of word ≡ None → short_of word ≡ None
    → turn_fault (shape_for has name) [] (walk_at rows p (calm c) false) word ≡ settle_fault (rules_for has) false (held rows p)
plain_fault false name rows p false word d l s = rw (d, l, s) (simp and_false)
plain_fault false name rows p true word d l s = rw (d, l, s) (simp and_false)
plain_fault true name rows p false word d l s = rw (d, l, s) (simp and_false)
plain_fault true name rows p true word d l s = rw (d, l, s) (simp and_false)

pub plain_walk : (has : Bool) (rows : List Row) (p : Pending) (c : Bool) (word : Text)
    → bytes_eq word dashes ≡ false → long_of word ≡ None → short_of word ≡ None
    → walked (rules_for has) [] (walk_at rows p (calm c) false) word ≡ walk_at (settled_rows (rules_for has) p rows) (Some (codes "plain", word ∷ [])) positional false
unfolding walked
plain_walk false rows p false word d l s = rw (d, l, s) (simp and_false)
plain_walk false rows p true word d l s = rw (d, l, s) (simp and_false)
plain_walk true rows p false word d l s = rw (d, l, s) (simp and_false)
plain_walk true rows p true word d l s = rw (d, l, s) (simp and_false)

-- `--`
pub end_fault : (has : Bool) (name : Text) (rows : List Row) (p : Pending) (waiting : Waiting) (word : Text)
    → bytes_eq word dashes ≡ true → turn_fault (shape_for has name) [] (walk_at rows p waiting false) word ≡ []
end_fault has name rows p waiting word d = rw (no_subcommand waiting word, d) refl

pub end_walk : (has : Bool) (rows : List Row) (p : Pending) (waiting : Waiting) (word : Text)
    → bytes_eq word dashes ≡ true → walked (rules_for has) [] (walk_at rows p waiting false) word ≡ walk_at rows p waiting true
unfolding walked
end_walk has rows p waiting word d = rw (no_subcommand waiting word, d) refl

-- `--workers` with its value
pub value_fault : (name : Text) (rows : List Row) (p : Pending) (waiting : Waiting) (word n v : Text)
    → bytes_eq word dashes ≡ false → long_of word ≡ Some (n, Some v) → bytes_eq (codes "workers") n ≡ true
    → turn_fault (shape_for true name) [] (walk_at rows p waiting false) word ≡ settle_fault (rules_for true) false (held rows p)
value_fault name rows p waiting word n v d l w = rw (no_subcommand waiting word, d, l, w) (simp or_else_nil)

pub value_walk : (rows : List Row) (p : Pending) (waiting : Waiting) (word n v : Text)
    → bytes_eq word dashes ≡ false → long_of word ≡ Some (n, Some v) → bytes_eq (codes "workers") n ≡ true
    → walked (rules_for true) [] (walk_at rows p waiting false) word ≡ walk_at (with_value (codes "workers") v (settled_rows (rules_for true) p rows)) None idle false
unfolding walked
value_walk rows p waiting word n v d l w = rw (no_subcommand waiting word, d, l, w) refl

-- `--workers` before its value
pub before_fault : (name : Text) (rows : List Row) (p : Pending) (waiting : Waiting) (word n : Text)
    → bytes_eq word dashes ≡ false → long_of word ≡ Some (n, None) → bytes_eq (codes "workers") n ≡ true
    → turn_fault (shape_for true name) [] (walk_at rows p waiting false) word ≡ settle_fault (rules_for true) false (held rows p)
before_fault name rows p waiting word n d l w = rw (no_subcommand waiting word, d, l, w) (simp or_else_nil)

pub before_walk : (rows : List Row) (p : Pending) (waiting : Waiting) (word n : Text)
    → bytes_eq word dashes ≡ false → long_of word ≡ Some (n, None) → bytes_eq (codes "workers") n ≡ true
    → walked (rules_for true) [] (walk_at rows p waiting false) word ≡ walk_at (settled_rows (rules_for true) p rows) (Some (codes "workers", [])) (option (codes "workers")) false
unfolding walked
before_walk rows p waiting word n d l w = rw (no_subcommand waiting word, d, l, w) refl

-- `--count`
pub count_fault_is : (name : Text) (rows : List Row) (p : Pending) (waiting : Waiting) (word n : Text)
    → bytes_eq word dashes ≡ false → long_of word ≡ Some (n, None) → bytes_eq (codes "workers") n ≡ false → bytes_eq (codes "count") n ≡ true
    → turn_fault (shape_for true name) [] (walk_at rows p waiting false) word
    ≡ or_else (settle_fault (rules_for true) false (held rows p)) (repeat_fault false (codes "count") (settled_rows (rules_for true) p rows))
count_fault_is name rows p waiting word n d l w k = rw (no_subcommand waiting word, d, l, w, k) (simp or_else_nil)

pub count_walk : (rows : List Row) (p : Pending) (waiting : Waiting) (word n : Text)
    → bytes_eq word dashes ≡ false → long_of word ≡ Some (n, None) → bytes_eq (codes "workers") n ≡ false → bytes_eq (codes "count") n ≡ true
    → walked (rules_for true) [] (walk_at rows p waiting false) word
    ≡ walk_at (with_value (codes "count") (codes "true") (without (codes "count") (settled_rows (rules_for true) p rows))) None idle false
unfolding walked
count_walk rows p waiting word n d l w k = rw (no_subcommand waiting word, d, l, w, k) refl

-- `--count` with a value, and options that are not there
pub counted_fault : (name : Text) (rows : List Row) (p : Pending) (waiting : Waiting) (word n v : Text)
    → bytes_eq word dashes ≡ false → long_of word ≡ Some (n, Some v) → bytes_eq (codes "workers") n ≡ false → bytes_eq (codes "count") n ≡ true
    → turn_fault (shape_for true name) [] (walk_at rows p waiting false) word ≡ TooManyValues ∷ []
counted_fault name rows p waiting word n v d l w k = rw (no_subcommand waiting word, d, l, w, k) refl

pub unknown_fault : (name : Text) (rows : List Row) (p : Pending) (waiting : Waiting) (word n : Text) (v : Option Text)
    → bytes_eq word dashes ≡ false → long_of word ≡ Some (n, v) → bytes_eq (codes "workers") n ≡ false → bytes_eq (codes "count") n ≡ false
    → turn_fault (shape_for true name) [] (walk_at rows p waiting false) word ≡ UnknownArgument ∷ []
unknown_fault name rows p waiting word n v d l w k = rw (no_subcommand waiting word, d, l, w, k) refl

pub long_fault_is : (name : Text) (rows : List Row) (p : Pending) (waiting : Waiting) (word n : Text) (v : Option Text)
    → bytes_eq word dashes ≡ false → long_of word ≡ Some (n, v)
    → turn_fault (shape_for false name) [] (walk_at rows p waiting false) word ≡ UnknownArgument ∷ []
long_fault_is name rows p waiting word n v d l = rw (no_subcommand waiting word, d, l) refl

pub short_fault_is : (has : Bool) (name : Text) (rows : List Row) (p : Pending) (waiting : Waiting) (word : Text) (c b : ℕ) (bs : Text)
    → bytes_eq word dashes ≡ false → long_of word ≡ None → short_of word ≡ Some (b ∷ bs) → slice_get (chars (b ∷ bs)) 0 ≡ Some c
    → turn_fault (shape_for has name) [] (walk_at rows p waiting false) word ≡ UnknownArgument ∷ []
unfolding flags_fault
short_fault_is false name rows p waiting word c b bs d l s first = rw (no_subcommand waiting word, d, l, s, first) refl
short_fault_is true name rows p waiting word c b bs d l s first = rw (no_subcommand waiting word, d, l, s, first) refl

-- the value that `--workers` waits for
pub awaited_fault : (name : Text) (rows : List Row) (word : Text)
    → bytes_eq word dashes ≡ false → long_of word ≡ None → short_of word ≡ None
    → turn_fault (shape_for true name) [] (walk_at rows (Some (codes "workers", [])) (option (codes "workers")) false) word ≡ []
awaited_fault name rows word d l s = rw (d, l, s) refl

pub awaited_walk : (rows : List Row) (word : Text)
    → bytes_eq word dashes ≡ false → long_of word ≡ None → short_of word ≡ None
    → walked (rules_for true) [] (walk_at rows (Some (codes "workers", [])) (option (codes "workers")) false) word
    ≡ walk_at rows (Some (codes "workers", word ∷ [])) idle false
unfolding walked
awaited_walk rows word d l s = rw (d, l, s) refl
