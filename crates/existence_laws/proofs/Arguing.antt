-- What arguments are read as, by their parts.
use Rattle.std.proofs.Common.{◌≡◌, ◌⊎◌, inl, inr, ℕ, suc, ◌+◌, Bool, true, false, List, [], ◌∷◌, ◌++◌, length, take, drop, Option, Some, None, codes, refl, sym, ap, subst, ◌∙◌, arith, true≢false}
use Rattle.std.specs.Prelude.{◌==◌, ◌&&◌, bytes_eq, filter, is_some, not, option_map, option_and_then, if◌then◌else◌}
use Rattle.std.specs.List.{AllByRecursion, before_first, filter_map, flat_map, list_any, position_or_len}
use Rattle.std.proofs.lemmas.Bool.{and_parts, cases_Bool, eqb-true}
use Rattle.std.proofs.lemmas.List.{append-nil, append_assoc}
use Rattle.std.proofs.lemmas.Option.{none-some, same_Some}
use Rattle.std.proofs.lemmas.Slice.Eq.{bytes_eq-Decides}
use Rattle.command_words.specs.Words.{Form, Said, check, route, make, preview, shared, prove, audit, file_in, file_said, files_in, files_said, form_after, form_of, form_with, is_option, make_form, names_file, nothing_said, option_value, preview_form, route_form, said_after, seed_of, with_count, with_named, with_option, with_plain, with_workers, workers_said}
use Rattle.existence_laws.specs.Arguments.{ArgumentsAsk, AreFiles, AreNone, ArePlainOf, AreOptionsOf, Ask, Consist, IsFile, IsPart, Part, after_end, counting, is_counting, joined, name_of, parted, plain, plain_in, value_of, words_in}

abbrev Text : Type 0
Text = List ℕ

abbrev said_so : List Text → List Text → Bool → Bool → Bool → Said
said_so said values count waits ended = record { plain = said; workers = values; count = count; waits = waits; ended = ended }

abbrev values_in : List Part → List Text
values_in parts = filter_map value_of parts

abbrev counts_in : List Part → ℕ
counts_in parts = length (filter is_counting parts)

abbrev number : Bool → ℕ
number count = if count then 1 else 0

same_number : (a b : Bool) → number a ≡ number b → a ≡ b
same_number true true e = refl
same_number true false e = absurd (omega (arith, e))
same_number false true e = absurd (omega (arith, e))
same_number false false e = refl

-- a choice that gives something
chosen : {A : Type 0} (b : Bool) (x y : Option A) (z : A) → (if b then x else y) ≡ Some z → ((b ≡ true) × (x ≡ Some z)) ⊎ ((b ≡ false) × (y ≡ Some z))
chosen true x y z e = inl (refl, e)
chosen false x y z e = inr (refl, e)

-- one step after another that gives something
record Steps {A B : Type 0} (o : Option A) (f : A → Option B) (z : B) : Type 0 where
  first : A
  is : o ≡ Some first
  then_is : f first ≡ Some z

steps : {A B : Type 0} (o : Option A) (f : A → Option B) (z : B) → option_and_then f o ≡ Some z → Steps o f z
steps None f z e = absurd (none-some z e)
steps (Some x) f z e = record { first = x; is = refl; then_is = e }

mapped : {A B : Type 0} (f : A → B) (o : Option A) (z : B) → option_map f o ≡ Some z → (x : A) × (o ≡ Some x) × (f x ≡ z)
mapped f None z e = absurd (none-some z e)
mapped f (Some x) z e = (x, refl, same_Some (f x) z e)

same_text : (a b : Text) → bytes_eq a b ≡ true → a ≡ b
same_text a b h = (bytes_eq-Decides a b).0 h

-- ---- options as they are written

-- a text has no `=`, or a first one
data Cut (text : Text) : Type 0 where
  whole : before_first (λ b. b == 61) text ≡ text → option_value text ≡ None → Cut text
  cut_at : (name value : Text) → text ≡ name ++ 61 ∷ value → before_first (λ b. b == 61) text ≡ name → option_value text ≡ Some value → Cut text

before_more : (b : ℕ) (text : Text) → (b == 61) ≡ false → before_first (λ c. c == 61) (b ∷ text) ≡ b ∷ before_first (λ c. c == 61) text
before_more b text other =
    let one : 1 + position_or_len (λ c. c == 61) text ≡ suc (position_or_len (λ c. c == 61) text) = omega arith in
    rw other (ap (λ n. take n (b ∷ text)) one)

value_more : (b : ℕ) (text : Text) → (b == 61) ≡ false → option_value (b ∷ text) ≡ option_value text
value_more b text other =
    let one : 1 + position_or_len (λ c. c == 61) text + 1 ≡ suc (position_or_len (λ c. c == 61) text + 1) = omega arith in
    rw other (ap (λ n. if list_any (λ c. c == 61) text then Some (drop n (b ∷ text)) else None) one)

cut_more : (b : ℕ) (text : Text) → (b == 61) ≡ false → Cut text → Cut (b ∷ text)
cut_more b text other (whole before none) = whole (before_more b text other ∙ ap (λ t. b ∷ t) before) (value_more b text other ∙ none)
cut_more b text other (cut_at name value is before some) =
    cut_at (b ∷ name) value (ap (λ t. b ∷ t) is) (before_more b text other ∙ ap (λ t. b ∷ t) before) (value_more b text other ∙ some)

cut : (text : Text) → Cut text
cut [] = whole refl refl
cut (b ∷ text) = elim (cases_Bool (b == 61)) [
  | inl same ↦ cut_at [] text (ap (λ c. c ∷ text) (eqb-true b 61 same)) (rw same refl) (rw same refl)
  | inr other ↦ cut_more b text other (cut text)
]

-- an option that is not refused
data Option_part (s : Said) (word : Text) (next : Said) : Type 0 where
  has_value : (value : Text) → word ≡ codes "--workers=" ++ value → with_workers s (Some value) ≡ next → Option_part s word next
  waits_for : word ≡ codes "--workers" → with_workers s None ≡ next → Option_part s word next
  counts : word ≡ codes "--count" → s.count ≡ false → record s { count = true } ≡ next → Option_part s word next

by_workers : (s next : Said) (text : Text) → codes "workers" ≡ before_first (λ b. b == 61) text → with_workers s (option_value text) ≡ next → Cut text → Option_part s (45 ∷ 45 ∷ text) next
by_workers s next text name is (whole before none) = waits_for (ap (λ t. 45 ∷ 45 ∷ t) (sym (name ∙ before))) (ap (with_workers s) (sym none) ∙ is)
by_workers s next text name is (cut_at front value parts before some) =
    has_value value (ap (λ t. 45 ∷ 45 ∷ t) (parts ∙ ap (λ t. t ++ 61 ∷ value) (sym (name ∙ before)))) (ap (with_workers s) (sym some) ∙ is)

by_flag : (s next : Said) (text : Text) (given : Bool) → codes "--count" ≡ 45 ∷ 45 ∷ text → s.count ≡ given → (if given then None else Some (record s { count = true })) ≡ Some next → Option_part s (45 ∷ 45 ∷ text) next
by_flag s next text true name is e = absurd (none-some next e)
by_flag s next text false name is e = counts (sym name) is (same_Some _ _ e)

by_count : (s next : Said) (text : Text) → codes "count" ≡ before_first (λ b. b == 61) text → with_count s (option_value text) ≡ Some next → Cut text → Option_part s (45 ∷ 45 ∷ text) next
by_count s next text name is (whole before none) = by_flag s next text s.count (ap (λ t. 45 ∷ 45 ∷ t) (name ∙ before)) refl (ap (with_count s) (sym none) ∙ is)
by_count s next text name is (cut_at front value parts before some) = absurd (none-some next (ap (with_count s) (sym some) ∙ is))

by_name : (s next : Said) (text : Text) → with_named true s (before_first (λ b. b == 61) text) (option_value text) ≡ Some next → Option_part s (45 ∷ 45 ∷ text) next
by_name s next text e =
    let name = before_first (λ b. b == 61) text in
    let value = option_value text in
    let counted : Option Said = if bytes_eq (codes "count") name then with_count s value else None in
    elim (chosen (bytes_eq (codes "workers") name) (Some (with_workers s value)) counted next e) [
      | inl h ↦ by_workers s next text (same_text (codes "workers") name h.0) (same_Some _ _ h.1) (cut text)
      | inr h ↦ elim (chosen (bytes_eq (codes "count") name) (with_count s value) None next h.1) [
        | inl k ↦ by_count s next text (same_text (codes "count") name k.0) k.1 (cut text)
        | inr k ↦ absurd (none-some next k.1)
      ]
    ]

option_part : (word : Text) (s next : Said) → is_option word ≡ true → with_option true s word ≡ Some next → Option_part s word next
option_part [] s next is e = absurd (true≢false (sym is))
option_part (b ∷ []) s next is e = absurd (true≢false (sym is))
option_part (b ∷ c ∷ text) s next is e = elim (chosen (c == 45) (with_named true s (before_first (λ d. d == 61) text) (option_value text)) None next e) [
  | inl h ↦
      let first : b ≡ 45 = eqb-true b 45 is in
      let second : c ≡ 45 = eqb-true c 45 h.0 in
      subst (λ (w : Text). Option_part s w next) (λ i. sym first i ∷ sym second i ∷ text) (by_name s next text h.1)
  | inr h ↦ absurd (none-some next h.1)
]

no_options : (word : Text) (s next : Said) → with_option false s word ≡ Some next → ⊥
no_options [] s next e = none-some next e
no_options (b ∷ []) s next e = none-some next e
no_options (b ∷ c ∷ text) s next e = elim (chosen (c == 45) None None next e) [
  | inl h ↦ none-some next h.1
  | inr h ↦ none-some next h.1
]

-- ---- from what is said to the parts

-- the parts of the arguments, and what is said after them
record Found (has : Bool) (words : List Text) (said values : List Text) (count : Bool) (s : Said) : Type 0 where
  parts : List Part
  after : Option (List Text)
  consist : Consist words parts after
  is_plain : s.plain ≡ said ++ plain_in parts after
  are_values : s.workers ≡ values ++ values_in parts
  are_counts : number s.count ≡ number count + counts_in parts
  none : has ≡ false → AreNone (values_in parts) (counts_in parts)

-- the first argument is a value, and the parts come after it
record Waited (has : Bool) (words : List Text) (said values : List Text) (count : Bool) (s : Said) : Type 0 where
  value : Text
  rest : List Text
  parted_is : words ≡ value ∷ rest
  is_value : is_option value ≡ false
  found : Found has rest said (values ++ value ∷ []) count s

abbrev Standing : Bool → List Text → List Text → List Text → Bool → Bool → Said → Type 0
Standing has words said values count false s = Found has words said values count s
Standing has words said values count true s = Waited has words said values count s

ends : (has : Bool) (said values : List Text) (count : Bool) (s : Said) → said_so said values count false false ≡ s → Found has [] said values count s
ends has said values count s is = record {
  parts = [];
  after = None;
  consist = record { spelled = refl; each = tt };
  is_plain = ap (λ (t : Said). t.plain) (sym is) ∙ sym (append-nil said);
  are_values = ap (λ (t : Said). t.workers) (sym is) ∙ sym (append-nil values);
  are_counts = ap (λ (t : Said). number t.count) (sym is) ∙ omega arith;
  none = λ h. (refl, refl);
}

ends_after : (has : Bool) (words said values : List Text) (count : Bool) (s : Said) → said_so (said ++ words) values count false true ≡ s → Found has (codes "--" ∷ words) said values count s
ends_after has words said values count s is = record {
  parts = [];
  after = Some words;
  consist = record { spelled = refl; each = tt };
  is_plain = ap (λ (t : Said). t.plain) (sym is);
  are_values = ap (λ (t : Said). t.workers) (sym is) ∙ sym (append-nil values);
  are_counts = ap (λ (t : Said). number t.count) (sym is) ∙ omega arith;
  none = λ h. (refl, refl);
}

module _ (has : Bool) (words said values : List Text) (s : Said) where
  add_plain : (count : Bool) (word : Text) → is_option word ≡ false → Found has words (said ++ word ∷ []) values count s → Found has (word ∷ words) said values count s
  add_plain count word is f = record {
    parts = plain word ∷ f.parts;
    after = f.after;
    consist = record { spelled = ap (λ ws. word ∷ ws) f.consist.spelled; each = (is, f.consist.each) };
    is_plain = f.is_plain ∙ append_assoc said (word ∷ []) (plain_in f.parts f.after);
    are_values = f.are_values;
    are_counts = f.are_counts;
    none = f.none;
  }

  add_joined : (count : Bool) (value : Text) → has ≡ true → Found has words said (values ++ value ∷ []) count s → Found has ((codes "--workers=" ++ value) ∷ words) said values count s
  add_joined count value takes f = record {
    parts = joined value ∷ f.parts;
    after = f.after;
    consist = record { spelled = ap (λ ws. (codes "--workers=" ++ value) ∷ ws) f.consist.spelled; each = (tt, f.consist.each) };
    is_plain = f.is_plain;
    are_values = f.are_values ∙ append_assoc values (value ∷ []) (values_in f.parts);
    are_counts = f.are_counts;
    none = λ h. absurd (true≢false (sym takes ∙ h));
  }

  add_parted : (count : Bool) → has ≡ true → Waited has words said values count s → Found has (codes "--workers" ∷ words) said values count s
  add_parted count takes w =
      let f = w.found in
      record {
        parts = parted w.value ∷ f.parts;
        after = f.after;
        consist = record { spelled = ap (λ ws. codes "--workers" ∷ ws) (w.parted_is ∙ ap (λ ws. w.value ∷ ws) f.consist.spelled); each = (w.is_value, f.consist.each) };
        is_plain = f.is_plain;
        are_values = f.are_values ∙ append_assoc values (w.value ∷ []) (values_in f.parts);
        are_counts = f.are_counts;
        none = λ h. absurd (true≢false (sym takes ∙ h));
      }

  add_counting : has ≡ true → Found has words said values true s → Found has (codes "--count" ∷ words) said values false s
  add_counting takes f = record {
    parts = counting ∷ f.parts;
    after = f.after;
    consist = record { spelled = ap (λ ws. codes "--count" ∷ ws) f.consist.spelled; each = (tt, f.consist.each) };
    is_plain = f.is_plain;
    are_values = f.are_values;
    are_counts = let more = f.are_counts in omega (arith, more);
    none = λ h. absurd (true≢false (sym takes ∙ h));
  }

-- after `--` all is plain
all_plain : (has : Bool) (words said values : List Text) (count : Bool) → said_after has (said_so said values count false true) words ≡ Some (said_so (said ++ words) values count false true)
all_plain has [] said values count = ap (λ all. Some (said_so all values count false true)) (sym (append-nil said))
all_plain has (word ∷ words) said values count =
    all_plain has words (said ++ word ∷ []) values count ∙ ap (λ all. Some (said_so all values count false true)) (append_assoc said (word ∷ []) words)

abbrev Onwards : Bool → List Text → Said → Type 0
Onwards has words s = (said values : List Text) (count waits : Bool) → said_after has (said_so said values count waits false) words ≡ Some s → Standing has words said values count waits s

add_option : (words : List Text) (s : Said) (said values : List Text) → Onwards true words s → (word : Text) (count : Bool) (next : Said) → said_after true next words ≡ Some s
    → Option_part (said_so said values count false false) word next → Found true (word ∷ words) said values count s
add_option words s said values on word count next e (has_value value is to) =
    let there = ap (λ (n : Said). said_after true n words) to ∙ e in
    subst (λ (w : Text). Found true (w ∷ words) said values count s) (sym is) (add_joined true words said values s count value refl (on said (values ++ value ∷ []) count false there))
add_option words s said values on word count next e (waits_for is to) =
    let there = ap (λ (n : Said). said_after true n words) to ∙ e in
    subst (λ (w : Text). Found true (w ∷ words) said values count s) (sym is) (add_parted true words said values s count refl (on said values count true there))
add_option words s said values on word count next e (counts is free to) =
    let there = ap (λ (n : Said). said_after true n words) to ∙ e in
    subst (λ (b : Bool). Found true (word ∷ words) said values b s) (sym free)
    (subst (λ (w : Text). Found true (w ∷ words) said values false s) (sym is) (add_counting true words said values s refl (on said values true false there)))

add_named : (has : Bool) (words : List Text) (s : Said) (said values : List Text) → Onwards has words s → (word : Text) (count : Bool) (next : Said) → is_option word ≡ true →
    with_option has (said_so said values count false false) word ≡ Some next → said_after has next words ≡ Some s → Found has (word ∷ words) said values count s
add_named false words s said values on word count next is e rest = absurd (no_options word (said_so said values count false false) next e)
add_named true words s said values on word count next is e rest =
    add_option words s said values on word count next rest (option_part word (said_so said values count false false) next is e)

module _ (has : Bool) (word : Text) (words : List Text) (s : Said) (on : Onwards has words s) (said values : List Text) where
  abbrev at_option_of : Bool → Option Said
  at_option_of count = if bytes_eq word (codes "--") then Some (said_so said values count false true) else with_option has (said_so said values count false false) word

  at_option : (count : Bool) → is_option word ≡ true → option_and_then (λ next. said_after has next words) (at_option_of count) ≡ Some s → Found has (word ∷ words) said values count s
  at_option count is e =
      let taken = steps (at_option_of count) (λ next. said_after has next words) s e in
      elim (chosen (bytes_eq word (codes "--")) (Some (said_so said values count false true)) (with_option has (said_so said values count false false) word) taken.first taken.is) [
        | inl h ↦
            let to : said_so said values count false true ≡ taken.first = same_Some _ _ h.1 in
            let end = same_Some _ _ (sym (all_plain has words said values count) ∙ ap (λ (n : Said). said_after has n words) to ∙ taken.then_is) in
            subst (λ (w : Text). Found has (w ∷ words) said values count s) (sym (same_text word (codes "--") h.0)) (ends_after has words said values count s end)
        | inr h ↦ add_named has words s said values on word count taken.first is h.1 taken.then_is
      ]

  abbrev at_word_of : Bool → Bool → Bool → Option Said
  at_word_of count waits looks = if not looks then Some (with_plain (said_so said values count waits false) word) else (if waits then None else (if bytes_eq word (codes "--") then Some (said_so said values count waits true) else with_option has (said_so said values count waits false) word))

  at_word : (count waits looks : Bool) → is_option word ≡ looks → option_and_then (λ next. said_after has next words) (at_word_of count waits looks) ≡ Some s → Standing has (word ∷ words) said values count waits s
  at_word count false false is e = add_plain has words said values s count word is (on (said ++ word ∷ []) values count false e)
  at_word count true false is e = record { value = word; rest = words; parted_is = refl; is_value = is; found = on said (values ++ word ∷ []) count false e }
  at_word count false true is e = at_option count is e
  at_word count true true is e = absurd (none-some s e)

found : (has : Bool) (words : List Text) (s : Said) → Onwards has words s
found has [] s said values count false e = ends has said values count s (same_Some _ _ e)
found has [] s said values count true e = absurd (none-some s e)
found has (word ∷ words) s said values count waits e = at_word has word words s (found has words s) said values count waits (is_option word) refl e

-- ---- from the parts to what is said

one_flag : (count total : Bool) (n : ℕ) → number total ≡ number count + suc n → count ≡ false
one_flag false total n e = refl
one_flag true true n e = absurd (omega (arith, e))
one_flag true false n e = absurd (omega (arith, e))

-- options stand only where they are taken
abbrev Takes : Bool → List Part → Type 0
Takes has parts = has ≡ false → AreNone (values_in parts) (counts_in parts)

no_values : (value : Text) (values : List Text) → value ∷ values ≡ [] → ⊥
no_values value values e = cc

reads : (has : Bool) (parts : List Part) (after : Option (List Text)) (said values : List Text) (count total : Bool) → AllByRecursion IsPart parts → number total ≡ number count + counts_in parts → Takes has parts →
    said_after has (said_so said values count false false) (flat_map words_in parts ++ after_end after) ≡ Some (said_so (said ++ plain_in parts after) (values ++ values_in parts) total false (is_some after))
reads has [] None said values count total each sum takes =
    let same : count ≡ total = same_number count total (omega (arith, sum)) in
    λ i. Some (said_so (sym (append-nil said) i) (sym (append-nil values) i) (same i) false false)
reads has [] (Some words) said values count total each sum takes =
    let same : count ≡ total = same_number count total (omega (arith, sum)) in
    all_plain has words said values count ∙ (λ i. Some (said_so (said ++ words) (sym (append-nil values) i) (same i) false true))
reads has (plain word ∷ parts) after said values count total each sum takes =
    rw each.0
    (reads has parts after (said ++ word ∷ []) values count total each.1 sum takes
    ∙ ap (λ all. Some (said_so all (values ++ values_in parts) total false (is_some after))) (append_assoc said (word ∷ []) (plain_in parts after)))
reads false (joined value ∷ parts) after said values count total each sum takes = absurd (no_values value (values_in parts) (takes refl).0)
reads true (joined value ∷ parts) after said values count total each sum takes =
    reads true parts after said (values ++ value ∷ []) count total each.1 sum (λ h. absurd (true≢false h))
    ∙ ap (λ all. Some (said_so (said ++ plain_in parts after) all total false (is_some after))) (append_assoc values (value ∷ []) (values_in parts))
reads false (parted value ∷ parts) after said values count total each sum takes = absurd (no_values value (values_in parts) (takes refl).0)
reads true (parted value ∷ parts) after said values count total each sum takes =
    rw each.0
    (reads true parts after said (values ++ value ∷ []) count total each.1 sum (λ h. absurd (true≢false h))
    ∙ ap (λ all. Some (said_so (said ++ plain_in parts after) all total false (is_some after))) (append_assoc values (value ∷ []) (values_in parts)))
reads false (counting ∷ parts) after said values count total each sum takes = let none = (takes refl).1 in absurd (omega (arith, none))
reads true (counting ∷ parts) after said values count total each sum takes =
    let free : count ≡ false = one_flag count total (counts_in parts) sum in
    let more : number total ≡ 1 + counts_in parts = subst (λ (b : Bool). number total ≡ number b + suc (counts_in parts)) free sum ∙ omega arith in
    rw free (reads true parts after said values true total each.1 more (λ h. absurd (true≢false h)))

-- ---- from a form to its parts

-- the arguments after a subcommand are told apart
record Told (rest : List Text) (P : List Text → Type 0) (O : List Text → ℕ → Type 0) : Type 0 where
  parts : List Part
  after : Option (List Text)
  consist : Consist rest parts after
  are : P (plain_in parts after)
  options : O (values_in parts) (counts_in parts)

asked : (form : Form) (command : Text) (rest : List Text) → command ≡ name_of form → Told rest (ArePlainOf form) (AreOptionsOf form) → Ask (command ∷ rest) form
asked form command rest name t = record { rest = rest; named = ap (λ c. c ∷ rest) name; parts = t.parts; after = t.after; consist = t.consist; plain = t.are; options = t.options }

file_is : (words : List Text) (file : Text) → file_in words ≡ Some file → IsFile words file
file_is [] file e = absurd (none-some file e)
file_is (word ∷ []) file e = elim (chosen (names_file word) (Some word) None file e) [
  | inl h ↦ let same : word ≡ file = same_Some word file h.1 in (ap (λ w. w ∷ []) same, subst (λ (w : Text). names_file w ≡ true) same h.0)
  | inr h ↦ absurd (none-some file h.1)
]
file_is (word ∷ other ∷ words) file e = absurd (none-some file e)

files_are : (words : List Text) (files : Text × Text) → files_in words ≡ Some files → AreFiles words files.0 files.1
files_are [] files e = absurd (none-some files e)
files_are (word ∷ []) files e = absurd (none-some files e)
files_are (one ∷ two ∷ []) files e = elim (chosen (names_file one && names_file two) (Some (one, two)) None files e) [
  | inl h ↦
      let pair : (one, two) ≡ files = same_Some (one, two) files h.1 in
      let named = and_parts (names_file one) (names_file two) h.0 in
      subst (λ (p : Text × Text). AreFiles (one ∷ two ∷ []) p.0 p.1) pair (refl, named.0, named.1)
  | inr h ↦ absurd (none-some files h.1)
]
files_are (one ∷ two ∷ three ∷ words) files e = absurd (none-some files e)

abbrev IsSeed : ℕ → List Text → Type 0
IsSeed seed words = (word : Text) × (words ≡ word ∷ []) × (seed_of word ≡ Some seed)

seed_is : (words : List Text) (form : Form) → make_form words ≡ Some form → (seed : ℕ) × IsSeed seed words × (make seed ≡ form)
seed_is [] form e = absurd (none-some form e)
seed_is (word ∷ []) form e = let m = mapped make (seed_of word) form e in (m.0, (word, refl, m.1), m.2)
seed_is (word ∷ other ∷ words) form e = absurd (none-some form e)

-- what is said with no options
plainly : (rest : List Text) (s : Said) → said_after false nothing_said rest ≡ Some s → Told rest (λ words. words ≡ s.plain) AreNone
plainly rest s e =
    let f : Found false rest [] [] false s = found false rest s [] [] false false e in
    record { parts = f.parts; after = f.after; consist = f.consist; are = sym f.is_plain; options = f.none refl }

-- what is said with options
abbrev SaidOptions : Said → List Text → ℕ → Type 0
SaidOptions s values n = (values ≡ s.workers) × (n ≡ number s.count)

with_options : (rest : List Text) (s : Said) → said_after true nothing_said rest ≡ Some s → Told rest (λ words. words ≡ s.plain) (SaidOptions s)
with_options rest s e =
    let f : Found true rest [] [] false s = found true rest s [] [] false false e in
    let sum = f.are_counts in
    record { parts = f.parts; after = f.after; consist = f.consist; are = sym f.is_plain; options = (sym f.are_values, omega (arith, sum)) }

told_as : {rest : List Text} {P Q : List Text → Type 0} {O R : List Text → ℕ → Type 0} → Told rest P O → ((words : List Text) → P words → Q words) → ((values : List Text) (n : ℕ) → O values n → R values n) → Told rest Q R
told_as t plainly options = record { parts = t.parts; after = t.after; consist = t.consist; are = plainly _ t.are; options = options _ _ t.options }

by_file : (command : Text) (rest : List Text) (form : Form) (f : Text → Form) → ((file : Text) → Told rest (λ words. IsFile words file) AreNone → Ask (command ∷ rest) (f file)) → option_map f (file_said rest) ≡ Some form → Ask (command ∷ rest) form
by_file command rest form f ask e =
    let m = mapped f (file_said rest) form e in
    let t = steps (said_after false nothing_said rest) (λ s. file_in s.plain) m.0 m.1 in
    subst (λ (g : Form). Ask (command ∷ rest) g) m.2
    (ask m.0 (told_as (plainly rest t.first t.is) (λ words same. subst (λ (ws : List Text). IsFile ws m.0) (sym same) (file_is t.first.plain m.0 t.then_is)) (λ values n none. none)))

by_seed : (command : Text) (rest : List Text) (form : Form) → command ≡ codes "make" → option_and_then (λ s. make_form s.plain) (said_after false nothing_said rest) ≡ Some form → Ask (command ∷ rest) form
by_seed command rest form name e =
    let t = steps (said_after false nothing_said rest) (λ s. make_form s.plain) form e in
    let seed = seed_is t.first.plain form t.then_is in
    subst (λ (g : Form). Ask (command ∷ rest) g) seed.2
    (asked (make seed.0) command rest name (told_as (plainly rest t.first t.is) (λ words same. subst (IsSeed seed.0) (sym same) seed.1) (λ values n none. none)))

by_audit : (command : Text) (rest : List Text) (form : Form) → command ≡ codes "audit" → option_map (λ files. audit files.0 files.1) (files_said rest) ≡ Some form → Ask (command ∷ rest) form
by_audit command rest form name e =
    let m = mapped (λ files. audit files.0 files.1) (files_said rest) form e in
    let t = steps (said_after false nothing_said rest) (λ s. files_in s.plain) m.0 m.1 in
    subst (λ (g : Form). Ask (command ∷ rest) g) m.2
    (asked (audit m.0.0 m.0.1) command rest name
    (told_as (plainly rest t.first t.is) (λ words same. subst (λ (ws : List Text). AreFiles ws m.0.0 m.0.1) (sym same) (files_are t.first.plain m.0 t.then_is)) (λ values n none. none)))

by_route : (command : Text) (rest : List Text) (form : Form) → command ≡ codes "route" → form_with route_form rest ≡ Some form → Ask (command ∷ rest) form
by_route command rest form name e =
    let t = steps (said_after true nothing_said rest) (λ s. option_and_then (route_form s.plain s.count) (workers_said s.workers)) form e in
    let w = steps (workers_said t.first.workers) (route_form t.first.plain t.first.count) form t.then_is in
    let m = mapped (λ files. route files.0 files.1 w.first t.first.count) (files_in t.first.plain) form w.then_is in
    subst (λ (g : Form). Ask (command ∷ rest) g) m.2
    (asked (route m.0.0 m.0.1 w.first t.first.count) command rest name
    (told_as (with_options rest t.first t.is) (λ words same. subst (λ (ws : List Text). AreFiles ws m.0.0 m.0.1) (sym same) (files_are t.first.plain m.0 m.1))
    (λ values n said. (ap workers_said said.0 ∙ w.is, said.1))))

no_flag : (files : List Text) (count : Bool) (workers : ℕ) (form : Form) → preview_form files count workers ≡ Some form → (count ≡ false) × (option_map (λ f. preview f.0 f.1 workers) (files_in files) ≡ Some form)
unfolding preview_form
no_flag files true workers form e = absurd (none-some form e)
no_flag files false workers form e = (refl, e)

by_preview : (command : Text) (rest : List Text) (form : Form) → command ≡ codes "preview" → form_with preview_form rest ≡ Some form → Ask (command ∷ rest) form
by_preview command rest form name e =
    let t = steps (said_after true nothing_said rest) (λ s. option_and_then (preview_form s.plain s.count) (workers_said s.workers)) form e in
    let w = steps (workers_said t.first.workers) (preview_form t.first.plain t.first.count) form t.then_is in
    let flag = no_flag t.first.plain t.first.count w.first form w.then_is in
    let m = mapped (λ files. preview files.0 files.1 w.first) (files_in t.first.plain) form flag.1 in
    subst (λ (g : Form). Ask (command ∷ rest) g) m.2
    (asked (preview m.0.0 m.0.1 w.first) command rest name
    (told_as (with_options rest t.first t.is) (λ words same. subst (λ (ws : List Text). AreFiles ws m.0.0 m.0.1) (sym same) (files_are t.first.plain m.0 m.1))
    (λ values n said. (ap workers_said said.0 ∙ w.is, said.1 ∙ ap number flag.0))))

module _ (command : Text) (rest : List Text) (form : Form) where
  abbrev Asks : Type 0
  Asks = Ask (command ∷ rest) form

  abbrev after_shared : Option Form
  after_shared = if bytes_eq command (codes "prove") then option_map prove (file_said rest) else (if bytes_eq command (codes "audit") then option_map (λ files. audit files.0 files.1) (files_said rest) else None)

  abbrev after_make : Option Form
  after_make = if bytes_eq command (codes "preview") then form_with preview_form rest else (if bytes_eq command (codes "shared") then option_map shared (file_said rest) else after_shared)

  by_later : after_shared ≡ Some form → Asks
  by_later e = elim (chosen (bytes_eq command (codes "prove")) _ _ form e) [
    | inl h ↦ by_file command rest form prove (λ file. asked (prove file) command rest (same_text command (codes "prove") h.0)) h.1
    | inr h ↦ elim (chosen (bytes_eq command (codes "audit")) _ _ form h.1) [
      | inl k ↦ by_audit command rest form (same_text command (codes "audit") k.0) k.1
      | inr k ↦ absurd (none-some form k.1)
    ]
  ]

  by_middle : after_make ≡ Some form → Asks
  by_middle e = elim (chosen (bytes_eq command (codes "preview")) _ _ form e) [
    | inl h ↦ by_preview command rest form (same_text command (codes "preview") h.0) h.1
    | inr h ↦ elim (chosen (bytes_eq command (codes "shared")) _ _ form h.1) [
      | inl k ↦ by_file command rest form shared (λ file. asked (shared file) command rest (same_text command (codes "shared") k.0)) k.1
      | inr k ↦ by_later k.1
    ]
  ]

  by_command : form_after command rest ≡ Some form → Asks
  by_command e = elim (chosen (bytes_eq command (codes "check")) _ _ form e) [
    | inl h ↦ by_file command rest form check (λ file. asked (check file) command rest (same_text command (codes "check") h.0)) h.1
    | inr h ↦ elim (chosen (bytes_eq command (codes "route")) _ _ form h.1) [
      | inl k ↦ by_route command rest form (same_text command (codes "route") k.0) k.1
      | inr k ↦ elim (chosen (bytes_eq command (codes "make")) _ _ form k.1) [
        | inl m ↦ by_seed command rest form (same_text command (codes "make") m.0) m.1
        | inr m ↦ by_middle m.1
      ]
    ]
  ]

asks : (words : List Text) (form : Form) → form_of words ≡ Some form → Ask words form
asks [] form e = absurd (none-some form e)
asks (command ∷ rest) form e = by_command command rest form e

-- ---- from the parts to the form

module _ (rest : List Text) (parts : List Part) (after : Option (List Text)) (consist : Consist rest parts after) where
  said_is : (has total : Bool) → number total ≡ counts_in parts → Takes has parts → said_after has nothing_said rest ≡ Some (said_so (plain_in parts after) (values_in parts) total false (is_some after))
  said_is has total sum takes =
      ap (λ (ws : List Text). said_after has nothing_said ws) consist.spelled ∙ reads has parts after [] [] false total consist.each (omega (arith, sum)) takes

  said_plainly : AreNone (values_in parts) (counts_in parts) → said_after false nothing_said rest ≡ Some (said_so (plain_in parts after) (values_in parts) false false (is_some after))
  said_plainly none = said_is false false (sym none.1) (λ h. none)

  file_read : (file : Text) → IsFile (plain_in parts after) file → AreNone (values_in parts) (counts_in parts) → file_said rest ≡ Some file
  file_read file is none = rw (said_plainly none, is.0, is.1) refl

  seed_read : (seed : ℕ) → IsSeed seed (plain_in parts after) → AreNone (values_in parts) (counts_in parts) → option_and_then (λ s. make_form s.plain) (said_after false nothing_said rest) ≡ Some (make seed)
  seed_read seed is none = rw (said_plainly none, is.1, is.2) refl

  files_read : (first second : Text) → AreFiles (plain_in parts after) first second → AreNone (values_in parts) (counts_in parts) → files_said rest ≡ Some (first, second)
  files_read first second are none = rw (said_plainly none, are.0, are.1, are.2) refl

  route_read : (first second : Text) (workers : ℕ) (count : Bool) → AreFiles (plain_in parts after) first second → workers_said (values_in parts) ≡ Some workers → counts_in parts ≡ (if count then 1 else 0)
      → form_with route_form rest ≡ Some (route first second workers count)
  route_read first second workers count are said flag =
      rw (said_is true count (sym flag) (λ h. absurd (true≢false h)), said, are.0, are.1, are.2) refl

  preview_read : (first second : Text) (workers : ℕ) → AreFiles (plain_in parts after) first second → workers_said (values_in parts) ≡ Some workers → counts_in parts ≡ 0
      → form_with preview_form rest ≡ Some (preview first second workers)
  unfolding preview_form
  preview_read first second workers are said flag =
      rw (said_is true false (sym flag) (λ h. absurd (true≢false h)), said, are.0, are.1, are.2) refl

  reads_as : (form : Form) → ArePlainOf form (plain_in parts after) → AreOptionsOf form (values_in parts) (counts_in parts) → form_of (name_of form ∷ rest) ≡ Some form
  reads_as (check diagram) are options = rw (file_read diagram are options) refl
  reads_as (route diagram script workers count) are options = route_read diagram script workers count are options.0 options.1
  reads_as (make seed) are options = seed_read seed are options
  reads_as (preview diagram script workers) are options = preview_read diagram script workers are options.0 options.1
  reads_as (shared diagram) are options = rw (file_read diagram are options) refl
  reads_as (prove diagram) are options = rw (file_read diagram are options) refl
  reads_as (audit diagram certificate) are options = rw (files_read diagram certificate are options) refl

is_read : (words : List Text) (form : Form) → Ask words form → form_of words ≡ Some form
is_read words form a = ap form_of a.named ∙ reads_as a.rest a.parts a.after a.consist form a.plain a.options

pub arguments_ask : ArgumentsAsk
arguments_ask = record {
  read = λ words form. (asks words form, is_read words form);
  one = λ words form other a b. same_Some form other (sym (is_read words form a) ∙ is_read words other b);
}
