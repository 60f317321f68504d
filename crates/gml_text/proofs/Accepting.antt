-- What is spelled is accepted: the states of a reader over each part of a spelling.
use Rattle.std.proofs.Common.{◌≡◌, ℕ, ◌<◌, true, false, not, ◌||◌, cond, ◌==◌, List, [], ◌∷◌, ◌++◌, length, Option, Some, None, ◌⊎◌, inl, inr, refl, sym, ap, ◌∙◌, subst, arith, append_assoc}
use Rattle.std.specs.List.{AllByRecursion, concat, list_all}
use Rattle.std.specs.Option.{option_map, option_and_then, option_map_or}
use Rattle.std.proofs.lemmas.Bool.{and_parts, not-true, cond-true, cond-false, false≢true}
use Rattle.std.proofs.lemmas.List.{append-nil}
use Rattle.gml_text.specs.Bytes.{is_space, begins_key, is_key_byte, is_word_byte}
use Rattle.gml_text.specs.Tree.{Content, number, text, list, Pairs, no_pairs, pair, ◌then◌}
use Rattle.fixed_milli.specs.Number.{IsNumber}
use Rattle.gml_text.specs.Grammar.{Lacks, IsBlank, IsWhiteSpace, IsKey, EndsWord, StandsApart, SpellsPairs, SpellsValue, IsEnding, SpellsDocument}
use Rattle.gml_text.specs.Reading.{Where, between, following, Mode, in_gap, in_comment, in_key, in_number, in_text, Frame, State, start, number_step, accepted}
use Rattle.gml_text.specs.Token.{begun, after, is_complete}
use Rattle.gml_text.specs.declared.token.NumberPart.{NumberPart}
use Rattle.gml_text.proofs.ByteLemmas.{key_begin, no_word, space_no_word, after_no_word, number_begin}
use Rattle.gml_text.proofs.Numbers.{ends, number_ends}

abbrev pub at : Mode → List Frame → Pairs → State
at mode fs ps = record { mode = mode; lists = fs; pairs = ps }

-- the lists and the pairs of one list, one after the other
pub then_assoc : (a b c : Pairs) → (a then b) then c ≡ a then (b then c)
then_assoc no_pairs b c = refl
then_assoc (pair key value rest) b c = ap (pair key value) (then_assoc rest b c)

pub then-none : (a : Pairs) → a then no_pairs ≡ a
then-none no_pairs = refl
then-none (pair key value rest) = ap (pair key value) (then-none rest)

comment_passes : (line more : List ℕ) (place : Where) (fs : List Frame) (ps : Pairs) → Lacks 10 line
    → accepted ((line ++ 10 ∷ []) ++ more) (at (in_comment place) fs ps) ≡ accepted more (at (in_gap place) fs ps)
comment_passes [] more place fs ps h = refl
comment_passes (b ∷ line) more place fs ps h =
    let parts = and_parts (not (b == 10)) _ h in
    ap (λ t. accepted ((line ++ 10 ∷ []) ++ more) (at (cond t (in_gap place) (in_comment place)) fs ps)) (not-true (b == 10) parts.0)
    ∙ comment_passes line more place fs ps parts.1

blank_passes : (blank more : List ℕ) (place : Where) (fs : List Frame) (ps : Pairs) → IsBlank blank
    → accepted (blank ++ more) (at (in_gap place) fs ps) ≡ accepted more (at (in_gap place) fs ps)
blank_passes blank more place fs ps (inl s) =
    subst (λ x. accepted (x ++ more) (at (in_gap place) fs ps) ≡ accepted more (at (in_gap place) fs ps)) (sym s.1)
    (ap (option_and_then (accepted more)) (cond-true (is_space s.0) _ _ s.2))
blank_passes blank more place fs ps (inr s) =
    subst (λ x. accepted (x ++ more) (at (in_gap place) fs ps) ≡ accepted more (at (in_gap place) fs ps)) (sym s.1)
    (comment_passes s.0 more place fs ps s.2)

blanks_pass : (blanks : List (List ℕ)) (more : List ℕ) (place : Where) (fs : List Frame) (ps : Pairs) → AllByRecursion IsBlank blanks
    → accepted (concat blanks ++ more) (at (in_gap place) fs ps) ≡ accepted more (at (in_gap place) fs ps)
blanks_pass [] more place fs ps h = refl
blanks_pass (x ∷ xs) more place fs ps h =
    ap (λ z. accepted z (at (in_gap place) fs ps)) (append_assoc x (concat xs) more)
    ∙ (blank_passes x (concat xs ++ more) place fs ps h.0 ∙ blanks_pass xs more place fs ps h.1)

-- white space changes nothing
pub gap_passes : (gap more : List ℕ) (place : Where) (fs : List Frame) (ps : Pairs) → IsWhiteSpace gap
    → accepted (gap ++ more) (at (in_gap place) fs ps) ≡ accepted more (at (in_gap place) fs ps)
gap_passes gap more place fs ps g =
    subst (λ x. accepted (x ++ more) (at (in_gap place) fs ps) ≡ accepted more (at (in_gap place) fs ps)) (sym g.1)
    (blanks_pass g.0 more place fs ps g.2)

blank_ends_word : (blank more : List ℕ) → IsBlank blank → EndsWord (blank ++ more)
blank_ends_word blank more (inl s) = subst (λ x. EndsWord (x ++ more)) (sym s.1) (space_no_word s.0 s.2)
blank_ends_word blank more (inr s) = subst (λ x. EndsWord (x ++ more)) (sym s.1) refl

blanks_end_word : (blanks : List (List ℕ)) (more : List ℕ) → AllByRecursion IsBlank blanks → (0 < length (concat blanks)) ⊎ EndsWord more
    → EndsWord (concat blanks ++ more)
blanks_end_word [] more h (inl some) = absurd (omega arith)
blanks_end_word [] more h (inr ends) = ends
blanks_end_word (x ∷ xs) more h either =
    subst EndsWord (sym (append_assoc x (concat xs) more)) (blank_ends_word x (concat xs ++ more) h.0)

-- a word ends before white space, and before what follows where white space may be missing
pub gap_ends_word : (gap more : List ℕ) → IsWhiteSpace gap → (0 < length gap) ⊎ EndsWord more → EndsWord (gap ++ more)
gap_ends_word gap more g either =
    subst (λ x. EndsWord (x ++ more)) (sym g.1)
    (blanks_end_word g.0 more g.2 (subst (λ x. (0 < length x) ⊎ EndsWord more) g.1 either))

key_passes : (bs more key : List ℕ) (fs : List Frame) (ps : Pairs) → list_all is_key_byte bs ≡ true
    → accepted (bs ++ more) (at (in_key key) fs ps) ≡ accepted more (at (in_key (key ++ bs)) fs ps)
key_passes [] more key fs ps h = ap (λ k. accepted more (at (in_key k) fs ps)) (sym (append-nil key))
key_passes (b ∷ bs) more key fs ps h =
    let parts = and_parts (is_key_byte b) _ h in
    ap (option_and_then (accepted (bs ++ more))) (cond-true (is_key_byte b) _ _ parts.0)
    ∙ (key_passes bs more (key ++ b ∷ []) fs ps parts.1
    ∙ ap (λ k. accepted more (at (in_key k) fs ps)) (append_assoc key (b ∷ []) bs))

-- a key ends before what is of no word
pub key_ends : (more key : List ℕ) (fs : List Frame) (ps : Pairs) → EndsWord more
    → accepted more (at (in_key key) fs ps) ≡ accepted more (at (in_gap (following key)) fs ps)
key_ends [] key fs ps h = refl
key_ends (b ∷ bs) key fs ps h =
    ap (option_and_then (accepted bs)) (cond-false (is_key_byte b) _ _ (no_word b h).key ∙ cond-false (is_word_byte b) _ _ h)

-- a key is read, and white space or its value comes
pub key_is_read : (key more : List ℕ) (fs : List Frame) (ps : Pairs) → IsKey key → EndsWord more
    → accepted (key ++ more) (at (in_gap between) fs ps) ≡ accepted more (at (in_gap (following key)) fs ps)
key_is_read [] more fs ps k h = absurd k
key_is_read (b ∷ bs) more fs ps k h =
    let first = key_begin b k.0 in
    ap (option_and_then (accepted (bs ++ more)))
    (cond-false (is_space b) _ _ first.0 ∙ (cond-false (b == 35) _ _ first.1 ∙ (cond-false (b == 93) _ _ first.2 ∙ cond-true (begins_key b) _ _ k.0)))
    ∙ (key_passes bs more (b ∷ []) fs ps k.1 ∙ key_ends more (b ∷ bs) fs ps h)

-- a number ends before what is of no word
pub number_stops : (more key digits : List ℕ) (part : NumberPart) (fs : List Frame) (ps : Pairs) → is_complete part ≡ true → EndsWord more
    → accepted more (at (in_number key digits part) fs ps) ≡ accepted more (at (in_gap between) fs (ps then pair key (number digits) no_pairs))
number_stops [] key digits part fs ps c h = cond-true (is_complete part) _ _ c
number_stops (b ∷ bs) key digits part fs ps c h =
    ap (λ o. option_and_then (accepted bs) (number_step key digits part fs ps b o)) (after_no_word part b h)
    ∙ ap (option_and_then (accepted bs)) (cond-false (is_word_byte b || not (is_complete part)) _ _ (rw (h, c)))

number_goes : (b : ℕ) (bs more key digits : List ℕ) (part : NumberPart) (fs : List Frame) (ps : Pairs) (next : Option NumberPart)
    → ((done : List ℕ) (after : NumberPart) → ends bs after ≡ true
    → accepted (bs ++ more) (at (in_number key done after) fs ps)
    ≡ accepted more (at (in_gap between) fs (ps then pair key (number (done ++ bs)) no_pairs)))
    → option_map_or (ends bs) next false ≡ true
    → option_and_then (accepted (bs ++ more)) (number_step key digits part fs ps b next)
    ≡ accepted more (at (in_gap between) fs (ps then pair key (number (digits ++ b ∷ bs)) no_pairs))
number_goes b bs more key digits part fs ps None later e = absurd (false≢true e)
number_goes b bs more key digits part fs ps (Some next) later e =
    later (digits ++ b ∷ []) next e
    ∙ ap (λ d. accepted more (at (in_gap between) fs (ps then pair key (number d) no_pairs))) (append_assoc digits (b ∷ []) bs)

number_passes : (bs more key digits : List ℕ) (part : NumberPart) (fs : List Frame) (ps : Pairs) → ends bs part ≡ true → EndsWord more
    → accepted (bs ++ more) (at (in_number key digits part) fs ps)
    ≡ accepted more (at (in_gap between) fs (ps then pair key (number (digits ++ bs)) no_pairs))
number_passes [] more key digits part fs ps e h =
    number_stops more key digits part fs ps e h
    ∙ ap (λ d. accepted more (at (in_gap between) fs (ps then pair key (number d) no_pairs))) (sym (append-nil digits))
number_passes (b ∷ bs) more key digits part fs ps e h =
    number_goes b bs more key digits part fs ps (after part b) (λ done next more_ends. number_passes bs more key done next fs ps more_ends h) e

number_is_read_at : (b : ℕ) (bs more key : List ℕ) (part : NumberPart) (fs : List Frame) (ps : Pairs) → begun b ≡ Some part → ends bs part ≡ true → EndsWord more
    → accepted (b ∷ (bs ++ more)) (at (in_gap (following key)) fs ps)
    ≡ accepted more (at (in_gap between) fs (ps then pair key (number (b ∷ bs)) no_pairs))
number_is_read_at b bs more key part fs ps h e apart =
    let first = number_begin b part h in
    ap (option_and_then (accepted (bs ++ more)))
    (cond-false (is_space b) _ _ first.0 ∙ (cond-false (b == 35) _ _ first.1 ∙ (cond-false (b == 91) _ _ first.2 ∙ (cond-false (b == 34) _ _ first.3
    ∙ ap (option_map (λ p. at (in_number key (b ∷ []) p) fs ps)) h))))
    ∙ number_passes bs more key (b ∷ []) part fs ps e apart

-- a number is read
number_is_read : (digits more key : List ℕ) (fs : List Frame) (ps : Pairs) → IsNumber digits → EndsWord more
    → accepted (digits ++ more) (at (in_gap (following key)) fs ps)
    ≡ accepted more (at (in_gap between) fs (ps then pair key (number digits) no_pairs))
number_is_read digits more key fs ps n apart =
    let e = number_ends digits n in
    subst (λ d. accepted (d ++ more) (at (in_gap (following key)) fs ps)
    ≡ accepted more (at (in_gap between) fs (ps then pair key (number d) no_pairs))) (sym e.3)
    (number_is_read_at e.0 e.1 more key e.2 fs ps e.4 e.5 apart)

text_passes : (inner more key done : List ℕ) (fs : List Frame) (ps : Pairs) → Lacks 34 inner
    → accepted ((inner ++ 34 ∷ []) ++ more) (at (in_text key done) fs ps)
    ≡ accepted more (at (in_gap between) fs (ps then pair key (text (done ++ inner)) no_pairs))
text_passes [] more key done fs ps h =
    ap (λ d. accepted more (at (in_gap between) fs (ps then pair key (text d) no_pairs))) (sym (append-nil done))
text_passes (b ∷ inner) more key done fs ps h =
    let parts = and_parts (not (b == 34)) _ h in
    ap (option_and_then (accepted ((inner ++ 34 ∷ []) ++ more))) (cond-false (b == 34) _ _ (not-true (b == 34) parts.0))
    ∙ (text_passes inner more key (done ++ b ∷ []) fs ps parts.1
    ∙ ap (λ d. accepted more (at (in_gap between) fs (ps then pair key (text d) no_pairs))) (append_assoc done (b ∷ []) inner))

ends_word_append : (a b : List ℕ) → EndsWord a → EndsWord b → EndsWord (a ++ b)
ends_word_append [] b x y = y
ends_word_append (c ∷ a) b x y = x

pub stands_apart_append : (value : Content) (space after_it more : List ℕ) → StandsApart value space after_it → EndsWord more → StandsApart value space (after_it ++ more)
stands_apart_append (number digits) space after_it more h e = (h.0, ends_word_append after_it more h.1 e)
stands_apart_append (text inner) space after_it more h e = tt
stands_apart_append (list inner) space after_it more h e = tt

value_ends_word : (value : Content) (space written after_it more : List ℕ) → IsWhiteSpace space → SpellsValue value written → StandsApart value space after_it
    → EndsWord (space ++ (written ++ more))
value_ends_word (number digits) space written after_it more g v a = gap_ends_word space (written ++ more) g (inl a.0)
value_ends_word (text inner) space written after_it more g v a =
    gap_ends_word space (written ++ more) g (inr (subst (λ x. EndsWord (x ++ more)) (sym v.0) refl))
value_ends_word (list inner) space written after_it more g v a =
    gap_ends_word space (written ++ more) g (inr (subst (λ x. EndsWord (x ++ more)) (sym v.1) refl))

mutual
  -- a value is read after its key
  pub value_is_read : (value : Content) (written space more key : List ℕ) (fs : List Frame) (ps : Pairs)
      → SpellsValue value written → StandsApart value space more
      → accepted (written ++ more) (at (in_gap (following key)) fs ps)
      ≡ accepted more (at (in_gap between) fs (ps then pair key value no_pairs))
  value_is_read (number digits) written space more key fs ps v a =
      subst (λ x. accepted (x ++ more) (at (in_gap (following key)) fs ps)
      ≡ accepted more (at (in_gap between) fs (ps then pair key (number digits) no_pairs))) (sym v.0)
      (number_is_read digits more key fs ps v.1 a.1)
  value_is_read (text inner) written space more key fs ps v a =
      subst (λ x. accepted (x ++ more) (at (in_gap (following key)) fs ps)
      ≡ accepted more (at (in_gap between) fs (ps then pair key (text inner) no_pairs))) (sym v.0)
      (text_passes inner more key [] fs ps v.1)
  value_is_read (list inner) written space more key fs ps v a =
      subst (λ x. accepted (x ++ more) (at (in_gap (following key)) fs ps)
      ≡ accepted more (at (in_gap between) fs (ps then pair key (list inner) no_pairs))) (sym v.1)
      (ap (λ x. accepted x (at (in_gap between) (record { key = key; before = ps } ∷ fs) no_pairs)) (append_assoc v.0 (93 ∷ []) more)
      ∙ pairs_are_read inner v.0 (93 ∷ more) (record { key = key; before = ps } ∷ fs) no_pairs v.2 refl)

  -- pairs are read
  pub pairs_are_read : (tree : Pairs) (bytes more : List ℕ) (fs : List Frame) (ps : Pairs) → SpellsPairs tree bytes → EndsWord more
      → accepted (bytes ++ more) (at (in_gap between) fs ps) ≡ accepted more (at (in_gap between) fs (ps then tree))
  pairs_are_read no_pairs bytes more fs ps h e =
      gap_passes bytes more between fs ps h ∙ ap (λ x. accepted more (at (in_gap between) fs x)) (sym (then-none ps))
  pairs_are_read (pair key value rest) bytes more fs ps h e =
      let apart = stands_apart_append value h.1 h.3 more h.9 e in
      let regrouped : bytes ++ more ≡ h.0 ++ (key ++ (h.1 ++ (h.2 ++ (h.3 ++ more)))) = ap (λ x. x ++ more) h.4 ∙ simp append_assoc in
      ap (λ x. accepted x (at (in_gap between) fs ps)) regrouped
      ∙ (gap_passes h.0 (key ++ (h.1 ++ (h.2 ++ (h.3 ++ more)))) between fs ps h.5
      ∙ (key_is_read key (h.1 ++ (h.2 ++ (h.3 ++ more))) fs ps h.6 (value_ends_word value h.1 h.2 h.3 (h.3 ++ more) h.7 h.8 h.9)
      ∙ (gap_passes h.1 (h.2 ++ (h.3 ++ more)) (following key) fs ps h.7
      ∙ (value_is_read value h.2 h.1 (h.3 ++ more) key fs ps h.8 apart
      ∙ (pairs_are_read rest h.3 more fs (ps then pair key value no_pairs) h.10 e
      ∙ ap (λ x. accepted more (at (in_gap between) fs x)) (then_assoc ps (pair key value no_pairs) rest))))))

comment_ends : (line : List ℕ) (ps : Pairs) → Lacks 10 line → accepted line (at (in_comment between) [] ps) ≡ Some ps
comment_ends [] ps h = refl
comment_ends (b ∷ line) ps h =
    let parts = and_parts (not (b == 10)) _ h in
    ap (λ t. accepted line (at (cond t (in_gap between) (in_comment between)) [] ps)) (not-true (b == 10) parts.0)
    ∙ comment_ends line ps parts.1

document_ends : (ending : List ℕ) (ps : Pairs) → IsEnding ending → EndsWord ending × (accepted ending (at (in_gap between) [] ps) ≡ Some ps)
document_ends ending ps (inl none) = subst (λ x. EndsWord x × (accepted x (at (in_gap between) [] ps) ≡ Some ps)) (sym none) (tt, refl)
document_ends ending ps (inr c) =
    subst (λ x. EndsWord x × (accepted x (at (in_gap between) [] ps) ≡ Some ps)) (sym c.1) (refl, comment_ends c.0 ps c.2)

-- a document is accepted as its pairs
pub spelled_is_accepted : (tree : Pairs) (bytes : List ℕ) → SpellsDocument tree bytes → accepted bytes start ≡ Some tree
spelled_is_accepted tree bytes s =
    let ended = document_ends s.ending tree s.is_ending in
    ap (λ x. accepted x start) s.spelled ∙ (pairs_are_read tree s.body s.ending [] no_pairs s.pairs ended.0 ∙ ended.1)
