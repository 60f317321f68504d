-- The next state of a reader at a place, by the byte there or by the end of the bytes.
use Rattle.std.proofs.Common.{◌≡◌, ℕ, ◌+◌, ◌-◌, ◌≤◌, ◌<◌, Bool, true, false, not, ◌||◌, cond, ◌==◌, List, [], ◌∷◌, ◌++◌, length, take, drop, get_or, Some, None, refl, sym, ap, ◌∙◌, subst, arith, eq-eqb}
use Rattle.std.specs.List.{slice_range}
use Rattle.std.specs.Option.{option_map}
use Rattle.std.proofs.lemmas.Bool.{cond-true, cond-false}
use Rattle.std.proofs.lemmas.List.{take_more}
use Rattle.std.proofs.lemmas.List.Edits.{between_more}
use Rattle.gml_text.specs.Bytes.{is_space, begins_key, is_key_byte, is_word_byte}
use Rattle.gml_text.specs.Tree.{text, number, Pairs, no_pairs, pair, ◌then◌}
use Rattle.gml_text.specs.Parse.{most_open, IsSyntaxAt, IsTooDeepAt, IsDocument}
use Rattle.gml_text.specs.Reading.{Where, between, following, in_gap, in_comment, Frame, State, start, in_space, number_step, text_step, closed, whole, stepped, finished}
use Rattle.gml_text.specs.Standing.{LeadsWithinLimit, Stands, IsNoGap, gap_state, comment_state, key_state, number_state, text_state}
use Rattle.gml_text.specs.Token.{begun, after, is_complete}
use Rattle.gml_text.specs.declared.token.NumberPart.{NumberPart}
use Rattle.gml_text.proofs.ByteLemmas.{not_same, key_begin, number_begin}
use Rattle.gml_text.proofs.Parsing.{leads_on_within, syntax_at_byte, syntax_at_end, too_deep_at, document_within, whole_front, leads_at_start}

-- before the first byte
pub stands_at_start : (bytes : List ℕ) → Stands bytes 0 start
stands_at_start bytes = record { through = start; leads = leads_at_start start refl; few = omega arith; goes_on = λ _. refl; ends = refl }

-- one byte on
pub goes : (bytes : List ℕ) (at : ℕ) (s t : State) → at < length bytes → Stands bytes at s → stepped s (get_or bytes at 0) ≡ Some t → length t.lists ≤ most_open
    → Stands bytes (at + 1) t
goes bytes at s t h x e few = record {
  through = t;
  leads = subst (λ front. LeadsWithinLimit front t) (sym (take_more bytes at 0 h))
      (leads_on_within (take at bytes) (get_or bytes at 0) x.through t x.leads (x.goes_on h ∙ e) few);
  few = few;
  goes_on = λ _. refl;
  ends = refl;
}

-- as another state that goes on and ends as this one does there
pub like : (bytes : List ℕ) (at : ℕ) (s t : State) → Stands bytes at s → length t.lists ≤ most_open
    → (at < length bytes → stepped s (get_or bytes at 0) ≡ stepped t (get_or bytes at 0))
    → finished s.mode s.lists s.pairs ≡ finished t.mode t.lists t.pairs → Stands bytes at t
like bytes at s t x few goes ends = record { through = x.through; leads = x.leads; few = few; goes_on = λ h. x.goes_on h ∙ goes h; ends = x.ends ∙ ends }

-- the byte there is refused
pub refused_there : (bytes : List ℕ) (at : ℕ) (s : State) → at < length bytes → Stands bytes at s → stepped s (get_or bytes at 0) ≡ None → IsSyntaxAt bytes at
refused_there bytes at s h x e = syntax_at_byte bytes at (get_or bytes at 0) x.through h (take_more bytes at 0 h) x.leads (x.goes_on h ∙ e)

-- it opens a list too many
pub too_deep_there : (bytes : List ℕ) (at : ℕ) (s t : State) → at < length bytes → Stands bytes at s → stepped s (get_or bytes at 0) ≡ Some t
    → most_open < length t.lists → IsTooDeepAt bytes at
too_deep_there bytes at s t h x e many = too_deep_at bytes at (get_or bytes at 0) x.through t h (take_more bytes at 0 h) x.leads (x.goes_on h ∙ e) many

-- no document may end at the end
pub unfinished_there : (bytes : List ℕ) (at : ℕ) (s : State) → at ≡ length bytes → Stands bytes at s → finished s.mode s.lists s.pairs ≡ None → IsSyntaxAt bytes at
unfinished_there bytes at s same x e =
    subst (IsSyntaxAt bytes) (sym same) (syntax_at_end bytes x.through (whole_front bytes at x.through (omega arith) (omega arith) x.leads) (x.ends ∙ e))

-- one may
pub finished_there : (bytes : List ℕ) (s : State) (tree : Pairs) → Stands bytes (length bytes) s → finished s.mode s.lists s.pairs ≡ Some tree → IsDocument tree bytes
finished_there bytes s tree x e =
    document_within bytes x.through tree (whole_front bytes (length bytes) x.through (omega arith) (omega arith) x.leads) (x.ends ∙ e)

pub nothing_yet : (bytes : List ℕ) (at : ℕ) → slice_range bytes at at ≡ []
nothing_yet bytes at = let none : at - at ≡ 0 = omega arith in ap (λ n. take n (drop at bytes)) none

pub one_byte : (bytes : List ℕ) (at : ℕ) → at < length bytes → slice_range bytes at (at + 1) ≡ get_or bytes at 0 ∷ []
one_byte bytes at h = between_more bytes at at 0 (omega arith) h ∙ ap (λ front. front ++ get_or bytes at 0 ∷ []) (nothing_yet bytes at)

-- white space
pub space_goes : (bytes : List ℕ) (at : ℕ) (here : Where) (fs : List Frame) (ps : Pairs) → at < length bytes → is_space (get_or bytes at 0) ≡ true
    → Stands bytes at (gap_state here fs ps) → Stands bytes (at + 1) (gap_state here fs ps)
space_goes bytes at here fs ps h e x = goes bytes at (gap_state here fs ps) (gap_state here fs ps) h x (cond-true (is_space (get_or bytes at 0)) _ _ e) x.few

pub comment_begins : (bytes : List ℕ) (at : ℕ) (here : Where) (fs : List Frame) (ps : Pairs) → at < length bytes → is_space (get_or bytes at 0) ≡ false
    → get_or bytes at 0 ≡ 35 → Stands bytes at (gap_state here fs ps) → Stands bytes (at + 1) (comment_state here fs ps)
comment_begins bytes at here fs ps h s e x =
    goes bytes at (gap_state here fs ps) (comment_state here fs ps) h x
    (cond-false (is_space (get_or bytes at 0)) _ _ s ∙ cond-true (get_or bytes at 0 == 35) _ _ (eq-eqb (get_or bytes at 0) 35 e)) x.few

pub comment_goes : (bytes : List ℕ) (at : ℕ) (here : Where) (fs : List Frame) (ps : Pairs) → at < length bytes → (get_or bytes at 0 ≡ 10 → ⊥)
    → Stands bytes at (comment_state here fs ps) → Stands bytes (at + 1) (comment_state here fs ps)
comment_goes bytes at here fs ps h e x =
    goes bytes at (comment_state here fs ps) (comment_state here fs ps) h x
    (ap (λ t. Some (record { mode = cond t (in_gap here) (in_comment here); lists = fs; pairs = ps })) (not_same (get_or bytes at 0) 10 e)) x.few

feed_is_space : (b : ℕ) → b ≡ 10 → is_space b ≡ true
feed_is_space b h = ap is_space h

comment_finishes : (here : Where) (fs : List Frame) (ps : Pairs) → finished (in_comment here) fs ps ≡ finished (in_gap here) fs ps
comment_finishes between fs ps = refl
comment_finishes (following key) fs ps = refl

-- at its line feed, and at the end, a comment is as white space
pub comment_stops : (bytes : List ℕ) (at : ℕ) (here : Where) (fs : List Frame) (ps : Pairs) → (at < length bytes → get_or bytes at 0 ≡ 10)
    → Stands bytes at (comment_state here fs ps) → Stands bytes at (gap_state here fs ps)
comment_stops bytes at here fs ps e x =
    let b = get_or bytes at 0 in
    like bytes at (comment_state here fs ps) (gap_state here fs ps) x x.few
    (λ h. ap (λ t. Some (record { mode = cond t (in_gap here) (in_comment here); lists = fs; pairs = ps })) (eq-eqb b 10 (e h))
    ∙ sym (cond-true (is_space b) _ _ (feed_is_space b (e h))))
    (comment_finishes here fs ps)

-- keys
pub key_begins : (bytes : List ℕ) (at : ℕ) (fs : List Frame) (ps : Pairs) → at < length bytes → begins_key (get_or bytes at 0) ≡ true
    → Stands bytes at (gap_state between fs ps) → Stands bytes (at + 1) (key_state (slice_range bytes at (at + 1)) fs ps)
key_begins bytes at fs ps h e x =
    let b = get_or bytes at 0 in
    let first = key_begin b e in
    subst (λ key. Stands bytes (at + 1) (key_state key fs ps)) (sym (one_byte bytes at h))
    (goes bytes at (gap_state between fs ps) (key_state (b ∷ []) fs ps) h x
    (cond-false (is_space b) _ _ first.0 ∙ (cond-false (b == 35) _ _ first.1 ∙ (cond-false (b == 93) _ _ first.2 ∙ cond-true (begins_key b) _ _ e))) x.few)

pub key_goes : (bytes : List ℕ) (from at : ℕ) (fs : List Frame) (ps : Pairs) → from ≤ at → at < length bytes → is_key_byte (get_or bytes at 0) ≡ true
    → Stands bytes at (key_state (slice_range bytes from at) fs ps) → Stands bytes (at + 1) (key_state (slice_range bytes from (at + 1)) fs ps)
key_goes bytes from at fs ps above h e x =
    let b = get_or bytes at 0 in
    subst (λ key. Stands bytes (at + 1) (key_state key fs ps)) (sym (between_more bytes from at 0 above h))
    (goes bytes at (key_state (slice_range bytes from at) fs ps) (key_state (slice_range bytes from at ++ b ∷ []) fs ps) h x (cond-true (is_key_byte b) _ _ e) x.few)

-- a byte of a word touches a key
pub key_touches : (bytes : List ℕ) (at : ℕ) (key : List ℕ) (fs : List Frame) (ps : Pairs) → at < length bytes → is_key_byte (get_or bytes at 0) ≡ false
    → is_word_byte (get_or bytes at 0) ≡ true → Stands bytes at (key_state key fs ps) → IsSyntaxAt bytes at
key_touches bytes at key fs ps h k w x =
    let b = get_or bytes at 0 in
    refused_there bytes at (key_state key fs ps) h x (cond-false (is_key_byte b) _ _ k ∙ cond-true (is_word_byte b) _ _ w)

-- where none does, a key is as white space after it
pub key_stops : (bytes : List ℕ) (at : ℕ) (key : List ℕ) (fs : List Frame) (ps : Pairs) → (at < length bytes → is_key_byte (get_or bytes at 0) ≡ false)
    → (at < length bytes → is_word_byte (get_or bytes at 0) ≡ false) → Stands bytes at (key_state key fs ps) → Stands bytes at (gap_state (following key) fs ps)
key_stops bytes at key fs ps k w x =
    let b = get_or bytes at 0 in
    like bytes at (key_state key fs ps) (gap_state (following key) fs ps) x x.few
    (λ h. cond-false (is_key_byte b) _ _ (k h) ∙ cond-false (is_word_byte b) _ _ (w h)) refl

-- what begins no pair
pub no_pair : (bytes : List ℕ) (at : ℕ) (fs : List Frame) (ps : Pairs) → at < length bytes → IsNoGap (get_or bytes at 0) → (get_or bytes at 0 ≡ 93 → ⊥)
    → begins_key (get_or bytes at 0) ≡ false → Stands bytes at (gap_state between fs ps) → IsSyntaxAt bytes at
no_pair bytes at fs ps h g c k x =
    let b = get_or bytes at 0 in
    refused_there bytes at (gap_state between fs ps) h x
    (cond-false (is_space b) _ _ g.no_space ∙ (cond-false (b == 35) _ _ g.no_hash ∙ (cond-false (b == 93) _ _ (not_same b 93 c) ∙ cond-false (begins_key b) _ _ k)))

-- strings
pub text_begins : (bytes : List ℕ) (at : ℕ) (key : List ℕ) (fs : List Frame) (ps : Pairs) → at < length bytes → get_or bytes at 0 ≡ 34
    → Stands bytes at (gap_state (following key) fs ps) → Stands bytes (at + 1) (text_state key [] fs ps)
text_begins bytes at key fs ps h e x =
    goes bytes at (gap_state (following key) fs ps) (text_state key [] fs ps) h x (ap (in_space (following key) fs ps) e) x.few

pub text_goes : (bytes : List ℕ) (from at : ℕ) (key : List ℕ) (fs : List Frame) (ps : Pairs) → from ≤ at → at < length bytes → (get_or bytes at 0 ≡ 34 → ⊥)
    → Stands bytes at (text_state key (slice_range bytes from at) fs ps) → Stands bytes (at + 1) (text_state key (slice_range bytes from (at + 1)) fs ps)
text_goes bytes from at key fs ps above h e x =
    let b = get_or bytes at 0 in
    subst (λ inner. Stands bytes (at + 1) (text_state key inner fs ps)) (sym (between_more bytes from at 0 above h))
    (goes bytes at (text_state key (slice_range bytes from at) fs ps) (text_state key (slice_range bytes from at ++ b ∷ []) fs ps) h x (cond-false (b == 34) _ _ (not_same b 34 e)) x.few)

pub text_ends : (bytes : List ℕ) (at : ℕ) (key inner : List ℕ) (fs : List Frame) (ps : Pairs) → at < length bytes → get_or bytes at 0 ≡ 34
    → Stands bytes at (text_state key inner fs ps) → Stands bytes (at + 1) (gap_state between fs (ps then pair key (text inner) no_pairs))
text_ends bytes at key inner fs ps h e x =
    goes bytes at (text_state key inner fs ps) (gap_state between fs (ps then pair key (text inner) no_pairs)) h x (ap (text_step key inner fs ps) e) x.few

-- numbers
pub number_begins : (bytes : List ℕ) (at : ℕ) (key : List ℕ) (part : NumberPart) (fs : List Frame) (ps : Pairs) → at < length bytes → begun (get_or bytes at 0) ≡ Some part
    → Stands bytes at (gap_state (following key) fs ps) → Stands bytes (at + 1) (number_state key (slice_range bytes at (at + 1)) part fs ps)
number_begins bytes at key part fs ps h e x =
    let b = get_or bytes at 0 in
    let first = number_begin b part e in
    subst (λ digits. Stands bytes (at + 1) (number_state key digits part fs ps)) (sym (one_byte bytes at h))
    (goes bytes at (gap_state (following key) fs ps) (number_state key (b ∷ []) part fs ps) h x
    (cond-false (is_space b) _ _ first.0 ∙ (cond-false (b == 35) _ _ first.1 ∙ (cond-false (b == 91) _ _ first.2 ∙ (cond-false (b == 34) _ _ first.3
    ∙ ap (option_map (λ p. number_state key (b ∷ []) p fs ps)) e)))) x.few)

pub no_value : (bytes : List ℕ) (at : ℕ) (key : List ℕ) (fs : List Frame) (ps : Pairs) → at < length bytes → IsNoGap (get_or bytes at 0) → (get_or bytes at 0 ≡ 91 → ⊥)
    → (get_or bytes at 0 ≡ 34 → ⊥) → begun (get_or bytes at 0) ≡ None → Stands bytes at (gap_state (following key) fs ps) → IsSyntaxAt bytes at
no_value bytes at key fs ps h g o q e x =
    let b = get_or bytes at 0 in
    refused_there bytes at (gap_state (following key) fs ps) h x
    (cond-false (is_space b) _ _ g.no_space ∙ (cond-false (b == 35) _ _ g.no_hash ∙ (cond-false (b == 91) _ _ (not_same b 91 o) ∙ (cond-false (b == 34) _ _ (not_same b 34 q)
    ∙ ap (option_map (λ p. number_state key (b ∷ []) p fs ps)) e))))

pub number_goes : (bytes : List ℕ) (from at : ℕ) (key : List ℕ) (part next : NumberPart) (fs : List Frame) (ps : Pairs) → from ≤ at → at < length bytes
    → after part (get_or bytes at 0) ≡ Some next → Stands bytes at (number_state key (slice_range bytes from at) part fs ps)
    → Stands bytes (at + 1) (number_state key (slice_range bytes from (at + 1)) next fs ps)
number_goes bytes from at key part next fs ps above h e x =
    let b = get_or bytes at 0 in
    subst (λ digits. Stands bytes (at + 1) (number_state key digits next fs ps)) (sym (between_more bytes from at 0 above h))
    (goes bytes at (number_state key (slice_range bytes from at) part fs ps) (number_state key (slice_range bytes from at ++ b ∷ []) next fs ps) h x
    (ap (number_step key (slice_range bytes from at) part fs ps b) e) x.few)

or_not : (a b : Bool) → b ≡ false → (a || not b) ≡ true
or_not true b h = refl
or_not false b h = ap not h

-- a byte is refused where a number may not end, or touches it
pub number_refused : (bytes : List ℕ) (at : ℕ) (key digits : List ℕ) (part : NumberPart) (fs : List Frame) (ps : Pairs) → at < length bytes
    → after part (get_or bytes at 0) ≡ None → is_complete part ≡ false → Stands bytes at (number_state key digits part fs ps) → IsSyntaxAt bytes at
number_refused bytes at key digits part fs ps h e incomplete x =
    let b = get_or bytes at 0 in
    refused_there bytes at (number_state key digits part fs ps) h x
    (ap (number_step key digits part fs ps b) e ∙ cond-true (is_word_byte b || not (is_complete part)) _ _ (or_not (is_word_byte b) (is_complete part) incomplete))

pub number_touched : (bytes : List ℕ) (at : ℕ) (key digits : List ℕ) (part : NumberPart) (fs : List Frame) (ps : Pairs) → at < length bytes
    → after part (get_or bytes at 0) ≡ None → is_word_byte (get_or bytes at 0) ≡ true → Stands bytes at (number_state key digits part fs ps) → IsSyntaxAt bytes at
number_touched bytes at key digits part fs ps h e w x =
    let b = get_or bytes at 0 in
    refused_there bytes at (number_state key digits part fs ps) h x
    (ap (number_step key digits part fs ps b) e ∙ cond-true (is_word_byte b || not (is_complete part)) _ _ (ap (λ t. t || not (is_complete part)) w))

pub number_incomplete : (bytes : List ℕ) (at : ℕ) (key digits : List ℕ) (part : NumberPart) (fs : List Frame) (ps : Pairs) → at ≡ length bytes
    → is_complete part ≡ false → Stands bytes at (number_state key digits part fs ps) → IsSyntaxAt bytes at
number_incomplete bytes at key digits part fs ps h e x =
    unfinished_there bytes at (number_state key digits part fs ps) h x (cond-false (is_complete part) _ _ e)

-- where a number may end and no byte of a word touches it, it is as white space after its pair
pub number_stops : (bytes : List ℕ) (at : ℕ) (key digits : List ℕ) (part : NumberPart) (fs : List Frame) (ps : Pairs)
    → (at < length bytes → after part (get_or bytes at 0) ≡ None) → (at < length bytes → is_word_byte (get_or bytes at 0) ≡ false) → is_complete part ≡ true
    → Stands bytes at (number_state key digits part fs ps) → Stands bytes at (gap_state between fs (ps then pair key (number digits) no_pairs))
number_stops bytes at key digits part fs ps e w c x =
    let b = get_or bytes at 0 in
    like bytes at (number_state key digits part fs ps) (gap_state between fs (ps then pair key (number digits) no_pairs)) x x.few
    (λ h. let apart = w h in ap (number_step key digits part fs ps b) (e h) ∙ cond-false (is_word_byte b || not (is_complete part)) _ _ (rw (apart, c)))
    (cond-true (is_complete part) _ _ c)

-- lists: none is closed where none is open
pub closed-none : (fs : List Frame) (ps : Pairs) → length fs ≡ 0 → closed fs ps ≡ None
closed-none [] ps h = refl
closed-none (f ∷ fs) ps h = absurd (omega arith)

-- and no document ends where one is
pub whole-none : (fs : List Frame) (ps : Pairs) → 0 < length fs → whole fs ps ≡ None
whole-none [] ps h = absurd (omega arith)
whole-none (f ∷ fs) ps h = refl

-- where none is, it has the pairs
pub whole-all : (fs : List Frame) (ps : Pairs) → length fs ≡ 0 → whole fs ps ≡ Some ps
whole-all [] ps h = refl
whole-all (f ∷ fs) ps h = absurd (omega arith)
