-- What is accepted is spelled: for each state, the conditions on the bytes after it.
use Rattle.std.proofs.Common.{◌≡◌, ℕ, ◌<◌, Bool, true, false, not, ◌||◌, cond, ◌==◌, List, [], ◌∷◌, ◌++◌, length, Option, Some, None, ◌⊎◌, inl, inr, refl, sym, ap, ◌∙◌, subst, arith, append_assoc}
use Rattle.std.specs.List.{list_all}
use Rattle.std.specs.Option.{option_map, option_and_then, option_map_or}
use Rattle.std.proofs.lemmas.Bool.{and_from, eqb-true, or_parts, not-false, not_from_false}
use Rattle.std.proofs.lemmas.List.{append-nil}
use Rattle.std.proofs.lemmas.Option.{none-some, same_Some}
use Rattle.gml_text.specs.Bytes.{is_space, begins_key, is_key_byte, is_word_byte}
use Rattle.gml_text.specs.Tree.{Content, number, text, list, Pairs, no_pairs, pair, ◌then◌}
use Rattle.fixed_milli.specs.Number.{IsNumber}
use Rattle.gml_text.specs.Grammar.{Lacks, IsBlank, IsWhiteSpace, IsKey, EndsWord, StandsApart, SpellsPairs, SpellsValue, SpellsDocument}
use Rattle.gml_text.specs.Reading.{Where, between, following, Mode, in_gap, in_comment, in_key, in_number, in_text, Frame, State, start, closed, begins, in_space, key_step, number_step, text_step, mode_step, stepped, whole, finished, accepted}
use Rattle.gml_text.specs.Token.{begun, after, is_complete}
use Rattle.gml_text.specs.declared.token.NumberPart.{NumberPart}
use Rattle.gml_text.proofs.ByteLemmas.{begun_no_word}
use Rattle.gml_text.proofs.Numbers.{ends, number_ends, number_spelled}
use Rattle.gml_text.proofs.Accepting.{at, then_assoc, then-none}

-- between two pairs: pairs may come, then the brackets that close the lists, and at last the end of the document
abbrev pub Rest : List Frame → Pairs → List ℕ → Pairs → Type 0
Rest [] ps more tree = (next : Pairs) × SpellsDocument next more × (tree ≡ ps then next)
Rest (f ∷ fs) ps more tree =
    (next : Pairs) × (body : List ℕ) × (rest : List ℕ) × (more ≡ body ++ 93 ∷ rest) × SpellsPairs next body
    × Rest fs (f.before then pair f.key (list (ps then next)) no_pairs) rest tree

-- after a key and white space: a value
pub record AfterKey (key : List ℕ) (fs : List Frame) (ps : Pairs) (more : List ℕ) (tree : Pairs) : Type 0 where
  pub space : List ℕ
  pub written : List ℕ
  pub rest : List ℕ
  pub value : Content
  pub is_more : more ≡ space ++ (written ++ rest)
  pub is_gap : IsWhiteSpace space
  pub spelled : SpellsValue value written
  pub apart : StandsApart value (32 ∷ space) rest
  pub then_rest : Rest fs (ps then pair key value no_pairs) rest tree

-- in a key: more of it may come, then white space and a value
pub record KeyRest (key : List ℕ) (fs : List Frame) (ps : Pairs) (more : List ℕ) (tree : Pairs) : Type 0 where
  pub goes_on : List ℕ
  pub space : List ℕ
  pub written : List ℕ
  pub rest : List ℕ
  pub value : Content
  pub is_more : more ≡ goes_on ++ (space ++ (written ++ rest))
  pub key_bytes : list_all is_key_byte goes_on ≡ true
  pub is_gap : IsWhiteSpace space
  pub spelled : SpellsValue value written
  pub apart : StandsApart value space rest
  pub then_rest : Rest fs (ps then pair (key ++ goes_on) value no_pairs) rest tree

-- the bytes that have to follow in each mode
abbrev pub Completes : Mode → List Frame → Pairs → List ℕ → Pairs → Type 0
Completes (in_gap between) fs ps more tree = Rest fs ps more tree
Completes (in_gap (following key)) fs ps more tree = AfterKey key fs ps more tree
Completes (in_comment between) fs ps more tree =
    ((line : List ℕ) × (rest : List ℕ) × (more ≡ line ++ 10 ∷ rest) × Lacks 10 line × Rest fs ps rest tree)
    ⊎ ((fs ≡ []) × Lacks 10 more × (tree ≡ ps))
Completes (in_comment (following key)) fs ps more tree =
    (line : List ℕ) × (rest : List ℕ) × (more ≡ line ++ 10 ∷ rest) × Lacks 10 line × AfterKey key fs ps rest tree
Completes (in_key key) fs ps more tree = KeyRest key fs ps more tree
Completes (in_number key digits part) fs ps more tree =
    (goes_on : List ℕ) × (rest : List ℕ) × (more ≡ goes_on ++ rest) × (ends goes_on part ≡ true) × EndsWord rest
    × Rest fs (ps then pair key (number (digits ++ goes_on)) no_pairs) rest tree
Completes (in_text key done) fs ps more tree =
    (inner : List ℕ) × (rest : List ℕ) × (more ≡ inner ++ 34 ∷ rest) × Lacks 34 inner
    × Rest fs (ps then pair key (text (done ++ inner)) no_pairs) rest tree

-- the same of a state, if there is one
abbrev pub After : Option State → List ℕ → Pairs → Type 0
After None more tree = ⊥
After (Some s) more tree = Completes s.mode s.lists s.pairs more tree

-- which way a test went
went : (t : Bool) (x y : Option State) (more : List ℕ) (tree : Pairs) → After (cond t x y) more tree
    → ((t ≡ true) × After x more tree) ⊎ ((t ≡ false) × After y more tree)
went true x y more tree h = inl (refl, h)
went false x y more tree h = inr (refl, h)

pub gap_cons : (blank gap : List ℕ) → IsBlank blank → IsWhiteSpace gap → IsWhiteSpace (blank ++ gap)
gap_cons blank gap b g = (blank ∷ g.0, ap (λ x. blank ++ x) g.1, (b, g.2))

pub no_gap : IsWhiteSpace []
no_gap = ([], refl, tt)

pub blank_in_front : (tree : Pairs) (blank bytes : List ℕ) → IsBlank blank → SpellsPairs tree bytes → SpellsPairs tree (blank ++ bytes)
blank_in_front no_pairs blank bytes b h = gap_cons blank bytes b h
blank_in_front (pair key value rest) blank bytes b h = (
  blank ++ h.0,
  h.1,
  h.2,
  h.3,
  ap (λ x. blank ++ x) h.4 ∙ sym (append_assoc blank h.0 (key ++ (h.1 ++ (h.2 ++ h.3)))),
  gap_cons blank h.0 b h.5,
  h.6,
  h.7,
  h.8,
  h.9,
  h.10,
)

-- white space may stand in front of what comes between two pairs
add_blank : (fs : List Frame) (ps : Pairs) (blank more : List ℕ) (tree : Pairs) → IsBlank blank → Rest fs ps more tree → Rest fs ps (blank ++ more) tree
add_blank [] ps blank more tree b r =
    let s = r.1 in (
      r.0,
      record {
        body = blank ++ s.body;
        ending = s.ending;
        spelled = ap (λ x. blank ++ x) s.spelled ∙ sym (append_assoc blank s.body s.ending);
        pairs = blank_in_front r.0 blank s.body b s.pairs;
        is_ending = s.is_ending;
      },
      r.2,
    )
add_blank (f ∷ fs) ps blank more tree b r =
    (r.0, blank ++ r.1, r.2, ap (λ x. blank ++ x) r.3 ∙ sym (append_assoc blank r.1 (93 ∷ r.2)), blank_in_front r.0 blank r.1 b r.4, r.5)

front_ends_word : (a b : List ℕ) → EndsWord (a ++ b) → EndsWord a
front_ends_word [] b h = tt
front_ends_word (c ∷ a) b h = h

front_stands_apart : (value : Content) (space a b : List ℕ) → StandsApart value space (a ++ b) → StandsApart value space a
front_stands_apart (number digits) space a b h = (h.0, front_ends_word a b h.1)
front_stands_apart (text inner) space a b h = tt
front_stands_apart (list inner) space a b h = tt

regroup : (a b c d e : List ℕ) → a ++ (b ++ (c ++ (d ++ e))) ≡ (a ++ (b ++ (c ++ d))) ++ e
regroup a b c d e = simp append_assoc

-- a pair may stand in front of what comes between two pairs
add_pair : (fs : List Frame) (ps : Pairs) (key space written rest : List ℕ) (value : Content) (tree : Pairs) → IsKey key → IsWhiteSpace space
    → SpellsValue value written → StandsApart value space rest → Rest fs (ps then pair key value no_pairs) rest tree
    → Rest fs ps (key ++ (space ++ (written ++ rest))) tree
add_pair [] ps key space written rest value tree k g v a r =
    let s = r.1 in (
      pair key value r.0,
      record {
        body = key ++ (space ++ (written ++ s.body));
        ending = s.ending;
        spelled = ap (λ x. key ++ (space ++ (written ++ x))) s.spelled ∙ regroup key space written s.body s.ending;
        pairs = ([], space, written, s.body, refl, no_gap, k, g, v, front_stands_apart value space s.body s.ending (subst (StandsApart value space) s.spelled a), s.pairs);
        is_ending = s.is_ending;
      },
      r.2 ∙ then_assoc ps (pair key value no_pairs) r.0,
    )
add_pair (f ∷ fs) ps key space written rest value tree k g v a r = (
  pair key value r.0,
  key ++ (space ++ (written ++ r.1)),
  r.2,
  ap (λ x. key ++ (space ++ (written ++ x))) r.3 ∙ regroup key space written r.1 (93 ∷ r.2),
  ([], space, written, r.1, refl, no_gap, k, g, v, front_stands_apart value space r.1 (93 ∷ r.2) (subst (StandsApart value space) r.3 a), r.4),
  subst (λ x. Rest fs (f.before then pair f.key (list x) no_pairs) r.2 tree) (then_assoc ps (pair key value no_pairs) r.0) r.5,
)

-- a bracket may close the innermost list
add_close : (fs : List Frame) (ps : Pairs) (b : ℕ) (bs : List ℕ) (tree : Pairs) → b ≡ 93 → After (closed fs ps) bs tree → Rest fs ps (b ∷ bs) tree
add_close [] ps b bs tree e h = absurd h
add_close (f ∷ fs) ps b bs tree e h = (
  no_pairs,
  [],
  bs,
  ap (λ x. x ∷ bs) e,
  no_gap,
  subst (λ x. Rest fs (f.before then pair f.key (list x) no_pairs) bs tree) (sym (then-none ps)) h,
)

begins_between : (fs : List Frame) (ps : Pairs) (b : ℕ) (bs : List ℕ) (tree : Pairs) → After (begins between fs ps b) bs tree → Rest fs ps (b ∷ bs) tree
begins_between fs ps b bs tree h =
    elim (went (b == 93) _ _ bs tree h) [
      | inl y ↦ add_close fs ps b bs tree (eqb-true b 93 y.0) y.1
      | inr n ↦ elim (went (begins_key b) _ _ bs tree n.1) [
        | inl k ↦ let r = k.1 in
            subst (λ x. Rest fs ps x tree) (ap (λ x. b ∷ x) (sym r.is_more))
            (add_pair fs ps (b ∷ r.goes_on) r.space r.written r.rest r.value tree (k.0, r.key_bytes) r.is_gap r.spelled r.apart r.then_rest)
        | inr o ↦ absurd o.1
      ]
    ]

number_begins : (key : List ℕ) (fs : List Frame) (ps : Pairs) (b : ℕ) (bs : List ℕ) (tree : Pairs) (o : Option NumberPart) → begun b ≡ o
    → After (option_map (λ part. at (in_number key (b ∷ []) part) fs ps) o) bs tree → AfterKey key fs ps (b ∷ bs) tree
number_begins key fs ps b bs tree None e h = absurd h
number_begins key fs ps b bs tree (Some part) e h = record {
  space = [];
  written = b ∷ h.0;
  rest = h.1;
  value = number (b ∷ h.0);
  is_more = ap (λ x. b ∷ x) h.2;
  is_gap = no_gap;
  spelled = (refl, number_spelled b h.0 part e h.3);
  apart = (omega arith, h.4);
  then_rest = h.5;
}

begins_following : (key : List ℕ) (fs : List Frame) (ps : Pairs) (b : ℕ) (bs : List ℕ) (tree : Pairs) → After (begins (following key) fs ps b) bs tree
    → AfterKey key fs ps (b ∷ bs) tree
begins_following key fs ps b bs tree h =
    elim (went (b == 91) _ _ bs tree h) [
      | inl y ↦ let r = y.1 in record {
        space = [];
        written = 91 ∷ (r.1 ++ 93 ∷ []);
        rest = r.2;
        value = list r.0;
        is_more = ap (λ x. x ∷ bs) (eqb-true b 91 y.0) ∙ ap (λ x. 91 ∷ x) (r.3 ∙ sym (append_assoc r.1 (93 ∷ []) r.2));
        is_gap = no_gap;
        spelled = (r.1, refl, r.4);
        apart = tt;
        then_rest = r.5;
      }
      | inr n ↦ elim (went (b == 34) _ _ bs tree n.1) [
        | inl q ↦ let r = q.1 in record {
          space = [];
          written = 34 ∷ (r.0 ++ 34 ∷ []);
          rest = r.1;
          value = text r.0;
          is_more = ap (λ x. x ∷ bs) (eqb-true b 34 q.0) ∙ ap (λ x. 34 ∷ x) (r.2 ∙ sym (append_assoc r.0 (34 ∷ []) r.1));
          is_gap = no_gap;
          spelled = (refl, r.3);
          apart = tt;
          then_rest = r.4;
        }
        | inr o ↦ number_begins key fs ps b bs tree (begun b) refl o.1
      ]
    ]

stands_apart_more : (value : Content) (space more rest : List ℕ) → 0 < length more → StandsApart value space rest → StandsApart value more rest
stands_apart_more (number digits) space more rest some h = (some, h.1)
stands_apart_more (text inner) space more rest some h = tt
stands_apart_more (list inner) space more rest some h = tt

-- white space may stand in front of a value
more_space : (key : List ℕ) (fs : List Frame) (ps : Pairs) (blank more : List ℕ) (tree : Pairs) → IsBlank blank → AfterKey key fs ps more tree
    → AfterKey key fs ps (blank ++ more) tree
more_space key fs ps blank more tree b r = record {
  space = blank ++ r.space;
  written = r.written;
  rest = r.rest;
  value = r.value;
  is_more = ap (λ x. blank ++ x) r.is_more ∙ sym (append_assoc blank r.space (r.written ++ r.rest));
  is_gap = gap_cons blank r.space b r.is_gap;
  spelled = r.spelled;
  apart = stands_apart_more r.value (32 ∷ r.space) (32 ∷ (blank ++ r.space)) r.rest (omega arith) r.apart;
  then_rest = r.then_rest;
}

-- a comment is white space
comment_blank : (line : List ℕ) → Lacks 10 line → IsBlank (35 ∷ (line ++ 10 ∷ []))
comment_blank line h = inr (line, refl, h)

begins_comment : (b : ℕ) (bs line rest : List ℕ) → (b == 35) ≡ true → bs ≡ line ++ 10 ∷ rest → (35 ∷ (line ++ 10 ∷ [])) ++ rest ≡ b ∷ bs
begins_comment b bs line rest e h =
    ap (λ x. 35 ∷ x) (append_assoc line (10 ∷ []) rest ∙ sym h) ∙ ap (λ x. x ∷ bs) (sym (eqb-true b 35 e))

comment_between : (fs : List Frame) (ps : Pairs) (b : ℕ) (bs : List ℕ) (tree : Pairs) → (b == 35) ≡ true
    → Completes (in_comment between) fs ps bs tree → Rest fs ps (b ∷ bs) tree
comment_between fs ps b bs tree e (inl h) =
    subst (λ x. Rest fs ps x tree) (begins_comment b bs h.0 h.1 e h.2)
    (add_blank fs ps (35 ∷ (h.0 ++ 10 ∷ [])) h.1 tree (comment_blank h.0 h.3) h.4)
comment_between fs ps b bs tree e (inr h) =
    subst (λ x. Rest x ps (b ∷ bs) tree) (sym h.0) (
      no_pairs,
      record {
        body = [];
        ending = b ∷ bs;
        spelled = refl;
        pairs = no_gap;
        is_ending = inr (bs, ap (λ x. x ∷ bs) (eqb-true b 35 e), h.1);
      },
      h.2 ∙ sym (then-none ps),
    )

pub space_blank : (b : ℕ) → is_space b ≡ true → IsBlank (b ∷ [])
space_blank b h = inl (b, refl, h)

space_back : (place : Where) (fs : List Frame) (ps : Pairs) (b : ℕ) (bs : List ℕ) (tree : Pairs) → After (in_space place fs ps b) bs tree
    → Completes (in_gap place) fs ps (b ∷ bs) tree
space_back between fs ps b bs tree h =
    elim (went (is_space b) _ _ bs tree h) [
      | inl y ↦ add_blank fs ps (b ∷ []) bs tree (space_blank b y.0) y.1
      | inr n ↦ elim (went (b == 35) _ _ bs tree n.1) [
        | inl c ↦ comment_between fs ps b bs tree c.0 c.1
        | inr o ↦ begins_between fs ps b bs tree o.1
      ]
    ]
space_back (following key) fs ps b bs tree h =
    elim (went (is_space b) _ _ bs tree h) [
      | inl y ↦ more_space key fs ps (b ∷ []) bs tree (space_blank b y.0) y.1
      | inr n ↦ elim (went (b == 35) _ _ bs tree n.1) [
        | inl c ↦ let r = c.1 in
            subst (λ x. AfterKey key fs ps x tree) (begins_comment b bs r.0 r.1 c.0 r.2)
            (more_space key fs ps (35 ∷ (r.0 ++ 10 ∷ [])) r.1 tree (comment_blank r.0 r.3) r.4)
        | inr o ↦ begins_following key fs ps b bs tree o.1
      ]
    ]

comment_back : (place : Where) (fs : List Frame) (ps : Pairs) (b : ℕ) (bs : List ℕ) (tree : Pairs) (t : Bool) → (b == 10) ≡ t
    → Completes (cond t (in_gap place) (in_comment place)) fs ps bs tree → Completes (in_comment place) fs ps (b ∷ bs) tree
comment_back between fs ps b bs tree true e h = inl ([], bs, ap (λ x. x ∷ bs) (eqb-true b 10 e), refl, h)
comment_back between fs ps b bs tree false e (inl h) =
    inl (b ∷ h.0, h.1, ap (λ x. b ∷ x) h.2, and_from (not (b == 10)) _ (not_from_false (b == 10) e) h.3, h.4)
comment_back between fs ps b bs tree false e (inr h) = inr (h.0, and_from (not (b == 10)) _ (not_from_false (b == 10) e) h.1, h.2)
comment_back (following key) fs ps b bs tree true e h = ([], bs, ap (λ x. x ∷ bs) (eqb-true b 10 e), refl, h)
comment_back (following key) fs ps b bs tree false e h =
    (b ∷ h.0, h.1, ap (λ x. b ∷ x) h.2, and_from (not (b == 10)) _ (not_from_false (b == 10) e) h.3, h.4)

-- after a key no number begins where there is no byte of a word
space_before_number : (b : ℕ) (bs digits rest space : List ℕ) → is_word_byte b ≡ false → b ∷ bs ≡ space ++ (digits ++ rest) → IsNumber digits → 0 < length space
space_before_number b bs digits rest [] w e n =
    let d = number_ends digits n in
    let same : b ∷ bs ≡ d.0 ∷ (d.1 ++ rest) = e ∙ ap (λ x. x ++ rest) d.3 in
    let first : b ≡ d.0 = cc in
    absurd (none-some d.2 (sym (begun_no_word b w) ∙ (ap begun first ∙ d.4)))
space_before_number b bs digits rest (c ∷ space) w e n = omega arith

value_stands_apart : (value : Content) (b : ℕ) (bs written rest space : List ℕ) → is_word_byte b ≡ false → b ∷ bs ≡ space ++ (written ++ rest)
    → SpellsValue value written → StandsApart value (32 ∷ space) rest → StandsApart value space rest
value_stands_apart (number digits) b bs written rest space w e v a =
    (space_before_number b bs digits rest space w (e ∙ ap (λ x. space ++ (x ++ rest)) v.0) v.1, a.1)
value_stands_apart (text inner) b bs written rest space w e v a = tt
value_stands_apart (list inner) b bs written rest space w e v a = tt

key_stops : (key : List ℕ) (fs : List Frame) (ps : Pairs) (b : ℕ) (bs : List ℕ) (tree : Pairs) → is_word_byte b ≡ false
    → AfterKey key fs ps (b ∷ bs) tree → KeyRest key fs ps (b ∷ bs) tree
key_stops key fs ps b bs tree w r = record {
  goes_on = [];
  space = r.space;
  written = r.written;
  rest = r.rest;
  value = r.value;
  is_more = r.is_more;
  key_bytes = refl;
  is_gap = r.is_gap;
  spelled = r.spelled;
  apart = value_stands_apart r.value b bs r.written r.rest r.space w r.is_more r.spelled r.apart;
  then_rest = subst (λ k. Rest fs (ps then pair k r.value no_pairs) r.rest tree) (sym (append-nil key)) r.then_rest;
}

key_back : (key : List ℕ) (fs : List Frame) (ps : Pairs) (b : ℕ) (bs : List ℕ) (tree : Pairs) → After (key_step key fs ps b) bs tree
    → KeyRest key fs ps (b ∷ bs) tree
key_back key fs ps b bs tree h =
    elim (went (is_key_byte b) _ _ bs tree h) [
      | inl y ↦ let r = y.1 in record {
        goes_on = b ∷ r.goes_on;
        space = r.space;
        written = r.written;
        rest = r.rest;
        value = r.value;
        is_more = ap (λ x. b ∷ x) r.is_more;
        key_bytes = and_from (is_key_byte b) _ y.0 r.key_bytes;
        is_gap = r.is_gap;
        spelled = r.spelled;
        apart = r.apart;
        then_rest = subst (λ k. Rest fs (ps then pair k r.value no_pairs) r.rest tree) (append_assoc key (b ∷ []) r.goes_on) r.then_rest;
      }
      | inr n ↦ elim (went (is_word_byte b) _ _ bs tree n.1) [
        | inl w ↦ absurd w.1
        | inr o ↦ key_stops key fs ps b bs tree o.0 (space_back (following key) fs ps b bs tree o.1)
      ]
    ]

number_back : (key digits : List ℕ) (part : NumberPart) (fs : List Frame) (ps : Pairs) (b : ℕ) (bs : List ℕ) (tree : Pairs) (next : Option NumberPart)
    → after part b ≡ next → After (number_step key digits part fs ps b next) bs tree → Completes (in_number key digits part) fs ps (b ∷ bs) tree
number_back key digits part fs ps b bs tree None e h =
    elim (went (is_word_byte b || not (is_complete part)) _ _ bs tree h) [
      | inl y ↦ absurd y.1
      | inr n ↦
          let both = or_parts (is_word_byte b) _ n.0 in (
            [],
            b ∷ bs,
            refl,
            not-false (is_complete part) both.1,
            both.0,
            subst (λ d. Rest fs (ps then pair key (number d) no_pairs) (b ∷ bs) tree) (sym (append-nil digits))
                (space_back between fs (ps then pair key (number digits) no_pairs) b bs tree n.1),
          )
    ]
number_back key digits part fs ps b bs tree (Some next) e h = (
  b ∷ h.0,
  h.1,
  ap (λ x. b ∷ x) h.2,
  ap (λ o. option_map_or (ends h.0) o false) e ∙ h.3,
  h.4,
  subst (λ d. Rest fs (ps then pair key (number d) no_pairs) h.1 tree) (append_assoc digits (b ∷ []) h.0) h.5,
)

text_back : (key done : List ℕ) (fs : List Frame) (ps : Pairs) (b : ℕ) (bs : List ℕ) (tree : Pairs) → After (text_step key done fs ps b) bs tree
    → Completes (in_text key done) fs ps (b ∷ bs) tree
text_back key done fs ps b bs tree h =
    elim (went (b == 34) _ _ bs tree h) [
      | inl y ↦ (
        [],
        bs,
        ap (λ x. x ∷ bs) (eqb-true b 34 y.0),
        refl,
        subst (λ d. Rest fs (ps then pair key (text d) no_pairs) bs tree) (sym (append-nil done)) y.1,
      )
      | inr n ↦ let r = n.1 in (
        b ∷ r.0,
        r.1,
        ap (λ x. b ∷ x) r.2,
        and_from (not (b == 34)) _ (not_from_false (b == 34) n.0) r.3,
        subst (λ d. Rest fs (ps then pair key (text d) no_pairs) r.1 tree) (append_assoc done (b ∷ []) r.0) r.4,
      )
    ]

-- one byte back
step_back : (mode : Mode) (fs : List Frame) (ps : Pairs) (b : ℕ) (bs : List ℕ) (tree : Pairs) → After (mode_step mode fs ps b) bs tree
    → Completes mode fs ps (b ∷ bs) tree
step_back (in_gap place) fs ps b bs tree h = space_back place fs ps b bs tree h
step_back (in_comment place) fs ps b bs tree h = comment_back place fs ps b bs tree (b == 10) refl h
step_back (in_key key) fs ps b bs tree h = key_back key fs ps b bs tree h
step_back (in_number key digits part) fs ps b bs tree h = number_back key digits part fs ps b bs tree (after part b) refl h
step_back (in_text key done) fs ps b bs tree h = text_back key done fs ps b bs tree h

whole_is : (fs : List Frame) (ps tree : Pairs) → whole fs ps ≡ Some tree → (fs ≡ []) × (tree ≡ ps)
whole_is [] ps tree h = (refl, sym (same_Some ps tree h))
whole_is (f ∷ fs) ps tree h = absurd (none-some tree h)

rest_ends : (fs : List Frame) (ps tree : Pairs) → whole fs ps ≡ Some tree → Rest fs ps [] tree
rest_ends fs ps tree h =
    let w = whole_is fs ps tree h in
    subst (λ x. Rest x ps [] tree) (sym w.0)
    (no_pairs, record { body = []; ending = []; spelled = refl; pairs = no_gap; is_ending = inl refl }, w.1 ∙ sym (then-none ps))

pub complete_or_none : (t : Bool) (o : Option Pairs) (tree : Pairs) → cond t o None ≡ Some tree → (t ≡ true) × (o ≡ Some tree)
complete_or_none true o tree h = (refl, h)
complete_or_none false o tree h = absurd (none-some tree h)

at_the_end : (mode : Mode) (fs : List Frame) (ps tree : Pairs) → finished mode fs ps ≡ Some tree → Completes mode fs ps [] tree
at_the_end (in_gap between) fs ps tree h = rest_ends fs ps tree h
at_the_end (in_gap (following key)) fs ps tree h = absurd (none-some tree h)
at_the_end (in_comment between) fs ps tree h = let w = whole_is fs ps tree h in inr (w.0, refl, w.1)
at_the_end (in_comment (following key)) fs ps tree h = absurd (none-some tree h)
at_the_end (in_key key) fs ps tree h = absurd (none-some tree h)
at_the_end (in_number key digits part) fs ps tree h =
    let c = complete_or_none (is_complete part) _ tree h in (
      [],
      [],
      refl,
      c.0,
      tt,
      rest_ends fs (ps then pair key (number (digits ++ [])) no_pairs) tree
          (ap (λ d. whole fs (ps then pair key (number d) no_pairs)) (append-nil digits) ∙ c.1),
    )
at_the_end (in_text key done) fs ps tree h = absurd (none-some tree h)

after_step : (o : Option State) (bs : List ℕ) (tree : Pairs)
    → ((s : State) → accepted bs s ≡ Some tree → Completes s.mode s.lists s.pairs bs tree)
    → option_and_then (accepted bs) o ≡ Some tree → After o bs tree
after_step None bs tree later h = absurd (none-some tree h)
after_step (Some s) bs tree later h = later s h

-- what is accepted from a state is what has to follow there
pub accepted_completes : (more : List ℕ) (s : State) (tree : Pairs) → accepted more s ≡ Some tree → Completes s.mode s.lists s.pairs more tree
accepted_completes [] s tree h = at_the_end s.mode s.lists s.pairs tree h
accepted_completes (b ∷ bs) s tree h =
    step_back s.mode s.lists s.pairs b bs tree (after_step (stepped s b) bs tree (λ t. accepted_completes bs t tree) h)

-- what is accepted is spelled
pub accepted_is_spelled : (bytes : List ℕ) (tree : Pairs) → accepted bytes start ≡ Some tree → SpellsDocument tree bytes
accepted_is_spelled bytes tree h =
    let r = accepted_completes bytes start tree h in
    subst (λ x. SpellsDocument x bytes) (sym r.2) r.1
