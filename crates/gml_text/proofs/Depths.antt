-- How deep the documents are that a state leads to.
use Rattle.std.proofs.Common.{◌≡◌, ℕ, suc, ◌+◌, ◌≤◌, max, Bool, true, false, not, ◌||◌, cond, ◌==◌, List, [], ◌∷◌, ◌++◌, length, Option, Some, None, refl, sym, ap, ◌∙◌, subst, arith}
use Rattle.std.specs.Option.{option_map, option_and_then}
use Rattle.std.proofs.lemmas.Option.{none-some, same_Some}
use Rattle.gml_text.specs.Bytes.{is_space, begins_key, is_key_byte, is_word_byte}
use Rattle.gml_text.specs.Tree.{Content, number, text, list, Pairs, no_pairs, pair, depth, value_depth, ◌then◌}
use Rattle.gml_text.specs.Reading.{Where, between, following, Mode, in_gap, in_comment, in_key, in_number, in_text, Frame, State, closed, opened, begins, in_space, key_step, number_step, text_step, mode_step, stepped, whole, finished, accepted}
use Rattle.gml_text.specs.Standing.{closed_up, height}
use Rattle.gml_text.specs.Token.{begun, after, is_complete}
use Rattle.gml_text.specs.declared.token.NumberPart.{NumberPart}
use Rattle.gml_text.specs.declared.token.NumberPart.TheVariants.{Sign, Whole, Point, Fraction, Mark, MarkSign, Exponent}
use Rattle.gml_text.proofs.Accepting.{at}
use Rattle.gml_text.proofs.Spelling.{complete_or_none}

pub depth-then : (a b : Pairs) → depth (a then b) ≡ max (depth a) (depth b)
depth-then no_pairs b = omega arith
depth-then (pair key value rest) b = let later = depth-then rest b in omega arith

depth-listed : (before ps : Pairs) (key : List ℕ) → depth (before then pair key (list ps) no_pairs) ≡ max (depth before) (suc (depth ps))
depth-listed before ps key = let e = depth-then before (pair key (list ps) no_pairs) in omega arith

depth-flat : (ps : Pairs) (key : List ℕ) (value : Content) → value_depth value ≡ 0 → depth (ps then pair key value no_pairs) ≡ depth ps
depth-flat ps key value h = let e = depth-then ps (pair key value no_pairs) in omega arith

closed_monotone : (fs : List Frame) (ps qs : Pairs) → depth ps ≤ depth qs → depth (closed_up fs ps) ≤ depth (closed_up fs qs)
closed_monotone [] ps qs h = h
closed_monotone (f ∷ fs) ps qs h =
    let e = depth-listed f.before ps f.key in
    let g = depth-listed f.before qs f.key in
    closed_monotone fs (f.before then pair f.key (list ps) no_pairs) (f.before then pair f.key (list qs) no_pairs) (omega arith)

closed_within : (fs : List Frame) (ps qs : Pairs) (n : ℕ) → depth qs ≤ max (depth ps) n
    → depth (closed_up fs qs) ≤ max (depth (closed_up fs ps)) (n + length fs)
closed_within [] ps qs n h = omega arith
closed_within (f ∷ fs) ps qs n h =
    let e = depth-listed f.before ps f.key in
    let g = depth-listed f.before qs f.key in
    let later = closed_within fs (f.before then pair f.key (list ps) no_pairs) (f.before then pair f.key (list qs) no_pairs) (suc n) (omega arith) in
    omega arith

closed_over : (fs : List Frame) (ps : Pairs) (n : ℕ) → n ≤ depth ps → n + length fs ≤ depth (closed_up fs ps)
closed_over [] ps n h = omega arith
closed_over (f ∷ fs) ps n h =
    let e = depth-listed f.before ps f.key in
    let later = closed_over fs (f.before then pair f.key (list ps) no_pairs) (suc n) (omega arith) in
    omega arith

-- a document is at least as deep as lists are open
pub lists_below : (s : State) → length s.lists ≤ height s
lists_below s = let e = closed_over s.lists s.pairs 0 (omega arith) in omega arith

height-flat : (fs : List Frame) (ps : Pairs) (key : List ℕ) (value : Content) → value_depth value ≡ 0
    → depth (closed_up fs (ps then pair key value no_pairs)) ≡ depth (closed_up fs ps)
height-flat fs ps key value h =
    let e = depth-flat ps key value h in
    let up = closed_monotone fs ps (ps then pair key value no_pairs) (omega arith) in
    let down = closed_monotone fs (ps then pair key value no_pairs) ps (omega arith) in
    omega arith

-- from the height h a step does not lead down, nor further up than to the lists that are open then
abbrev pub Keeps : ℕ → Option State → Type 0
Keeps h None = Unit {0}
Keeps h (Some s) = (h ≤ height s) × (height s ≤ max h (length s.lists))

keeps_cond : (t : Bool) (h : ℕ) (x y : Option State) → Keeps h x → Keeps h y → Keeps h (cond t x y)
keeps_cond true h x y a b = a
keeps_cond false h x y a b = b

keeps_close : (fs : List Frame) (ps : Pairs) → Keeps (depth (closed_up fs ps)) (closed fs ps)
keeps_close [] ps = tt
keeps_close (f ∷ fs) ps = (omega arith, omega arith)

keeps_open : (fs : List Frame) (ps : Pairs) (key : List ℕ) → Keeps (depth (closed_up fs ps)) (Some (opened fs ps key))
keeps_open fs ps key =
    let e = depth-listed ps no_pairs key in
    let up = closed_monotone fs ps (ps then pair key (list no_pairs) no_pairs) (omega arith) in
    let within = closed_within fs ps (ps then pair key (list no_pairs) no_pairs) 1 (omega arith) in
    (up, omega arith)

keeps_number : (o : Option NumberPart) (key : List ℕ) (fs : List Frame) (ps : Pairs) (b : ℕ)
    → Keeps (depth (closed_up fs ps)) (option_map (λ part. at (in_number key (b ∷ []) part) fs ps) o)
keeps_number None key fs ps b = tt
keeps_number (Some part) key fs ps b = (omega arith, omega arith)

keeps_begins : (place : Where) (fs : List Frame) (ps : Pairs) (b : ℕ) → Keeps (depth (closed_up fs ps)) (begins place fs ps b)
keeps_begins between fs ps b =
    keeps_cond (b == 93) _ _ _ (keeps_close fs ps) (keeps_cond (begins_key b) _ _ _ (omega arith, omega arith) tt)
keeps_begins (following key) fs ps b =
    keeps_cond (b == 91) _ _ _ (keeps_open fs ps key)
    (keeps_cond (b == 34) _ _ _ (omega arith, omega arith) (keeps_number (begun b) key fs ps b))

keeps_space : (place : Where) (fs : List Frame) (ps : Pairs) (b : ℕ) → Keeps (depth (closed_up fs ps)) (in_space place fs ps b)
keeps_space place fs ps b =
    keeps_cond (is_space b) _ _ _ (omega arith, omega arith)
    (keeps_cond (b == 35) _ _ _ (omega arith, omega arith) (keeps_begins place fs ps b))

keeps_key : (key : List ℕ) (fs : List Frame) (ps : Pairs) (b : ℕ) → Keeps (depth (closed_up fs ps)) (key_step key fs ps b)
keeps_key key fs ps b =
    keeps_cond (is_key_byte b) _ _ _ (omega arith, omega arith) (keeps_cond (is_word_byte b) _ _ _ tt (keeps_space (following key) fs ps b))

keeps_number_step : (key digits : List ℕ) (part : NumberPart) (fs : List Frame) (ps : Pairs) (b : ℕ) (next : Option NumberPart)
    → Keeps (depth (closed_up fs ps)) (number_step key digits part fs ps b next)
keeps_number_step key digits part fs ps b None =
    keeps_cond (is_word_byte b || not (is_complete part)) _ _ _ tt
    (subst (λ h. Keeps h (in_space between fs (ps then pair key (number digits) no_pairs) b)) (height-flat fs ps key (number digits) refl)
    (keeps_space between fs (ps then pair key (number digits) no_pairs) b))
keeps_number_step key digits part fs ps b (Some next) = (omega arith, omega arith)

keeps_text : (key inner : List ℕ) (fs : List Frame) (ps : Pairs) (b : ℕ) → Keeps (depth (closed_up fs ps)) (text_step key inner fs ps b)
keeps_text key inner fs ps b =
    let e = height-flat fs ps key (text inner) refl in
    keeps_cond (b == 34) _ _ _ (omega arith, omega arith) (omega arith, omega arith)

keeps_mode : (mode : Mode) (fs : List Frame) (ps : Pairs) (b : ℕ) → Keeps (depth (closed_up fs ps)) (mode_step mode fs ps b)
keeps_mode (in_gap place) fs ps b = keeps_space place fs ps b
keeps_mode (in_comment place) fs ps b = (omega arith, omega arith)
keeps_mode (in_key key) fs ps b = keeps_key key fs ps b
keeps_mode (in_number key digits part) fs ps b = keeps_number_step key digits part fs ps b (after part b)
keeps_mode (in_text key inner) fs ps b = keeps_text key inner fs ps b

-- a step does not lead down, nor further up than to the lists that are open then
pub step_keeps : (s : State) (b : ℕ) → Keeps (height s) (stepped s b)
step_keeps s b = keeps_mode s.mode s.lists s.pairs b

whole_depth : (fs : List Frame) (ps tree : Pairs) → whole fs ps ≡ Some tree → depth (closed_up fs ps) ≡ depth tree
whole_depth [] ps tree h = ap depth (same_Some ps tree h)
whole_depth (f ∷ fs) ps tree h = absurd (none-some tree h)

-- a document that ends is as deep as its state
pub finished_depth : (mode : Mode) (fs : List Frame) (ps tree : Pairs) → finished mode fs ps ≡ Some tree → depth (closed_up fs ps) ≡ depth tree
finished_depth (in_gap between) fs ps tree h = whole_depth fs ps tree h
finished_depth (in_gap (following key)) fs ps tree h = absurd (none-some tree h)
finished_depth (in_comment between) fs ps tree h = whole_depth fs ps tree h
finished_depth (in_comment (following key)) fs ps tree h = absurd (none-some tree h)
finished_depth (in_key key) fs ps tree h = absurd (none-some tree h)
finished_depth (in_number key digits part) fs ps tree h =
    sym (height-flat fs ps key (number digits) refl)
    ∙ whole_depth fs (ps then pair key (number digits) no_pairs) tree (complete_or_none (is_complete part) _ tree h).1
finished_depth (in_text key inner) fs ps tree h = absurd (none-some tree h)

step_height : (o : Option State) (h : ℕ) (bs : List ℕ) (tree : Pairs) → Keeps h o
    → ((s : State) → accepted bs s ≡ Some tree → height s ≤ depth tree) → option_and_then (accepted bs) o ≡ Some tree → h ≤ depth tree
step_height None h bs tree k later e = absurd (none-some tree e)
step_height (Some s) h bs tree k later e = let below = later s e in omega arith

-- what is accepted from a state is at least as deep
pub accepted_height : (more : List ℕ) (s : State) (tree : Pairs) → accepted more s ≡ Some tree → height s ≤ depth tree
accepted_height [] s tree h = let same = finished_depth s.mode s.lists s.pairs tree h in omega arith
accepted_height (b ∷ bs) s tree h = step_height (stepped s b) (height s) bs tree (step_keeps s b) (λ t. accepted_height bs t tree) h

-- a bracket for each open list
abbrev brackets : List Frame → List ℕ
brackets [] = []
brackets (f ∷ fs) = 93 ∷ brackets fs

brackets_close : (fs : List Frame) (ps : Pairs) → accepted (brackets fs) (at (in_gap between) fs ps) ≡ Some (closed_up fs ps)
brackets_close [] ps = refl
brackets_close (f ∷ fs) ps = brackets_close fs (f.before then pair f.key (list ps) no_pairs)

-- bytes that complete a state to a document, and to one that is no deeper
pub record Completion (s : State) : Type 0 where
  pub more : List ℕ
  pub tree : Pairs
  pub is_accepted : accepted more s ≡ Some tree
  pub no_deeper : depth tree ≤ height s

after_value : (fs : List Frame) (ps : Pairs) (key : List ℕ) (value : Content) → value_depth value ≡ 0
    → depth (closed_up fs (ps then pair key value no_pairs)) ≤ depth (closed_up fs ps)
after_value fs ps key value h = let e = height-flat fs ps key value h in omega arith

complete_number : (key digits : List ℕ) (part : NumberPart) (fs : List Frame) (ps : Pairs) → is_complete part ≡ true
    → accepted (32 ∷ brackets fs) (at (in_number key digits part) fs ps) ≡ Some (closed_up fs (ps then pair key (number digits) no_pairs))
complete_number key digits Sign fs ps h = absurd cc
complete_number key digits Whole fs ps h = brackets_close fs (ps then pair key (number digits) no_pairs)
complete_number key digits Point fs ps h = absurd cc
complete_number key digits Fraction fs ps h = brackets_close fs (ps then pair key (number digits) no_pairs)
complete_number key digits Mark fs ps h = absurd cc
complete_number key digits MarkSign fs ps h = absurd cc
complete_number key digits Exponent fs ps h = brackets_close fs (ps then pair key (number digits) no_pairs)

ended_number : (key digits : List ℕ) (part : NumberPart) (fs : List Frame) (ps : Pairs) → is_complete part ≡ true
    → Completion (at (in_number key digits part) fs ps)
ended_number key digits part fs ps h = record {
  more = 32 ∷ brackets fs;
  tree = closed_up fs (ps then pair key (number digits) no_pairs);
  is_accepted = complete_number key digits part fs ps h;
  no_deeper = after_value fs ps key (number digits) refl;
}

more_number : (key digits : List ℕ) (part next : NumberPart) (fs : List Frame) (ps : Pairs) → after part 48 ≡ Some next → is_complete next ≡ true
    → Completion (at (in_number key digits part) fs ps)
more_number key digits part next fs ps e h = record {
  more = 48 ∷ 32 ∷ brackets fs;
  tree = closed_up fs (ps then pair key (number (digits ++ 48 ∷ [])) no_pairs);
  is_accepted = ap (λ o. option_and_then (accepted (32 ∷ brackets fs)) (number_step key digits part fs ps 48 o)) e
      ∙ complete_number key (digits ++ 48 ∷ []) next fs ps h;
  no_deeper = after_value fs ps key (number (digits ++ 48 ∷ [])) refl;
}

number_completes : (key digits : List ℕ) (part : NumberPart) (fs : List Frame) (ps : Pairs) → Completion (at (in_number key digits part) fs ps)
number_completes key digits Sign fs ps = more_number key digits Sign Whole fs ps refl refl
number_completes key digits Whole fs ps = ended_number key digits Whole fs ps refl
number_completes key digits Point fs ps = more_number key digits Point Fraction fs ps refl refl
number_completes key digits Fraction fs ps = ended_number key digits Fraction fs ps refl
number_completes key digits Mark fs ps = more_number key digits Mark Exponent fs ps refl refl
number_completes key digits MarkSign fs ps = more_number key digits MarkSign Exponent fs ps refl refl
number_completes key digits Exponent fs ps = ended_number key digits Exponent fs ps refl

-- each state can be completed
mode_completes : (mode : Mode) (fs : List Frame) (ps : Pairs) → Completion (at mode fs ps)
mode_completes (in_gap between) fs ps = record {
  more = brackets fs;
  tree = closed_up fs ps;
  is_accepted = brackets_close fs ps;
  no_deeper = omega arith;
}
mode_completes (in_gap (following key)) fs ps = record {
  more = 48 ∷ 32 ∷ brackets fs;
  tree = closed_up fs (ps then pair key (number (48 ∷ [])) no_pairs);
  is_accepted = brackets_close fs (ps then pair key (number (48 ∷ [])) no_pairs);
  no_deeper = after_value fs ps key (number (48 ∷ [])) refl;
}
mode_completes (in_comment between) fs ps = record {
  more = 10 ∷ brackets fs;
  tree = closed_up fs ps;
  is_accepted = brackets_close fs ps;
  no_deeper = omega arith;
}
mode_completes (in_comment (following key)) fs ps = record {
  more = 10 ∷ 48 ∷ 32 ∷ brackets fs;
  tree = closed_up fs (ps then pair key (number (48 ∷ [])) no_pairs);
  is_accepted = brackets_close fs (ps then pair key (number (48 ∷ [])) no_pairs);
  no_deeper = after_value fs ps key (number (48 ∷ [])) refl;
}
mode_completes (in_key key) fs ps = record {
  more = 32 ∷ 48 ∷ 32 ∷ brackets fs;
  tree = closed_up fs (ps then pair key (number (48 ∷ [])) no_pairs);
  is_accepted = brackets_close fs (ps then pair key (number (48 ∷ [])) no_pairs);
  no_deeper = after_value fs ps key (number (48 ∷ [])) refl;
}
mode_completes (in_number key digits part) fs ps = number_completes key digits part fs ps
mode_completes (in_text key inner) fs ps = record {
  more = 34 ∷ brackets fs;
  tree = closed_up fs (ps then pair key (text inner) no_pairs);
  is_accepted = brackets_close fs (ps then pair key (text inner) no_pairs);
  no_deeper = after_value fs ps key (text inner) refl;
}

pub completion : (s : State) → Completion s
completion s = mode_completes s.mode s.lists s.pairs
