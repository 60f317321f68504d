-- The printed form, piece by piece, and as a spelling.
use Rattle.std.proofs.Common.{◌≡◌, ℕ, zero, suc, ◌+◌, ◌≤◌, ◌<◌, List, [], ◌∷◌, ◌++◌, length, take, get_or, inl, inr, refl, sym, ap, ◌∙◌, subst, arith, append_assoc, add-one}
use Rattle.std.proofs.lemmas.List.{take_more}
use Rattle.gml_text.proofs.Views.{pairs-push}
use Rattle.gml_text.specs.Tree.{Content, number, text, list, Pairs, no_pairs, pair, depth, ◌then◌}
use Rattle.std.specs.List.{AllByRecursion, concat}
use Rattle.std.proofs.lemmas.List.{append-nil}
use Rattle.gml_text.specs.Grammar.{IsBlank, IsWhiteSpace, EndsWord, SpellsPairs, SpellsValue, StandsApart, SpellsDocument}
use Rattle.gml_text.specs.Parse.{IsDocument}
use Rattle.gml_text.specs.Printed.{indent, printed, printed_inside, printed_value, IsGrammatical, IsGrammaticalValue, IsPrintable}
use Rattle.gml_text.proofs.Accepting.{gap_ends_word, stands_apart_append}
use Rattle.gml_text.proofs.Spelling.{gap_cons, no_gap, blank_in_front, space_blank}
use Rattle.gml_text.specs.View.{pairs}
use Rattle.gml_text.specs.declared.tree.Pair.{Pair}

indent_suc : (level : ℕ) → indent level ++ indent 1 ≡ indent (suc level)
indent_suc zero = refl
indent_suc (suc level) = ap (λ x. 32 ∷ 32 ∷ x) (indent_suc level)

-- one more indent
pub indent_more : (level : ℕ) → indent level ++ indent 1 ≡ indent (level + 1)
indent_more level = indent_suc level ∙ ap indent (sym (add-one level))

pub printed_inside-then : (a b : Pairs) (level : ℕ) → printed_inside level (a then b) ≡ printed_inside level a ++ printed_inside level b
printed_inside-then no_pairs b level = refl
printed_inside-then (pair key value rest) b level =
    let line : List ℕ = indent level ++ (key ++ (32 ∷ (printed_value level value ++ 10 ∷ []))) in
    ap (λ x. line ++ x) (printed_inside-then rest b level) ∙ sym (append_assoc line (printed_inside level rest) (printed_inside level b))

-- a pair of some is no deeper than they are
pub depth_of_item : (ps : List Pair) (i : ℕ) (d : Pair) → i < length ps → depth (pairs (get_or ps i d ∷ [])) ≤ depth (pairs ps)
depth_of_item [] i d h = absurd (omega arith)
depth_of_item (p ∷ ps) zero d h = omega arith
depth_of_item (p ∷ ps) (suc i) d h = let later = depth_of_item ps i d (omega arith) in omega arith

-- the lines of one more pair
pub more_lines : (ps : List Pair) (i : ℕ) (p : Pair) (level : ℕ) → i < length ps → p ≡ get_or ps i p
    → printed_inside level (pairs (take i ps)) ++ printed_inside level (pairs (p ∷ [])) ≡ printed_inside level (pairs (take (i + 1) ps))
more_lines ps i p level h e =
    sym (printed_inside-then (pairs (take i ps)) (pairs (p ∷ [])) level)
    ∙ ap (printed_inside level) (sym (pairs-push (take i ps) p) ∙ ap pairs (sym (take_more ps i p h ∙ ap (λ x. take i ps ++ x ∷ []) (sym e))))

-- and they fit under the limit
pub fits_inside : (ps : List Pair) (i : ℕ) (p : Pair) (level : ℕ) → i < length ps → p ≡ get_or ps i p → depth (pairs ps) + level ≤ 64
    → depth (pairs (p ∷ [])) + level ≤ 64
fits_inside ps i p level h e within =
    let below = depth_of_item ps i p h in
    let same : depth (pairs (p ∷ [])) ≡ depth (pairs (get_or ps i p ∷ [])) = ap (λ x. depth (pairs (x ∷ []))) e in
    omega arith

blanks_then_gap : (blanks : List (List ℕ)) (gap : List ℕ) → AllByRecursion IsBlank blanks → IsWhiteSpace gap → IsWhiteSpace (concat blanks ++ gap)
blanks_then_gap [] gap h g = g
blanks_then_gap (x ∷ xs) gap h g =
    subst IsWhiteSpace (sym (append_assoc x (concat xs) gap)) (gap_cons x (concat xs ++ gap) h.0 (blanks_then_gap xs gap h.1 g))

gap_append : (a b : List ℕ) → IsWhiteSpace a → IsWhiteSpace b → IsWhiteSpace (a ++ b)
gap_append a b g h = subst (λ x. IsWhiteSpace (x ++ b)) (sym g.1) (blanks_then_gap g.0 b g.2 h)

indent_gap : (level : ℕ) → IsWhiteSpace (indent level)
indent_gap zero = no_gap
indent_gap (suc level) =
    gap_cons (32 ∷ []) (32 ∷ indent level) (space_blank 32 refl) (gap_cons (32 ∷ []) (indent level) (space_blank 32 refl) (indent_gap level))

regroup : (a b c d e f : List ℕ) → (a ++ (b ++ (c ++ (d ++ e)))) ++ f ≡ a ++ (b ++ (c ++ (d ++ (e ++ f))))
regroup a b c d e f = simp append_assoc

-- white space may follow pairs
gap_following : (tree : Pairs) (bytes gap : List ℕ) → SpellsPairs tree bytes → IsWhiteSpace gap → SpellsPairs tree (bytes ++ gap)
gap_following no_pairs bytes gap h g = gap_append bytes gap h g
gap_following (pair key value rest) bytes gap h g =
    let ends = subst EndsWord (append-nil gap) (gap_ends_word gap [] g (inr tt)) in (
      h.0,
      h.1,
      h.2,
      h.3 ++ gap,
      ap (λ x. x ++ gap) h.4 ∙ regroup h.0 key h.1 h.2 h.3 gap,
      h.5,
      h.6,
      h.7,
      h.8,
      stands_apart_append value h.1 h.3 gap h.9 ends,
      gap_following rest h.3 gap h.10 g,
    )

one_space_apart : (value : Content) (following : List ℕ) → StandsApart value (32 ∷ []) (10 ∷ following)
one_space_apart (number digits) following = (omega arith, refl)
one_space_apart (text inner) following = tt
one_space_apart (list inner) following = tt

line_regroup : (a b c d : List ℕ) → (a ++ (b ++ (32 ∷ (c ++ 10 ∷ [])))) ++ d ≡ a ++ (b ++ (32 ∷ (c ++ 10 ∷ d)))
line_regroup a b c d = simp append_assoc

mutual
  printed_spells : (tree : Pairs) (level : ℕ) → IsGrammatical tree → SpellsPairs tree (printed_inside level tree)
  printed_spells no_pairs level g = no_gap
  printed_spells (pair key value rest) level g = (
    indent level,
    32 ∷ [],
    printed_value level value,
    10 ∷ printed_inside level rest,
    line_regroup (indent level) key (printed_value level value) (printed_inside level rest),
    indent_gap level,
    g.0,
    gap_cons (32 ∷ []) [] (space_blank 32 refl) no_gap,
    printed_value_spells value level g.1,
    one_space_apart value (printed_inside level rest),
    blank_in_front rest (10 ∷ []) (printed_inside level rest) (space_blank 10 refl) (printed_spells rest level g.2),
  )

  printed_value_spells : (value : Content) (level : ℕ) → IsGrammaticalValue value → SpellsValue value (printed_value level value)
  printed_value_spells (number digits) level g = (refl, g)
  printed_value_spells (text inner) level g = (refl, g)
  printed_value_spells (list inner) level g = (
    10 ∷ (printed_inside (level + 1) inner ++ indent level),
    ap (λ x. 91 ∷ 10 ∷ x) (sym (append_assoc (printed_inside (level + 1) inner) (indent level) (93 ∷ []))),
    blank_in_front inner (10 ∷ []) (printed_inside (level + 1) inner ++ indent level) (space_blank 10 refl)
        (gap_following inner (printed_inside (level + 1) inner) (indent level) (printed_spells inner (level + 1) g) (indent_gap level)),
  )

-- what is printed is a spelling
pub printed_is_spelling : (tree : Pairs) → IsGrammatical tree → SpellsDocument tree (printed tree)
printed_is_spelling tree g = record {
  body = printed tree;
  ending = [];
  spelled = sym (append-nil (printed tree));
  pairs = printed_spells tree 0 g;
  is_ending = inl refl;
}

mutual
  spelled_grammatical : (tree : Pairs) (bytes : List ℕ) → SpellsPairs tree bytes → IsGrammatical tree
  spelled_grammatical no_pairs bytes h = tt
  spelled_grammatical (pair key value rest) bytes h = (h.6, value_grammatical value h.2 h.8, spelled_grammatical rest h.3 h.10)

  value_grammatical : (value : Content) (bytes : List ℕ) → SpellsValue value bytes → IsGrammaticalValue value
  value_grammatical (number digits) bytes h = h.1
  value_grammatical (text inner) bytes h = h.1
  value_grammatical (list inner) bytes h = spelled_grammatical inner h.0 h.2

-- a tree that is spelled may be printed
pub document_is_printable : (tree : Pairs) (bytes : List ℕ) → IsDocument tree bytes → IsPrintable tree
document_is_printable tree bytes d =
    record { grammatical = spelled_grammatical tree d.spelled.body d.spelled.pairs; within_limit = d.within_limit }
