-- Directions that are read letter by letter are those of the whole word.
use Rattle.std.proofs.Common.{◌≡◌, ℕ, ◌<◌, ◌≤◌, Bool, true, false, cond, suc, List, [], ◌∷◌, length, get_or, drop, Some, None, refl, sym, ap, subst, ◌∙◌, arith, drop-cons}
use Rattle.std.specs.Prelude.{◌&&◌, ◌||◌, ◌==◌, nat_lt, not, codes, option_and_then, IsTrue}
use Rattle.std.specs.List.{list_all}
use Rattle.std.proofs.lemmas.Bool.{and_parts, lt-ltb}
use Rattle.std.proofs.lemmas.Bool.Decides.{nat_tests}
use Rattle.std.proofs.lemmas.List.{drop_all}
use Rattle.scene_model.specs.declared.pin.Dirs.{Dirs}
use Rattle.scene_model.specs.Valid.{HasDirection}
use Rattle.scene_model.specs.Letters.{has_letter, are_different, dirs_of}
use Rattle.scene_model.specs.LetterSteps.{with_letter, with_letters}

-- the directions of letters, and whether a letter is one
abbrev dirs_in : List ℕ → Dirs
dirs_in ls = record { east = has_letter 69 ls; south = has_letter 83 ls; west = has_letter 87 ls; north = has_letter 78 ls }

abbrev pub is_known : ℕ → Bool
is_known l = has_letter l (codes "ESWN")

-- each letter is a direction's and did not occur before
abbrev are_allowed : List ℕ → List ℕ → Bool
are_allowed seen [] = true
are_allowed seen (l ∷ ls) = (is_known l && not (has_letter l seen)) && are_allowed (l ∷ seen) ls

-- the letters, the last first, in front of the earlier ones
abbrev onto : List ℕ → List ℕ → List ℕ
onto [] seen = seen
onto (l ∷ ls) seen = onto ls (l ∷ seen)

pub data Tested (b : Bool) : Type 0 where
  yes : b ≡ true → Tested b
  no : b ≡ false → Tested b

pub tested : (b : Bool) → Tested b
tested true = yes refl
tested false = no refl

pub is : (a b : ℕ) → (a == b) ≡ true → a ≡ b
is a b h = grind (arith, nat_tests)

turned : (a b : ℕ) → (a == b) ≡ false → (b == a) ≡ false
turned a b h = grind (arith, nat_tests)

same_test : (a b : ℕ) → (a == b) ≡ (b == a)
same_test a b = grind (arith, nat_tests)

-- one letter more
abbrev OneMore : List ℕ → ℕ → Type 0
OneMore seen l = with_letter (dirs_in seen) l ≡ cond (is_known l && not (has_letter l seen)) (Some (dirs_in (l ∷ seen))) None

one_more : (seen : List ℕ) (l : ℕ) → OneMore seen l
one_more seen l = elim (tested (l == 69)) as (λ _. OneMore seen l) [
  | yes h ↦ subst (OneMore seen) (sym (is l 69 h)) refl
  | no h ↦ elim (tested (l == 83)) as (λ _. OneMore seen l) [
    | yes k ↦ subst (OneMore seen) (sym (is l 83 k)) refl
    | no k ↦ elim (tested (l == 87)) as (λ _. OneMore seen l) [
      | yes m ↦ subst (OneMore seen) (sym (is l 87 m)) refl
      | no m ↦ elim (tested (l == 78)) as (λ _. OneMore seen l) [
        | yes n ↦ subst (OneMore seen) (sym (is l 78 n)) refl
        | no n ↦ rw (h, k, m, n, turned l 69 h, turned l 83 k, turned l 87 m, turned l 78 n) refl
      ]
    ]
  ]
]

-- all letters
all_more : (seen ls : List ℕ) → with_letters (dirs_in seen) ls ≡ cond (are_allowed seen ls) (Some (dirs_in (onto ls seen))) None
all_more seen [] = refl
all_more seen (l ∷ ls) = elim (tested (is_known l && not (has_letter l seen))) as
    (λ _. with_letters (dirs_in seen) (l ∷ ls) ≡ cond (are_allowed seen (l ∷ ls)) (Some (dirs_in (onto (l ∷ ls) seen))) None)
    [ yes h ↦ rw (one_more seen l, h) (all_more (l ∷ seen) ls) | no h ↦ rw (one_more seen l, h) refl ]

-- no letter occurred before
abbrev are_fresh : List ℕ → List ℕ → Bool
are_fresh seen ls = list_all (λ l. not (has_letter l seen)) ls

regrouped : (e m l f : Bool) → (not (e || m) && (not l && f)) ≡ (not (e || l) && (not m && f))
regrouped true m l f = refl
regrouped false true true f = refl
regrouped false true false f = refl
regrouped false false l f = refl

fresh_more : (seen : List ℕ) (l : ℕ) (ls : List ℕ) → are_fresh (l ∷ seen) ls ≡ (not (has_letter l ls) && are_fresh seen ls)
fresh_more seen l [] = refl
fresh_more seen l (m ∷ ls) =
    ap (λ f. not ((l == m) || has_letter m seen) && f) (fresh_more seen l ls)
    ∙ regrouped (l == m) (has_letter m seen) (has_letter l ls) (are_fresh seen ls)
    ∙ ap (λ e. not (e || has_letter l ls) && (not (has_letter m seen) && are_fresh seen ls)) (same_test l m)

shuffled : (known seen all again fresh different : Bool) →
    ((known && not seen) && (all && ((not again && fresh) && different))) ≡ ((known && all) && ((not seen && fresh) && (not again && different)))
shuffled false seen all again fresh different = refl
shuffled true true true again fresh different = refl
shuffled true true false again fresh different = refl
shuffled true false false again fresh different = refl
shuffled true false true true true different = refl
shuffled true false true true false different = refl
shuffled true false true false true different = refl
shuffled true false true false false different = refl

allowed_parts : (seen ls : List ℕ) → are_allowed seen ls ≡ (list_all is_known ls && (are_fresh seen ls && are_different ls))
allowed_parts seen [] = refl
allowed_parts seen (l ∷ ls) =
    ap (λ b. (is_known l && not (has_letter l seen)) && b)
    (allowed_parts (l ∷ seen) ls ∙ ap (λ f. list_all is_known ls && (f && are_different ls)) (fresh_more seen l ls))
    ∙ shuffled (is_known l) (has_letter l seen) (list_all is_known ls) (has_letter l ls) (are_fresh seen ls) (are_different ls)

fresh_at_first : (ls : List ℕ) → are_fresh [] ls ≡ true
fresh_at_first [] = refl
fresh_at_first (l ∷ ls) = fresh_at_first ls

moved : (a e s : Bool) → (a || (e || s)) ≡ ((e || a) || s)
moved true true s = refl
moved true false s = refl
moved false true s = refl
moved false false s = refl

has_onto : (x : ℕ) (ls seen : List ℕ) → has_letter x (onto ls seen) ≡ (has_letter x ls || has_letter x seen)
has_onto x [] seen = refl
has_onto x (l ∷ ls) seen = has_onto x ls (l ∷ seen) ∙ moved (has_letter x ls) (l == x) (has_letter x seen)

or_nothing : (b : Bool) → (b || false) ≡ b
or_nothing true = refl
or_nothing false = refl

same_dirs : (ls : List ℕ) → dirs_in (onto ls []) ≡ dirs_in ls
same_dirs ls =
    let east = has_onto 69 ls [] ∙ or_nothing (has_letter 69 ls) in
    let south = has_onto 83 ls [] ∙ or_nothing (has_letter 83 ls) in
    let west = has_onto 87 ls [] ∙ or_nothing (has_letter 87 ls) in
    let north = has_onto 78 ls [] ∙ or_nothing (has_letter 78 ls) in
    cc

-- letter by letter or at once
pub letters_read : (word : List ℕ) → 0 < length word → dirs_of word ≡ with_letters (record { east = false; south = false; west = false; north = false }) word
letters_read word some =
    let known : Bool = list_all is_known word in
    let allowed : are_allowed [] word ≡ (known && are_different word) = allowed_parts [] word ∙ ap (λ f. known && (f && are_different word)) (fresh_at_first word) in
    ap (λ b. cond (b && (known && are_different word)) (Some (dirs_in word)) None) (lt-ltb 0 (length word) some)
    ∙ sym (all_more [] word ∙ ap (λ b. cond b (Some (dirs_in (onto word []))) None) allowed ∙ ap (λ d. cond (known && are_different word) (Some d) None) (same_dirs word))

-- if a letter is no direction's or occurs twice, the word spells no directions
pub letters_end : (d : Dirs) (word : List ℕ) (i : ℕ) → i < length word → with_letter d (get_or word i 0) ≡ None → with_letters d (drop i word) ≡ None
letters_end d word i within none =
    ap (with_letters d) (drop-cons word i 0 within) ∙ ap (option_and_then (λ e. with_letters e (drop (suc i) word))) none

-- where no letter is left, these are the directions
pub letters_done : (d : Dirs) (word : List ℕ) (i : ℕ) → length word ≤ i → with_letters d (drop i word) ≡ Some d
letters_done d word i over = rw (drop_all i word over) refl

-- letters that spell directions spell one at least
second : (e w n : Bool) → IsTrue (((e || true) || w) || n)
second true w n = refl
second false w n = refl

third : (e s n : Bool) → IsTrue (((e || s) || true) || n)
third true s n = refl
third false true n = refl
third false false n = refl

fourth : (e s w : Bool) → IsTrue (((e || s) || w) || true)
fourth true s w = refl
fourth false true w = refl
fourth false false true = refl
fourth false false false = refl

-- the directions of letters of which the first is one
abbrev Leads : List ℕ → ℕ → Type 0
Leads ls l = IsTrue (((has_letter 69 (l ∷ ls) || has_letter 83 (l ∷ ls)) || has_letter 87 (l ∷ ls)) || has_letter 78 (l ∷ ls))

leads : (l : ℕ) (ls : List ℕ) → is_known l ≡ true → Leads ls l
leads l ls known = elim (tested (69 == l)) as (λ _. Leads ls l) [
  | yes h ↦ subst (Leads ls) (is 69 l h) refl
  | no h ↦ elim (tested (83 == l)) as (λ _. Leads ls l) [
    | yes k ↦ subst (Leads ls) (is 83 l k) (second (has_letter 69 ls) (has_letter 87 ls) (has_letter 78 ls))
    | no k ↦ elim (tested (87 == l)) as (λ _. Leads ls l) [
      | yes m ↦ subst (Leads ls) (is 87 l m) (third (has_letter 69 ls) (has_letter 83 ls) (has_letter 78 ls))
      | no m ↦ elim (tested (78 == l)) as (λ _. Leads ls l) [
        | yes n ↦ subst (Leads ls) (is 78 l n) (fourth (has_letter 69 ls) (has_letter 83 ls) (has_letter 87 ls))
        | no n ↦ (let e : false ≡ true = rw (h, k, m, n) at known in cc)
      ]
    ]
  ]
]

pub dirs_lead : (ls : List ℕ) (d : Dirs) → dirs_of ls ≡ Some d → HasDirection d
dirs_lead [] d h = cc
dirs_lead (l ∷ ls) d h = elim (tested (nat_lt 0 (length (l ∷ ls)) && (list_all is_known (l ∷ ls) && are_different (l ∷ ls)))) as (λ _. HasDirection d) [
  | yes t ↦
      (let parts = and_parts (nat_lt 0 (length (l ∷ ls))) (list_all is_known (l ∷ ls) && are_different (l ∷ ls)) t in
      let known = and_parts (is_known l) (list_all is_known ls) (and_parts (list_all is_known (l ∷ ls)) (are_different (l ∷ ls)) parts.1).0 in
      let same : Some (record { east = has_letter 69 (l ∷ ls); south = has_letter 83 (l ∷ ls); west = has_letter 87 (l ∷ ls); north = has_letter 78 (l ∷ ls) }) ≡ Some d = rw t at h in
      subst HasDirection (inside same) (leads l ls known.0))
  | no t ↦ (let none : None ≡ Some d = rw t at h in cc)
]
  where
    inside : {a b : Dirs} → Some a ≡ Some b → a ≡ b
    inside h = cc
