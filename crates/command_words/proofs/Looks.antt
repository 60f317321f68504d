-- The form of an argument for the definitions and for clap.
use Rattle.std.proofs.Common.{◌≡◌, inl, inr, ℕ, Bool, true, false, List, [], ◌∷◌, Some, None, codes, refl, subst}
use Rattle.std.specs.Prelude.{◌==◌, slice_get, bytes_eq}
use Rattle.std.specs.List.{before_first}
use Rattle.std.specs.Char.{encode_utf8}
use Rattle.std.specs.Str.{IsUtf8, chars, encode_utf8_all}
use Rattle.std.proofs.lemmas.Bool.{cases_Bool}
use Rattle.std.proofs.lemmas.Bool.{eqb-true}
use Rattle.std.proofs.lemmas.Str.{encodes-chars}
use Rattle.clap.specs.Lexer.{long_of, name_and_value, short_of}
use Rattle.command_words.specs.Words.{Said, is_option, option_value, with_named, with_option}

abbrev pub dashes : List ℕ
dashes = codes "--"

-- an argument is no option, or `--`, or has a name after two minuses, or letters after one
pub data Look (word : List ℕ) : Type 0 where
  is_plain : is_option word ≡ false → bytes_eq word dashes ≡ false → long_of word ≡ None → short_of word ≡ None → Look word
  is_end : is_option word ≡ true → bytes_eq word dashes ≡ true → Look word
  is_long : (text : List ℕ) → is_option word ≡ true → bytes_eq word dashes ≡ false → long_of word ≡ Some (name_and_value text)
      → ((has : Bool) (s : Said) → with_option has s word ≡ with_named has s (before_first (λ b. b == 61) text) (option_value text)) → Look word
  is_short : (c b : ℕ) (bs : List ℕ) → is_option word ≡ true → bytes_eq word dashes ≡ false → long_of word ≡ None → short_of word ≡ Some (b ∷ bs)
      → slice_get (chars (b ∷ bs)) 0 ≡ Some c → ((has : Bool) (s : Said) → with_option has s word ≡ None) → Look word

-- two constructors differ
pub some_none : {X : Type 0} (x : X) → Some x ≡ None → ⊥
some_none x e = cc

too_short : (b : ℕ) (bs : List ℕ) → 45 ∷ [] ≡ 45 ∷ b ∷ bs → ⊥
too_short b bs e = cc

first_of : (b : ℕ) (bs cs : List ℕ) → encode_utf8_all (45 ∷ cs) ≡ 45 ∷ b ∷ bs → (c : ℕ) × (slice_get cs 0 ≡ Some c)
unfolding encode_utf8
first_of b bs [] e = absurd (too_short b bs e)
first_of b bs (c ∷ cs) e = (c, refl)

-- after a minus a text has a first character
first_char : (b : ℕ) (bs : List ℕ) → IsUtf8 (45 ∷ b ∷ bs) → (c : ℕ) × (slice_get (chars (b ∷ bs)) 0 ≡ Some c)
unfolding chars
first_char b bs h = first_of b bs (chars (b ∷ bs)) (encodes-chars (45 ∷ b ∷ bs) h)

look_one : (x : ℕ) → Look (x ∷ [])
look_one x = elim (cases_Bool (x == 45)) [
  | inl h ↦ is_plain refl (rw h refl) (rw h refl) (rw h refl)
  | inr h ↦ is_plain refl (rw h refl) (rw h refl) (rw h refl)
]

look_dashed : (x y : ℕ) (rest : List ℕ) → (x == 45) ≡ true → (y == 45) ≡ true → Look (x ∷ y ∷ rest)
look_dashed x y [] h k = is_end h (rw (h, k) refl)
look_dashed x y (z ∷ rest) h k = is_long (z ∷ rest) h (rw (h, k) refl) (rw (h, k) refl) (λ has s. rw k refl)

look_short : (x y : ℕ) (rest : List ℕ) → (x == 45) ≡ true → (y == 45) ≡ false → IsUtf8 (x ∷ y ∷ rest) → Look (x ∷ y ∷ rest)
look_short x y rest h k utf8 =
    let minus : x ≡ 45 = eqb-true x 45 h in
    let first = first_char y rest (subst (λ (b : ℕ). IsUtf8 (b ∷ y ∷ rest)) minus utf8) in
    is_short first.0 y rest h (rw (h, k) refl) (rw (h, k) refl) (rw (h, k) refl) first.1 (λ has s. rw k refl)

look_two : (x y : ℕ) (rest : List ℕ) → IsUtf8 (x ∷ y ∷ rest) → Look (x ∷ y ∷ rest)
look_two x y rest utf8 = elim (cases_Bool (x == 45)) [
  | inl h ↦ elim (cases_Bool (y == 45)) [
    | inl k ↦ look_dashed x y rest h k
    | inr k ↦ look_short x y rest h k utf8
  ]
  | inr h ↦ is_plain h (rw h refl) (rw h refl) (rw h refl)
]

pub look : (word : List ℕ) → IsUtf8 word → Look word
look [] utf8 = is_plain refl refl refl refl
look (x ∷ []) utf8 = look_one x
look (x ∷ y ∷ rest) utf8 = look_two x y rest utf8
