-- The words of a line, and the line of words.
use Rattle.std.proofs.Common.{◌≡◌, ℕ, ◌<◌, ◌^◌, true, false, cond, List, [], ◌∷◌, ◌++◌, take, Option, None, Some, ℤ, pos, negsuc, suc, refl, ap, ◌∙◌, arith}
use Rattle.std.specs.Prelude.{◌==◌, decimal, unsigned_abs}
use Rattle.std.specs.Char.{is_ascii_digit}
use Rattle.std.specs.Fmt.{signed_decimal}
use Rattle.std.specs.List.{AllByRecursion, list_all, onto_first}
use Rattle.std.proofs.lemmas.Bool.{and_parts}
use Rattle.std.proofs.lemmas.Bool.Decides.{nat_tests}
use Rattle.proof_text.specs.Forms.{line_of_words, words}
use Rattle.proof_text.specs.Lines.{IsOneLine}
use Rattle.proof_text.specs.Text.{IsWritableLabel, label_word, most_number, joined_words}
use Rattle.proof_text.proofs.Numbers.{decimal_digits}

-- no form has more than eight words
pub front_decides : (ws : List (List ℕ)) → line_of_words (take 9 ws) ≡ line_of_words ws
front_decides [] = refl
front_decides (n ∷ []) = refl
front_decides (n ∷ a ∷ []) = refl
front_decides (n ∷ a ∷ b ∷ []) = refl
front_decides (n ∷ a ∷ b ∷ c ∷ []) = refl
front_decides (n ∷ a ∷ b ∷ c ∷ d ∷ []) = refl
front_decides (n ∷ a ∷ b ∷ c ∷ d ∷ e ∷ []) = refl
front_decides (n ∷ a ∷ b ∷ c ∷ d ∷ e ∷ f ∷ []) = refl
front_decides (n ∷ a ∷ b ∷ c ∷ d ∷ e ∷ f ∷ g ∷ []) = refl
front_decides (n ∷ a ∷ b ∷ c ∷ d ∷ e ∷ f ∷ g ∷ h ∷ ws) = refl

-- no byte of a word is a blank or one that ends a line
abbrev pub IsWord : List ℕ → Type 0
IsWord word = AllByRecursion (λ b. 32 < b) word

digits_word : (ds : List ℕ) → list_all is_ascii_digit ds ≡ true → IsWord ds
digits_word [] all = tt
digits_word (d ∷ ds) all =
    let parts = and_parts (is_ascii_digit d) (list_all is_ascii_digit ds) all in
    let digit = parts.0 in
    (grind (arith, nat_tests, digit), digits_word ds parts.1)

pub decimal_word : (n : ℕ) → n < 2 ^ 64 → IsWord (decimal n)
decimal_word n small = digits_word (decimal n) (decimal_digits n small)

pub signed_word : (z : ℤ) → unsigned_abs z < most_number → IsWord (signed_decimal z)
signed_word (pos n) small = decimal_word n (omega arith)
signed_word (negsuc n) small = (omega arith, decimal_word (suc n) (omega arith))

pub label_is_word : (l : Option ℕ) → IsWritableLabel l → IsWord (label_word l)
label_is_word None small = (omega arith, tt)
label_is_word (Some n) small = decimal_word n (omega arith)

no_blank : (b : ℕ) → 32 < b → b == 32 ≡ false
no_blank b h = grind (arith, nat_tests)

split_last : (w : List ℕ) → IsWord w → words w ≡ w ∷ []
split_last [] p = refl
split_last (b ∷ w) p = ap (λ t. cond t ([] ∷ words w) (onto_first b (words w))) (no_blank b p.0) ∙ ap (onto_first b) (split_last w p.1)

split_first : (w rest : List ℕ) → IsWord w → words (w ++ 32 ∷ rest) ≡ w ∷ words rest
split_first [] rest p = refl
split_first (b ∷ w) rest p =
    ap (λ t. cond t ([] ∷ words (w ++ 32 ∷ rest)) (onto_first b (words (w ++ 32 ∷ rest)))) (no_blank b p.0) ∙ ap (onto_first b) (split_first w rest p.1)

-- the words that make a line are those of the line
pub words-joined_words : (w : List ℕ) (ws : List (List ℕ)) → AllByRecursion IsWord (w ∷ ws) → words (joined_words (w ∷ ws)) ≡ w ∷ ws
words-joined_words w [] p = split_last w p.0
words-joined_words w (v ∷ ws) p = split_first w (joined_words (v ∷ ws)) p.0 ∙ ap (λ vs. w ∷ vs) (words-joined_words v ws p.1)

word_one_line : (w rest : List ℕ) → IsWord w → IsOneLine rest → IsOneLine (w ++ rest)
word_one_line [] rest p q = q
word_one_line (b ∷ w) rest p q = (λ is. omega (arith, p.0, is), word_one_line w rest p.1 q)

-- and no line feed stands among them
pub words_one_line : (w : List ℕ) (ws : List (List ℕ)) → AllByRecursion IsWord (w ∷ ws) → IsOneLine (joined_words (w ∷ ws))
words_one_line w [] p = one w p.0
  where
    one : (w : List ℕ) → IsWord w → IsOneLine w
    one [] p = tt
    one (b ∷ w) p = (λ is. omega (arith, p.0, is), one w p.1)
words_one_line w (v ∷ ws) p = word_one_line w (32 ∷ joined_words (v ∷ ws)) p.0 ((λ is. omega (arith, is)), words_one_line v ws p.1)
