-- Whole lines in front of other bytes: they are found again in one way.
use Rattle.std.proofs.Common.{◌≡◌, ℕ, ◌+◌, List, [], ◌∷◌, ◌++◌, length, refl, sym, ap, ◌∙◌, arith, append_assoc}
use Rattle.std.specs.List.{AllByRecursion}
use Rattle.proof_text.specs.Lines.{newline, ended_line, text_of_lines, IsOneLine}

-- bytes that begin with a line begin with one line only
pub record SameFirst (a b x y : List ℕ) : Type 0 where
  pub line : a ≡ b
  pub after : x ≡ y

pub first_line_same : (a b x y : List ℕ) → IsOneLine a → IsOneLine b → a ++ newline ∷ x ≡ b ++ newline ∷ y → SameFirst a b x y
first_line_same [] [] x y p q e = record { line = refl; after = cc }
first_line_same [] (c ∷ b) x y p q e = (let is : c ≡ newline = cc in absurd (q.0 is))
first_line_same (c ∷ a) [] x y p q e = (let is : c ≡ newline = cc in absurd (p.0 is))
first_line_same (c ∷ a) (d ∷ b) x y p q e =
    let head : c ≡ d = cc in
    let tail : a ++ newline ∷ x ≡ b ++ newline ∷ y = cc in
    let rest = first_line_same a b x y p.1 q.1 tail in
    let line = rest.line in
    record { line = cc; after = rest.after }

-- bytes without a line feed begin with no line
pub no_first_line : (bytes line after : List ℕ) → IsOneLine bytes → bytes ≡ line ++ newline ∷ after → ⊥
no_first_line [] [] after one e = cc
no_first_line [] (b ∷ line) after one e = cc
no_first_line (c ∷ bytes) [] after one e = (let is : c ≡ newline = cc in one.0 is)
no_first_line (c ∷ bytes) (b ∷ line) after one e = (let tail : bytes ≡ line ++ newline ∷ after = cc in no_first_line bytes line after one.1 tail)

line_apart : (line rest : List ℕ) → ended_line line ++ rest ≡ line ++ newline ∷ rest
line_apart line rest = append_assoc line (newline ∷ []) rest

lines_apart : (line : List ℕ) (lines : List (List ℕ)) (rest : List ℕ) → text_of_lines (line ∷ lines) ++ rest ≡ line ++ newline ∷ (text_of_lines lines ++ rest)
lines_apart line lines rest = append_assoc (ended_line line) (text_of_lines lines) rest ∙ line_apart line (text_of_lines lines ++ rest)

pub text_apart : (line : List ℕ) (lines : List (List ℕ)) → text_of_lines (line ∷ lines) ≡ line ++ newline ∷ text_of_lines lines
text_apart line lines = line_apart line (text_of_lines lines)

-- whole lines that begin a text of lines are its first ones
pub record AreFirst (xs ys : List (List ℕ)) (more : List ℕ) : Type 0 where
  pub others : List (List ℕ)
  pub lines : ys ≡ xs ++ others
  pub after : more ≡ text_of_lines others

pub not_empty : (line rest : List ℕ) → line ++ newline ∷ rest ≡ [] → ⊥
not_empty [] rest e = cc
not_empty (b ∷ line) rest e = cc

pub first_lines : (xs ys : List (List ℕ)) (more : List ℕ) → AllByRecursion IsOneLine xs → AllByRecursion IsOneLine ys →
    text_of_lines xs ++ more ≡ text_of_lines ys → AreFirst xs ys more
first_lines [] ys more p q e = record { others = ys; lines = refl; after = e }
first_lines (x ∷ xs) [] more p q e = absurd (not_empty x (text_of_lines xs ++ more) (sym (lines_apart x xs more) ∙ e))
first_lines (x ∷ xs) (y ∷ ys) more p q e =
    let same = first_line_same x y _ _ p.0 q.0 (sym (lines_apart x xs more) ∙ e ∙ text_apart y ys) in
    let rest = first_lines xs ys more p.1 q.1 same.after in
    let line = same.line in
    let lines = rest.lines in
    record { others = rest.others; lines = cc; after = rest.after }

-- one whole line more, after lines that begin the same bytes
pub record IsNext (xs ys : List (List ℕ)) (rest more : List ℕ) : Type 0 where
  pub line : List ℕ
  pub one : IsOneLine line
  pub lines : ys ≡ xs ++ line ∷ []
  pub begins : rest ≡ line ++ newline ∷ more

pub next_line : (xs ys : List (List ℕ)) (rest more : List ℕ) → AllByRecursion IsOneLine xs → AllByRecursion IsOneLine ys → length ys ≡ length xs + 1 →
    text_of_lines xs ++ rest ≡ text_of_lines ys ++ more → IsNext xs ys rest more
next_line [] [] rest more p q count e = absurd (omega arith)
next_line [] (y ∷ []) rest more p q count e = record { line = y; one = q.0; lines = refl; begins = e ∙ lines_apart y [] more }
next_line [] (y ∷ z ∷ ys) rest more p q count e = absurd (omega arith)
next_line (x ∷ xs) [] rest more p q count e = absurd (omega arith)
next_line (x ∷ xs) (y ∷ ys) rest more p q count e =
    let same = first_line_same x y _ _ p.0 q.0 (sym (lines_apart x xs rest) ∙ e ∙ lines_apart y ys more) in
    let next = next_line xs ys rest more p.1 q.1 (omega arith) same.after in
    let line = same.line in
    let lines = next.lines in
    record { line = next.line; one = next.one; lines = cc; begins = next.begins }

-- the first lines of some
pub text_of_lines-append : (xs ys : List (List ℕ)) → text_of_lines (xs ++ ys) ≡ text_of_lines xs ++ text_of_lines ys
text_of_lines-append [] ys = refl
text_of_lines-append (x ∷ xs) ys = ap (λ t. ended_line x ++ t) (text_of_lines-append xs ys)
    ∙ sym (append_assoc (ended_line x) (text_of_lines xs) (text_of_lines ys))
