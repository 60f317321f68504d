-- Bytes are read in one way.
use Rattle.std.proofs.Common.{◌≡◌, ℕ, zero, suc, ◌<◌, ◌≤◌, inl, inr, List, [], ◌∷◌}
use Rattle.std.proofs.Common.{◌++◌, length, Some, refl, sym, ap, subst, ◌∙◌, arith, append_assoc, length-append}
use Rattle.std.specs.List.{AllByRecursion}
use Rattle.std.proofs.lemmas.Bool.{cases_lt}
use Rattle.std.proofs.lemmas.List.{append-nil}
use Rattle.proof_model.specs.declared.proof.Proof.{Proof}
use Rattle.proof_text.specs.Fronts.{CanGoOn, IsBadLine}
use Rattle.proof_text.specs.Lines.{text_of_lines, IsOneLine, AreWholeLines}
use Rattle.proof_text.specs.Reading.{proofs_of}
use Rattle.proof_text.specs.Text.{proofs_lines, proofs_text, IsText, AreWritable}
use Rattle.proof_text.proofs.Folds.{after_lines, proofs_read, proofs_one}
use Rattle.proof_text.proofs.LineBytes.{first_lines, not_empty, text_apart, text_of_lines-append}
use Rattle.proof_text.proofs.Parting.{start, lines_are_text, lines_can_be_read, text_goes_on}

-- lines of no bytes are none
no_lines : (lines : List (List ℕ)) → [] ≡ text_of_lines lines → lines ≡ []
no_lines [] e = refl
no_lines (line ∷ lines) e = absurd (not_empty line (text_of_lines lines) (sym (text_apart line lines) ∙ sym e))

-- one text has the lines of one list
same_lines : (bytes : List ℕ) (a b : List Proof) → IsText bytes a → IsText bytes b → proofs_lines b ≡ proofs_lines a
same_lines bytes a b p q =
    let first = first_lines (proofs_lines a) (proofs_lines b) [] (proofs_one a p.writable) (proofs_one b q.writable)
    (append-nil (proofs_text a) ∙ sym p.spelled ∙ q.spelled) in
    first.lines ∙ ap (λ l. proofs_lines a ++ l) (no_lines first.others first.after) ∙ append-nil (proofs_lines a)

pub one_list : (bytes : List ℕ) (a b : List Proof) → IsText bytes a → IsText bytes b → a ≡ b
one_list bytes a b p q =
    let first = proofs_read start a p.writable in
    let second = proofs_read start b q.writable in
    let same : Some first.new ≡ Some second.new = sym first.read ∙ ap (after_lines start) (sym (same_lines bytes a b p q)) ∙ second.read in
    let state : first.new ≡ second.new = cc in
    sym first.proofs ∙ ap proofs_of state ∙ second.proofs

-- the first ones of a list
record IsSplit (lines : List (List ℕ)) (n : ℕ) : Type 0 where
  front : List (List ℕ)
  others : List (List ℕ)
  both : lines ≡ front ++ others
  counted : length front ≡ n
  each : AllByRecursion IsOneLine front

split : (lines : List (List ℕ)) (n : ℕ) → AllByRecursion IsOneLine lines → n ≤ length lines → IsSplit lines n
split lines zero each h = record { front = []; others = lines; both = refl; counted = refl; each = tt }
split [] (suc n) each h = absurd (omega arith)
split (line ∷ lines) (suc n) each h =
    let rest = split lines n each.1 (omega arith) in
    record {
      front = line ∷ rest.front;
      others = rest.others;
      both = ap (λ l. line ∷ l) rest.both;
      counted = (let c = rest.counted in omega (arith, c));
      each = (each.0, rest.each);
    }

-- a front of bytes at whose end a text can go on
front_goes_on : (front more : List ℕ) → CanGoOn (front ++ more) → CanGoOn front
front_goes_on front more (rest, proofs, text) =
    (more ++ rest, proofs, record { spelled = sym (append_assoc front more rest) ∙ text.spelled; writable = text.writable })

-- no line before a bad one is bad
no_earlier : (bytes : List ℕ) (l m : ℕ) → IsBadLine bytes l → IsBadLine bytes m → l < m → ⊥
no_earlier bytes l m p q less =
    let before = q.lines_before in
    let parts = split before.lines l before.each (omega (arith, before.counted)) in
    let spelled : q.before ≡ text_of_lines parts.front ++ text_of_lines parts.others =
    before.spelled ∙ ap text_of_lines parts.both ∙ text_of_lines-append parts.front parts.others in
    p.stops (text_of_lines parts.front) (text_of_lines parts.others ++ q.rest)
    (q.spelled ∙ ap (λ b. b ++ q.rest) spelled ∙ append_assoc (text_of_lines parts.front) (text_of_lines parts.others) q.rest)
    (record { lines = parts.front; spelled = refl; each = parts.each; counted = parts.counted })
    (front_goes_on (text_of_lines parts.front) (text_of_lines parts.others) (subst CanGoOn spelled q.can_go_on))

pub one_line : (bytes : List ℕ) (l m : ℕ) → IsBadLine bytes l → IsBadLine bytes m → l ≡ m
one_line bytes l m p q = elim (cases_lt l m) [
  | inl less ↦ absurd (no_earlier bytes l m p q less)
  | inr rest ↦ elim (cases_lt m l) [
    | inl less ↦ absurd (no_earlier bytes m l q p less)
    | inr other ↦ omega arith
  ]
]

front_all : (xs ys : List (List ℕ)) → AllByRecursion IsOneLine (xs ++ ys) → AllByRecursion IsOneLine xs
front_all [] ys p = tt
front_all (x ∷ xs) ys p = (p.0, front_all xs ys p.1)

-- a text goes on after each of its lines
no_stop : (bytes : List ℕ) (proofs : List Proof) (line : ℕ) (bad : IsBadLine bytes line) → IsText bytes proofs → (others : List (List ℕ)) →
    proofs_lines proofs ≡ bad.lines_before.lines ++ others → bad.rest ≡ text_of_lines others → ⊥
no_stop bytes proofs line bad text [] lines after = bad.some after
no_stop bytes proofs line bad text (other ∷ others) lines after =
    let before = bad.lines_before.lines in
    let joined : proofs_lines proofs ≡ (before ++ other ∷ []) ++ others = lines ∙ sym (append_assoc before (other ∷ []) others) in
    let spelled : bytes ≡ text_of_lines (before ++ other ∷ []) ++ text_of_lines others =
    text.spelled ∙ ap text_of_lines joined ∙ text_of_lines-append (before ++ other ∷ []) others in
    bad.stops (text_of_lines (before ++ other ∷ [])) (text_of_lines others) spelled
    (record {
      lines = before ++ other ∷ [];
      spelled = refl;
      each = front_all (before ++ other ∷ []) others (subst (AllByRecursion IsOneLine) joined (proofs_one proofs text.writable));
      counted = omega (arith, length-append before (other ∷ []), bad.lines_before.counted, bad.from_one);
    })
    (text_of_lines others, proofs, record { spelled = sym spelled ∙ text.spelled; writable = text.writable })

pub not_both : (bytes : List ℕ) (proofs : List Proof) (line : ℕ) → IsText bytes proofs → IsBadLine bytes line → ⊥
not_both bytes proofs line text bad =
    let before = bad.lines_before in
    let first = first_lines before.lines (proofs_lines proofs) bad.rest before.each (proofs_one proofs text.writable)
    (ap (λ b. b ++ bad.rest) (sym before.spelled) ∙ sym bad.spelled ∙ text.spelled) in
    no_stop bytes proofs line bad text first.others first.lines first.after

pub front_is_text : (front : List ℕ) (count : ℕ) → AreWholeLines front count → CanGoOn front → (proofs : List Proof) × IsText front proofs
front_is_text front count lines on =
    let s = lines_can_be_read lines.lines lines.each (subst CanGoOn lines.spelled on) in
    (proofs_of s.0, subst (λ b. IsText b (proofs_of s.0)) (sym lines.spelled) (lines_are_text lines.lines s.0 s.1))

pub text_is_front : (front : List ℕ) → (proofs : List Proof) × IsText front proofs → CanGoOn front
text_is_front front (proofs, text) = text_goes_on front proofs text

pub read_again : (written read : List Proof) → AreWritable written → IsText (proofs_text written) read → read ≡ written
read_again written read writable text = one_list (proofs_text written) read written text (record { spelled = refl; writable = writable })

pub no_fault : (written : List Proof) (line : ℕ) → AreWritable written → IsBadLine (proofs_text written) line → ⊥
no_fault written line writable bad = not_both (proofs_text written) written line (record { spelled = refl; writable = writable }) bad
