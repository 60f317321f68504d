-- Bytes that are read in part, and what stops the reading.
use Rattle.std.proofs.Common.{◌≡◌, ◌≢◌, ℕ, ◌+◌, ◌<◌, ◌≤◌, List, [], ◌∷◌, ◌++◌, length}
use Rattle.std.proofs.Common.{None, Some, refl, sym, ap, subst, ◌∙◌, arith, append_assoc, length-append}
use Rattle.std.specs.Prelude.{option_and_then}
use Rattle.std.specs.List.{AllByRecursion}
use Rattle.std.proofs.lemmas.List.{append-nil}
use Rattle.proof_model.specs.declared.proof.Proof.{Proof}
use Rattle.proof_text.specs.Fronts.{CanGoOn, IsBadLine}
use Rattle.proof_text.specs.Lines.{newline, ended_line, text_of_lines, IsOneLine}
use Rattle.proof_text.specs.Reading.{State, proofs_of, after_line, GoesOn, IsStuck}
use Rattle.proof_text.specs.Reading.IsStuck.{no_line, bad_line}
use Rattle.proof_text.specs.Text.{proofs_lines, IsText}
use Rattle.proof_text.proofs.Folds.{after_lines, after_lines-append, all-append, lines_add, proofs_read, proofs_one}
use Rattle.proof_text.proofs.LineBytes.{first_line_same, no_first_line, first_lines, next_line, text_of_lines-append}
use Rattle.proof_text.proofs.Numbers.{of_some}

-- nothing is read yet
abbrev pub start : State
start = ([], None)

-- this number of lines before the rest was read
pub record HaveRead (bytes rest : List ℕ) (count : ℕ) (s : State) : Type 0 where
  pub lines : List (List ℕ)
  pub spelled : bytes ≡ text_of_lines lines ++ rest
  pub each : AllByRecursion IsOneLine lines
  pub counted : length lines ≡ count
  pub read : after_lines start lines ≡ Some s

-- lines that are read are a text
pub lines_are_text : (lines : List (List ℕ)) (s : State) → after_lines start lines ≡ Some s → IsText (text_of_lines lines) (proofs_of s)
lines_are_text lines s read =
    let adds = lines_add start s lines read in
    record { spelled = ap text_of_lines (sym adds.lines_are); writable = adds.writable tt }

-- lines at whose end a text can go on are read
pub lines_can_be_read : (lines : List (List ℕ)) → AllByRecursion IsOneLine lines → CanGoOn (text_of_lines lines) →
    (s : State) × (after_lines start lines ≡ Some s)
lines_can_be_read lines each (more, proofs, text) =
    let first = first_lines lines (proofs_lines proofs) more each (proofs_one proofs text.writable) text.spelled in
    let all = proofs_read start proofs text.writable in
    let both : option_and_then (λ t. after_lines t first.others) (after_lines start lines) ≡ Some all.new =
    sym (after_lines-append start lines first.others) ∙ ap (after_lines start) (sym first.lines) ∙ all.read in
    let s = of_some (λ t. after_lines t first.others) (after_lines start lines) all.new both in
    (s.0, s.1)

pub text_goes_on : (bytes : List ℕ) (proofs : List Proof) → IsText bytes proofs → CanGoOn bytes
text_goes_on bytes proofs text = ([], proofs, record { spelled = append-nil bytes ∙ text.spelled; writable = text.writable })

-- at the end all is read
pub all_read : (bytes : List ℕ) (count : ℕ) (s : State) → HaveRead bytes [] count s → IsText bytes (proofs_of s)
all_read bytes count s so_far =
    let text = lines_are_text so_far.lines s so_far.read in
    record { spelled = so_far.spelled ∙ append-nil (text_of_lines so_far.lines) ∙ text.spelled; writable = text.writable }

one_more : (lines : List (List ℕ)) (line rest : List ℕ) → text_of_lines lines ++ (line ++ newline ∷ rest) ≡ text_of_lines (lines ++ line ∷ []) ++ rest
one_more lines line rest =
    ap (λ l. text_of_lines lines ++ l) (sym (append_assoc line (newline ∷ []) rest) ∙ ap (λ l. l ++ rest) (sym (append-nil (ended_line line))))
    ∙ sym (append_assoc (text_of_lines lines) (text_of_lines (line ∷ [])) rest)
    ∙ ap (λ l. l ++ rest) (sym (text_of_lines-append lines (line ∷ [])))

read_more : (lines : List (List ℕ)) (line : List ℕ) (s : State) → after_lines start lines ≡ Some s →
    after_lines start (lines ++ line ∷ []) ≡ option_and_then (λ t. Some t) (after_line s line)
read_more lines line s read = after_lines-append start lines (line ∷ []) ∙ ap (option_and_then (λ t. after_lines t (line ∷ []))) read

-- a line more is read
pub goes_on : (bytes rest after : List ℕ) (count : ℕ) (s t : State) → HaveRead bytes rest count s → GoesOn rest after s t → HaveRead bytes after (count + 1) t
goes_on bytes rest after count s t so_far on = record {
  lines = so_far.lines ++ on.line ∷ [];
  spelled = so_far.spelled ∙ ap (λ l. text_of_lines so_far.lines ++ l) on.begins.spelled ∙ one_more so_far.lines on.line after;
  each = all-append IsOneLine so_far.lines (on.line ∷ []) so_far.each (on.begins.one, tt);
  counted = length-append so_far.lines (on.line ∷ []) ∙ ap (λ n. n + 1) so_far.counted;
  read = read_more so_far.lines on.line s so_far.read ∙ ap (option_and_then (λ u. Some u)) on.reads;
}

-- the bytes get fewer
pub fewer : (rest after : List ℕ) (s t : State) → GoesOn rest after s t → length after < length rest
fewer rest after s t on = omega (arith, ap length on.begins.spelled, length-append on.line (newline ∷ after))

-- no text can go on with a line that is stuck
no_line_more : (lines : List (List ℕ)) (line : List ℕ) (s : State) → AllByRecursion IsOneLine lines → IsOneLine line → after_lines start lines ≡ Some s →
    after_line s line ≡ None →
    CanGoOn (text_of_lines (lines ++ line ∷ [])) → ⊥
no_line_more lines line s each one read bad on =
    let t = lines_can_be_read (lines ++ line ∷ []) (all-append IsOneLine lines (line ∷ []) each (one, tt)) on in
    let none : None ≡ Some t.0 = ap (option_and_then (λ u. Some u)) (sym bad) ∙ sym (read_more lines line s read) ∙ t.1 in
    cc

stuck_at : (rest : List ℕ) (s : State) (lines : List (List ℕ)) (line more : List ℕ) → AllByRecursion IsOneLine lines → after_lines start lines ≡ Some s →
    IsStuck rest s → IsOneLine line →
    rest ≡ line ++ newline ∷ more → CanGoOn (text_of_lines (lines ++ line ∷ [])) → ⊥
stuck_at rest s lines line more each read (no_line one) is_one begins on = no_first_line rest line more one begins
stuck_at rest s lines line more each read (bad_line other after parts bad) is_one begins on =
    let same = first_line_same other line after more parts.one is_one (sym parts.spelled ∙ begins) in
    no_line_more lines line s each is_one read (ap (after_line s) (sym same.line) ∙ bad) on

-- so the line is the bad one
pub stuck : (bytes rest : List ℕ) (count : ℕ) (s : State) → HaveRead bytes rest count s → rest ≢ [] → IsStuck rest s → IsBadLine bytes (count + 1)
stuck bytes rest count s so_far some at = record {
  before = text_of_lines so_far.lines;
  rest = rest;
  spelled = so_far.spelled;
  from_one = omega arith;
  lines_before = record { lines = so_far.lines; spelled = refl; each = so_far.each; counted = omega (arith, so_far.counted) };
  can_go_on = text_goes_on (text_of_lines so_far.lines) (proofs_of s) (lines_are_text so_far.lines s so_far.read);
  some = some;
  stops = λ front more spelled lines on. (
      let next = next_line so_far.lines lines.lines rest more so_far.each lines.each (omega (arith, lines.counted, so_far.counted))
      (sym so_far.spelled ∙ spelled ∙ ap (λ f. f ++ more) lines.spelled) in
      stuck_at rest s so_far.lines next.line more so_far.each so_far.read at next.one next.begins
      (subst CanGoOn (lines.spelled ∙ ap text_of_lines next.lines) on));
}

lines_short : (lines : List (List ℕ)) → length lines ≤ length (text_of_lines lines)
lines_short [] = omega arith
lines_short (line ∷ lines) =
    omega (arith, lines_short lines, length-append (ended_line line) (text_of_lines lines), length-append line (newline ∷ []))

-- each line has a byte at least
pub few_lines : (bytes rest : List ℕ) (count : ℕ) (s : State) → HaveRead bytes rest count s → count + length rest ≤ length bytes
few_lines bytes rest count s so_far =
    omega (arith, so_far.counted, lines_short so_far.lines, ap length so_far.spelled, length-append (text_of_lines so_far.lines) rest)
