-- The commands of the lines so far, and of those that are left.
use Rattle.std.proofs.Common.{◌≡◌, ℕ, suc, ◌+◌, ◌<◌, ◌≤◌, List, [], ◌∷◌, ◌++◌, length, get_or, drop, Option, None, Some, refl, sym, ap, subst, ◌∙◌, arith, zero-add, length-append, append_assoc, drop-cons}
use Rattle.std.specs.List.{enumerate_from}
use Rattle.std.proofs.lemmas.List.{append-nil, drop_all}
use Rattle.std.proofs.lemmas.List.FromFn.{get_or-enumerate_from, length-enumerate_from}
use Rattle.scene_model.specs.declared.edit.Command.{Command}
use Rattle.edit_script.specs.Script.{words, command_of, numbered, commands_from, commands, lines}

-- the commands so far, and those of the lines after the first k
abbrev pub AreCommands : List ℕ → List (ℕ × Command) → ℕ → Type 0
AreCommands bytes list k = list ++ commands_from (suc k) (drop k (lines bytes)) ≡ commands bytes

numbered_apart : (number : ℕ) (command : Option Command) (rest : List (ℕ × Command)) → numbered number command rest ≡ numbered number command [] ++ rest
numbered_apart number None rest = refl
numbered_apart number (Some command) rest = refl

-- one line more
pub one_line : (bytes : List ℕ) (list : List (ℕ × Command)) (k : ℕ) (line : List ℕ) → k < length (lines bytes) → line ≡ get_or (lines bytes) k line →
    AreCommands bytes list k → AreCommands bytes (list ++ numbered (suc k) (command_of (words line)) []) (suc k)
one_line bytes list k line within is so_far =
    append_assoc list _ _
    ∙ ap (λ rest. list ++ rest) (sym (numbered_apart (suc k) (command_of (words line)) (commands_from (suc (suc k)) (drop (suc k) (lines bytes)))))
    ∙ ap (λ l. list ++ numbered (suc k) (command_of (words l)) (commands_from (suc (suc k)) (drop (suc k) (lines bytes)))) is
    ∙ ap (λ ls. list ++ commands_from (suc k) ls) (sym (drop-cons (lines bytes) k line within))
    ∙ so_far

-- what the loop over the numbered lines gives is the line in its place
record IsPlaced (ls : List (List ℕ)) (k index : ℕ) (line : List ℕ) : Type 0 where
  pub within : k < length ls
  pub number : index ≡ k
  pub is_line : line ≡ get_or ls k line

placed : (ls : List (List ℕ)) (k index : ℕ) (line : List ℕ) → k < length (enumerate_from 0 ls) → (index, line) ≡ get_or (enumerate_from 0 ls) k (index, line) → IsPlaced ls k index line
placed ls k index line within is =
    let inside : k < length ls = omega (arith, within, length-enumerate_from 0 ls) in
    let here : (index, line) ≡ (0 + k, get_or ls k line) = is ∙ get_or-enumerate_from 0 ls k (index, line) inside in
    record { within = inside; number = ap (λ p. p.0) here ∙ zero-add k; is_line = ap (λ p. p.1) here }

-- a turn of that loop
pub next_line : {A : Type 0} (bytes : List ℕ) (list longer : List (ℕ × Command)) (yielded : List A) (item : A) (index : ℕ) (line : List ℕ) →
    length yielded < length (enumerate_from 0 (lines bytes)) → (index, line) ≡ get_or (enumerate_from 0 (lines bytes)) (length yielded) (index, line) →
    longer ≡ list ++ numbered (index + 1) (command_of (words line)) [] → AreCommands bytes list (length yielded) → AreCommands bytes longer (length (yielded ++ item ∷ []))
next_line bytes list longer yielded item index line within is grown so_far =
    let p = placed (lines bytes) (length yielded) index line within is in
    let number : index + 1 ≡ suc (length yielded) = omega (arith, p.number) in
    let one_more : length (yielded ++ item ∷ []) ≡ suc (length yielded) = omega (arith, length-append yielded (item ∷ [])) in
    subst (AreCommands bytes longer) (sym one_more)
    (subst (λ l. AreCommands bytes l (suc (length yielded))) (sym (grown ∙ ap (λ n. list ++ numbered n (command_of (words line)) []) number))
    (one_line bytes list (length yielded) line p.within p.is_line so_far))

-- the end of that loop
pub last_line : (bytes : List ℕ) (list : List (ℕ × Command)) (k : ℕ) → k ≡ length (enumerate_from 0 (lines bytes)) → AreCommands bytes list k → list ≡ commands bytes
last_line bytes list k all so_far =
    let over : length (lines bytes) ≤ k = omega (arith, all, length-enumerate_from 0 (lines bytes)) in
    sym (append-nil list) ∙ ap (λ ls. list ++ commands_from (suc k) ls) (sym (drop_all k (lines bytes) over)) ∙ so_far
