-- A script that is read has few commands.
use Rattle.std.proofs.Common.{ℕ, suc, ◌≤◌, List, [], ◌∷◌, length, Option, Some, None, arith}
use Rattle.std.specs.Prelude.{◌==◌}
use Rattle.std.proofs.lemmas.List.Splits.{length-slice_split}
use Rattle.std.proofs.lemmas.List.Sums.{count_by-le-length}
use Rattle.scene_model.specs.declared.edit.Command.{Command}
use Rattle.edit_script.specs.Script.{words, command_of, numbered, commands_from, lines, commands}

one_command : (number : ℕ) (o : Option Command) (rest : List (ℕ × Command)) → length (numbered number o rest) ≤ suc (length rest)
one_command number None rest = omega arith
one_command number (Some command) rest = omega arith

no_more : (number : ℕ) (ls : List (List ℕ)) → length (commands_from number ls) ≤ length ls
no_more number [] = omega arith
no_more number (line ∷ ls) =
    let here = one_command number (command_of (words line)) (commands_from (suc number) ls) in
    let later = no_more (suc number) ls in
    omega (arith, here, later)

-- a script has one command a line at most, and one line more than line feeds
pub few_commands : (bytes : List ℕ) → length (commands bytes) ≤ suc (length bytes)
few_commands bytes =
    let most = no_more 1 (lines bytes) in
    let split = length-slice_split (λ b. b == 10) bytes in
    let feeds = count_by-le-length (λ b. b == 10) bytes in
    omega (arith, most, split, feeds)
