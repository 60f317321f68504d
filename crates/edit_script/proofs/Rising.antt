-- The numbers of lines rise.
use Rattle.std.proofs.Common.{ℕ, suc, ◌≤◌, List, [], ◌∷◌, Option, None, Some, arith}
use Rattle.scene_model.specs.declared.edit.Command.{Command}
use Rattle.edit_script.specs.Script.{words, command_of, numbered, commands_from, lines, RiseFrom, NumbersRise}

later : (m n : ℕ) (cs : List (ℕ × Command)) → m ≤ n → RiseFrom n cs → RiseFrom m cs
later m n [] within h = tt
later m n (c ∷ cs) within h = (omega (arith, h.0), h.1)

one_rises : (n : ℕ) (o : Option Command) (rest : List (ℕ × Command)) → RiseFrom (suc n) rest → RiseFrom n (numbered n o rest)
one_rises n None rest h = later n (suc n) rest (omega arith) h
one_rises n (Some c) rest h = (omega arith, h)

from_rises : (n : ℕ) (ls : List (List ℕ)) → RiseFrom n (commands_from n ls)
from_rises n [] = tt
from_rises n (line ∷ ls) = one_rises n (command_of (words line)) (commands_from (suc n) ls) (from_rises (suc n) ls)

pub numbers_rise : NumbersRise
numbers_rise bytes = from_rises 1 (lines bytes)
