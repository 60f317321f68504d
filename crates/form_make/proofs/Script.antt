-- The script that is generated from a seed: few commands, and none adds a pin.
use Rattle.std.proofs.Common.{◌≡◌, ℕ, zero, suc, ◌<◌, ◌^◌, ◌==◌, ◌%◌, Bool, true, false, List, [], ◌∷◌, ◌++◌, length, refl, sym, subst, ap, arith, if◌then◌else◌}
use Rattle.std.specs.Prelude.{flat_map}
use Rattle.std.specs.List.{AllByRecursion as Each}
use Rattle.std.proofs.lemmas.List.{append-nil}
use Rattle.std.proofs.lemmas.List.Concat.{flat_map-append}
use Rattle.scene_model.specs.declared.edit.Command.{Command}
use Rattle.scene_model.specs.declared.edit.Command.TheVariants.{Undo}
use Rattle.scene_model.specs.World.{IsDirectedCommand}
use Rattle.session_model.specs.Calls.{AreDirected}
use Rattle.form_make.specs.Draws.{first, state_after}
use Rattle.form_make.specs.Made.{made_commands, made_transaction}
use Rattle.form_make.specs.Makes.{made_script, numbered_from}

each_append : (P : Command → Type 0) (xs ys : List Command) → Each P xs → Each P ys → Each P (xs ++ ys)
each_append P [] ys these those = those
each_append P (x ∷ xs) ys these those = (these.0, each_append P xs ys these.1 those)

undo_directed : (b : Bool) → Each IsDirectedCommand (if b then Undo ∷ [] else [])
undo_directed true = (tt, tt)
undo_directed false = tt

transactions_directed : (start count : ℕ) → Each IsDirectedCommand (flat_map (λ commands. commands) (first count (made_transaction start)))
unfolding first
transactions_directed start zero = tt
transactions_directed start (suc count) =
    subst (Each IsDirectedCommand) (sym (flat_map-append (λ commands. commands) (first count (made_transaction start)) (made_transaction start count ∷ [])))
    (each_append IsDirectedCommand _ _ (transactions_directed start count)
    (subst (Each IsDirectedCommand) (sym (append-nil (made_transaction start count))) (tt, (tt, (tt, undo_directed (count % 3 == 2))))))

numbered_directed : (number : ℕ) (commands : List Command) → Each IsDirectedCommand commands → AreDirected (numbered_from number commands)
numbered_directed number [] each = tt
numbered_directed number (c ∷ commands) each = (each.0, numbered_directed (suc number) commands each.1)

numbered_length : (number : ℕ) (commands : List Command) → length (numbered_from number commands) ≡ length commands
numbered_length number [] = refl
numbered_length number (c ∷ commands) = ap suc (numbered_length (suc number) commands)

commands_length : (start : ℕ) → length (flat_map (λ commands. commands) (first 12 (made_transaction start))) ≡ 40
unfolding first
commands_length start = refl

pub script_directed : (seed : ℕ) → AreDirected (made_script seed)
script_directed seed = numbered_directed 1 (made_commands seed) (transactions_directed (state_after seed 240) 12)

pub script_short : (seed : ℕ) → length (made_script seed) < 2 ^ 32
script_short seed = omega (arith, numbered_length 1 (made_commands seed), commands_length (state_after seed 240))
