-- From what clap finds to what its matches show.
use Rattle.std.proofs.Common.{◌≡◌, inl, inr, Bool, List, [], ◌∷◌, Option, Some, None, codes, ap, subst, ◌∙◌}
use Rattle.std.specs.Prelude.{drop, map, string_bytes, unwrap_or}
use Rattle.std.specs.List.{AllByRecursion as Each}
use Rattle.std.specs.Str.{IsUtf8}
use Rattle.std.specs.declared.string.String.{String}
use Rattle.std.proofs.lemmas.Str.{IsUtf8-string_bytes}
use Rattle.clap.specs.declared.error.Error.{Error}
use Rattle.clap.specs.declared.error.kind.ErrorKind.TheVariants.{OutOfMemory}
use Rattle.clap.specs.declared.parser.matches.ArgMatches.{ArgMatches}
use Rattle.clap.specs.Kinds.{HasKind, IsAmong, Kinds}
use Rattle.clap.specs.Matches.{found_of}
use Rattle.clap.specs.Values.{kind_of}
use Rattle.clap.specs.Walk.{Row, all_of, one_of, rows_of}
use Rattle.clap.proofs.WalkLemmas.{one_text-rows, raw_values-rows}
use Rattle.command_words.specs.Words.{Said}
use Rattle.command_words.specs.Commands.{AreShown}
use Rattle.command_words.proofs.Walks.{Agrees, Says}

each_text : {Z : Type 0} (words : List (String Z)) → Each IsUtf8 (map string_bytes words)
each_text [] = tt
each_text (word ∷ words) = (IsUtf8-string_bytes word, each_text words)

-- the arguments after the first are text
pub texts_after : {Z : Type 0} (words : List (String Z)) → Each IsUtf8 (drop 1 (map string_bytes words))
texts_after [] = tt
texts_after (word ∷ words) = each_text words

says_shown : (has : Bool) (s : Said) (m : ArgMatches) (rows : List Row) → rows_of (found_of m) ≡ rows → Says has s rows → AreShown has (Some s) (Some m)
says_shown has s m rows is says = record {
  plain = ap (λ o. unwrap_or o []) (raw_values-rows (found_of m) (codes "plain") ∙ ap (all_of (codes "plain")) is) ∙ says.plain;
  workers = ap (λ o. unwrap_or o []) (raw_values-rows (found_of m) (codes "workers") ∙ ap (all_of (codes "workers")) is) ∙ says.workers;
  count = λ e. one_text-rows (found_of m) (codes "count") ∙ ap (one_of (codes "count")) is ∙ says.count e;
}

pub shown_ok : (has : Bool) (said : Option Said) (faults : Kinds) (rows : List Row) (m : ArgMatches) → Agrees has said faults rows → faults ≡ [] → rows_of (found_of m) ≡ rows → AreShown has said (Some m)
shown_ok has None faults rows m agrees none is = absurd (agrees none)
shown_ok has (Some s) faults rows m agrees none is = says_shown has s m rows is agrees.1

no_kind : (faults : Kinds) (e : Error) → faults ≡ [] → HasKind faults e → (kind_of e ≡ OutOfMemory → ⊥) → ⊥
no_kind faults e none (inl memory) other = other memory
no_kind faults e none (inr among) other = subst (IsAmong (kind_of e)) none among

pub shown_err : (has : Bool) (said : Option Said) (faults : Kinds) (rows : List Row) (e : Error) → Agrees has said faults rows → HasKind faults e → (kind_of e ≡ OutOfMemory → ⊥) → AreShown has said None
shown_err has None faults rows e agrees kind other = tt
shown_err has (Some s) faults rows e agrees kind other = absurd (no_kind faults e agrees.0 kind other)
