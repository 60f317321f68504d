-- What clap finds in the arguments is what they give.
use Rattle.std.proofs.Common.{◌≡◌, ◌∙◌, ℕ, List, [], map, ap, subst}
use Rattle.std.specs.Prelude.{string_bytes}
use Rattle.clap.specs.Words.{app_of, fault_of, is_simple, is_simple_and_free, matches_of}
use Rattle.clap.specs.Kinds.{HasKind}
use Rattle.command_words.specs.Commands.{app_for}
use Rattle.command_words.proofs.Built.{free_is, simple_is}
use Rattle.command_words.proofs.Shown.{shown_err, shown_ok, texts_after}
use Rattle.command_words.proofs.Walks.{words_agree}
use Rattle.command_words.proofs.matches.matches_of.Goals as goal

pub returns-in-Ok : goal.returns-in-Ok
returns-in-Ok c =
    let has = c.args.has_options in
    let name = c.args.name.now in
    let words : List (List ℕ) = map string_bytes c.args.words.now in
    let is : app_of c.in_ok-command.field-0 ≡ app_for has name = c.in_ok-command.ensures in
    let none : fault_of (app_for has name) words ≡ [] = subst (λ a. fault_of a words ≡ []) is (c.in-Ok.ensures.kinds (ap is_simple_and_free is ∙ free_is has name)) in
    let found = (c.in-Ok.ensures.matches (ap is_simple is ∙ simple_is has name)).0 in
    shown_ok has _ (fault_of (app_for has name) words) (matches_of (app_for has name) words) c.in-Ok.matches (words_agree has name words (texts_after c.args.words.now)) none
    (found ∙ ap (λ a. matches_of a words) is)

pub returns : goal.returns
returns c =
    let has = c.args.has_options in
    let name = c.args.name.now in
    let words : List (List ℕ) = map string_bytes c.args.words.now in
    let is : app_of c.in_ok-command.field-0 ≡ app_for has name = c.in_ok-command.ensures in
    let kind : HasKind (fault_of (app_for has name) words) c.in-Err.error = subst (λ a. HasKind (fault_of a words) c.in-Err.error) is (c.in-Err.ensures.kinds (ap is_simple_and_free is ∙ free_is has name)) in
    shown_err has _ (fault_of (app_for has name) words) (matches_of (app_for has name) words) c.in-Err.error (words_agree has name words (texts_after c.args.words.now)) kind
    (λ memory. c.in_default.not-OutOfMemory (c.kind.ensures ∙ memory))
