-- Arguments whose first is not a command.
use Rattle.std.proofs.Common.{◌≡◌, ◌≢◌, ℕ, List, [], ◌∷◌, map, Some, None, codes, refl, ap, ◌∙◌}
use Rattle.std.specs.Prelude.{slice_get, string_bytes}
use Rattle.std.specs.declared.string.String.{String}
use Rattle.command_words.specs.Words.{form_of}
use Rattle.command_words.proofs.Looks.{some_none}
use Rattle.command_words.proofs.Numbers.{differ}

same_some : {X : Type 0} (x y : X) → Some x ≡ Some y → x ≡ y
same_some x y e = cc

-- the text is the name of no subcommand
pub record NamesNone (text : List ℕ) : Type 0 where
  pub check : text ≢ codes "check"
  pub route : text ≢ codes "route"
  pub make : text ≢ codes "make"
  pub preview : text ≢ codes "preview"
  pub shared : text ≢ codes "shared"
  pub prove : text ≢ codes "prove"
  pub audit : text ≢ codes "audit"

-- such arguments are not valid
pub no_command : {Z : Type 0} (words : List (String Z)) (command : String Z) (text : List ℕ) → Some command ≡ slice_get words 0 → text ≡ string_bytes command
    → NamesNone text → None ≡ form_of (map string_bytes words)
no_command [] command text first is none = absurd (some_none command first)
no_command (word ∷ words) command text first is none =
    let own : text ≡ string_bytes word = is ∙ ap string_bytes (same_some command word first) in
    let a = differ (string_bytes word) (codes "check") (λ e. none.check (own ∙ e)) in
    let b = differ (string_bytes word) (codes "route") (λ e. none.route (own ∙ e)) in
    let d = differ (string_bytes word) (codes "make") (λ e. none.make (own ∙ e)) in
    let p = differ (string_bytes word) (codes "preview") (λ e. none.preview (own ∙ e)) in
    let s = differ (string_bytes word) (codes "shared") (λ e. none.shared (own ∙ e)) in
    let q = differ (string_bytes word) (codes "prove") (λ e. none.prove (own ∙ e)) in
    let r = differ (string_bytes word) (codes "audit") (λ e. none.audit (own ∙ e)) in
    rw (a, b, d, p, s, q, r) refl
