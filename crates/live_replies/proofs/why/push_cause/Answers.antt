-- The text of a covered checkpoint is appended in two parts.
use Rattle.std.proofs.Common.{◌≡◌, ◌++◌, ◌∙◌, ℕ, List, FitsSigned, OnOk, ap, codes, decimal, rules, subst, sym, w64}
use Rattle.std.specs.Fmt.{signed_decimal}
use Rattle.std.proofs.lemmas.Int.{to_z-of_z}
use Rattle.std.proofs.lemmas.List.{append_assoc}
use Rattle.route_causes.specs.declared.cause.Cause.{Cause}
use Rattle.live_replies.specs.Why.{cause_text}
use Rattle.live_replies.proofs.why.push_cause.Goals as goal

pub returns-in_ok-push_numbered-in-CoveredCheckpoint : goal.returns-in_ok-push_numbered-in-CoveredCheckpoint
returns-in_ok-push_numbered-in-CoveredCheckpoint c =
    let place = c.in-CoveredCheckpoint.place in
    let node = c.in-CoveredCheckpoint.node in
    let out = c.args.out.now.items in
    let fits : FitsSigned w64 node = search rules in
    let numbered : c.push_numbered.new.out.items ≡ out ++ (codes " checkpoint " ++ decimal place) =
    c.in_ok-push_numbered-in-CoveredCheckpoint.ensures ∙ ap (λ n. out ++ (codes " checkpoint " ++ decimal n)) c.from.ensures in
    let whole : c.push_numbered.new.out.items ++ (codes " " ++ signed_decimal node) ≡ out ++ (codes " checkpoint " ++ decimal place ++ codes " " ++ signed_decimal node) =
    ap (λ (xs : List ℕ). xs ++ (codes " " ++ signed_decimal node)) numbered ∙ append_assoc out (codes " checkpoint " ++ decimal place) (codes " " ++ signed_decimal node)
    ∙ ap (λ (xs : List ℕ). out ++ xs) (sym (append_assoc (codes " checkpoint " ++ decimal place) (codes " ") (signed_decimal node))) in
    subst (λ (cause : Cause). OnOk c.push_with_id-in-CoveredCheckpoint.result (c.push_with_id-in-CoveredCheckpoint.new.out.items ≡ out ++ cause_text cause)) (sym c.in-CoveredCheckpoint.is)
    (subst (λ (xs : List ℕ). OnOk c.push_with_id-in-CoveredCheckpoint.result (c.push_with_id-in-CoveredCheckpoint.new.out.items ≡ xs)) whole (simp to_z-of_z at c.push_with_id-in-CoveredCheckpoint.ensures))
