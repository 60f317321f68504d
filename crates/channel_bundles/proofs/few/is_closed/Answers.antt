-- A later run that hides the run closes it where another edge was noted.
use Rattle.std.proofs.Common.{refl, sym, inl, inr, rules, w64, FitsSigned, true≢false}
use Rattle.std.proofs.lemmas.Int.{to_z-of_z}
use Rattle.channel_bundles.proofs.few.is_closed.Goals as goal

pub returns-in-Some : goal.returns-in-Some
returns-in-Some c =
    let fits : FitsSigned w64 c.args.nudge = c.ranges.nudge in
    let hidden = c.if-not-is_hidden.ensures refl in
    record { hidden = λ _. simp to_z-of_z at hidden; other = λ e. (c.in-Some.other, c.in-Some.is, λ same. search (rules, e, same)); kept = inl refl }

pub returns : goal.returns
returns c =
    let fits : FitsSigned w64 c.args.nudge = c.ranges.nudge in
    let hidden = c.if-not-is_hidden.ensures refl in
    record { hidden = λ e. absurd (true≢false (sym e)); other = λ e. absurd (true≢false (sym e)); kept = inr (refl, simp to_z-of_z at hidden) }
