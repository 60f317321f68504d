-- The rule is the one that is asked for, where it presses.
use Rattle.std.proofs.Common.{◌≡◌, Bool, true, false, Some, None, if◌then◌else◌, refl, sym, ap, ◌∙◌, w64, FitsSigned, rules}
use Rattle.std.specs.Bool.{then_some}
use Rattle.std.proofs.lemmas.Int.{to_z-of_z}
use Rattle.channel_bundles.specs.Links.{asks, linked}
use Rattle.channel_bundles.proofs.member.Member.link.Goals as goal

some_if : (b x : Bool) → then_some b x ≡ (if b then Some x else None)
some_if true x = refl
some_if false x = refl

pub returns : goal.returns
returns c =
    let a = c.args.self.now in
    let b = c.args.later.now in
    let asked : asks a b ≡ Some c.in_ok-spaced.spaced = sym c.asks.ensures ∙ c.in_ok-spaced.was in
    let fits : FitsSigned w64 c.args.nudge = search rules in
    let value = simp to_z-of_z at c.presses.ensures in
    c.then_some.ensures ∙ some_if c.presses.result c.in_ok-spaced.spaced ∙ ap (λ x. if x then Some c.in_ok-spaced.spaced else None) value ∙ ap (linked c.args.nudge a b) (sym asked)
