-- The order of what is ahead decides, and where there is none, whether both go on alike.
use Rattle.std.proofs.Common.{◌≡◌, ◌≤ℤ◌, refl, sym, ap, ◌∙◌, arith}
use Rattle.std.specs.declared.cmp.Ordering.TheVariants.{Less, Equal}
use Rattle.std.proofs.lemmas.Int.{ints}
use Rattle.move_model.specs.declared.ahead.Ahead.{Ahead}
use Rattle.move_model.specs.Ahead.{ahead_cmp}
use Rattle.exit_rows.specs.Exits.{ahead_at}
use Rattle.exit_rows.proofs.Late.{equal_alike, stands_equal, stands_less}
use Rattle.exit_rows.proofs.Orders.{signed}
use Rattle.exit_rows.proofs.exit.Kept.stands_for.Goals as goal

pub returns-in-Less : goal.returns-in-Less
returns-in-Less c =
    let e = c.args.other.now in
    let o = c.args.self.now in
    let at : e.at ≤ℤ o.at = omega (arith, ints, c.if-self-other.false, c.requires.small.at.low, c.requires.small.at.high, c.requires.other.at.low, c.requires.other.at.high) in
    let from : o.from ≤ℤ e.from = omega (arith, ints, c.if-other-self.false, c.requires.small.from.low, c.requires.small.from.high, c.requires.other.from.low, c.requires.other.from.high) in
    let there : c.ahead_at.result ≡ ahead_at o e.at = c.ahead_at.ensures ∙ ap (ahead_at o) (signed e.at c.requires.other.at) in
    let less : ahead_cmp (ahead_at o e.at) e.ahead ≡ Less = sym (c.in-Less.ensures ∙ ap (λ (v : Ahead). ahead_cmp v e.ahead) there) in
    (λ _. stands_less o e at from less, λ _. refl)

pub returns-in-Equal : goal.returns-in-Equal
returns-in-Equal c =
    let e = c.args.other.now in
    let o = c.args.self.now in
    let at : e.at ≤ℤ o.at = omega (arith, ints, c.if-self-other.false, c.requires.small.at.low, c.requires.small.at.high, c.requires.other.at.low, c.requires.other.at.high) in
    let from : o.from ≤ℤ e.from = omega (arith, ints, c.if-other-self.false, c.requires.small.from.low, c.requires.small.from.high, c.requires.other.from.low, c.requires.other.from.high) in
    let there : c.ahead_at.result ≡ ahead_at o e.at = c.ahead_at.ensures ∙ ap (ahead_at o) (signed e.at c.requires.other.at) in
    let equal : ahead_cmp (ahead_at o e.at) e.ahead ≡ Equal = sym (c.in-Equal.ensures ∙ ap (λ (v : Ahead). ahead_cmp v e.ahead) there) in
    (λ t. stands_equal o e at from equal (c.goes_on_as.ensures.0 t), λ h. c.goes_on_as.ensures.1 (equal_alike o e equal h))
