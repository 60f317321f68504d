-- Both are compared by their ranges and by what is ahead.
use Rattle.std.proofs.Common.{◌≡◌, ◌≤ℤ◌, ◌<ℤ◌, Bool, ap, sym, ◌∙◌, arith, true≢false}
use Rattle.std.specs.Ordering.{is_lt}
use Rattle.std.proofs.lemmas.Int.{ints}
use Rattle.move_model.specs.declared.ahead.Ahead.{Ahead}
use Rattle.move_model.specs.Ahead.{ahead_cmp}
use Rattle.exit_rows.specs.declared.exit.Kept.{Kept}
use Rattle.exit_rows.specs.Exits.{ahead_at, undercuts}
use Rattle.exit_rows.proofs.Least.{tested_le, tested_lt}
use Rattle.exit_rows.proofs.Orders.{signed}
use Rattle.exit_rows.proofs.exit.Kept.undercuts.Goals as goal
use Rattle.exit_rows.proofs.exit.Kept.undercuts.Goals.{then-self-other, else-self-other}

by_ranges : (o e : Kept) (b : Bool) → o.from ≤ℤ e.from → o.at <ℤ e.at → b ≡ is_lt (ahead_cmp o.ahead (ahead_at e o.at)) → b ≡ undercuts o e
by_ranges o e b from at is = rw (tested_le o.from e.from from, tested_lt o.at e.at at) is

pub returns-then-self-other-2 : goal.returns-then-self-other-2
returns-then-self-other-2 c =
    let o = c.args.self.now in
    let e = c.args.other.now in
    let small = c.requires.small in
    let other = c.requires.other in
    elim c.if-self-other.branch [
      | then-self-other w ↦
          let nearer = sym w.value-is ∙ c.if-self-other-2.true in
          by_ranges o e c.is_less.result
          (omega (arith, ints, w.if-self-other.true, small.from.low, small.from.high, other.from.low, other.from.high))
          (omega (arith, ints, nearer, small.at.low, small.at.high, other.at.low, other.at.high))
          (c.is_less.ensures ∙ ap (λ (v : Ahead). is_lt (ahead_cmp o.ahead v)) (c.ahead_at.ensures ∙ ap (ahead_at e) (signed o.at small.at)))
      | else-self-other w ↦ absurd (true≢false (sym c.if-self-other-2.true ∙ w.value-is ∙ w.if-self-other.false))
    ]
