-- One checkpoint more, and the greatest reach of all.
use Rattle.std.proofs.Common.{◌≡◌, ◌≤ℤ◌, ℤ, IsSomeAnd, Option, All, sym, subst, true≢false, ◌∙◌, ◌+◌, take, get_or, pos, arith}
use Rattle.std.proofs.lemmas.Int.{ints}
use Rattle.std.proofs.lemmas.List.{take_all}
use Rattle.std.proofs.lemmas.List.Elements.{All-more, All-weaker}
use Rattle.plane_geom.specs.Along.{reach}
use Rattle.plane_geom.specs.declared.point.Point.{Point}
use Rattle.exit_spread.specs.Propagating.{LiesUpTo}
use Rattle.exit_spread.proofs.held.last_checkpoint.Goals as goal
use Rattle.exit_spread.proofs.held.last_checkpoint.Goals.{then-lies_up_to, else-lies_up_to}

abbrev no_point : Point
no_point = record { x = pos 0; y = pos 0 }

pub loop-checkpoint-preserved : goal.loop-checkpoint-preserved
loop-checkpoint-preserved c =
    let h = c.args.heading in
    let via = c.args.via.now in
    let i = c.loop-checkpoint.checkpoint-index in
    let last = c.loop-checkpoint.last in
    let upto : Option ℤ → Point → Type 0 = λ o r. LiesUpTo r h c.args.at → IsSomeAnd o (λ z. reach h r ≤ℤ z) in
    let here : Point = get_or via i no_point in
    elim c.if-lies_up_to.branch as (λ _. All (upto c.if-lies_up_to.last) (take (i + 1) via)) [
      | then-lies_up_to w ↦ subst (λ o. All (upto o) (take (i + 1) via)) (sym w.last-is)
          (All-more (upto w.greater-last.result) via i no_point c.loop-checkpoint-test.true
          (All-weaker (upto last) (upto w.greater-last.result) (λ r old lies. w.greater-last.ensures.first (reach h r) (old lies)) (take i via) c.loop-checkpoint.invariant)
          (λ lies. w.greater-last.ensures.second (reach h here)
          (let reached : w.reach.result ≡ reach h here = w.reach.ensures.value in omega (arith, ints, reached))))
      | else-lies_up_to w ↦ subst (λ o. All (upto o) (take (i + 1) via)) (sym w.last-is)
          (All-more (upto last) via i no_point c.loop-checkpoint-test.true c.loop-checkpoint.invariant
          (λ lies. absurd (true≢false (sym (c.lies_up_to.ensures.1 lies) ∙ w.if-lies_up_to.false))))
    ]

pub returns : goal.returns
returns c =
    let h = c.args.heading in
    let upto : Point → Type 0 = λ r. LiesUpTo r h c.args.at → IsSomeAnd c.loop-checkpoint.last (λ z. reach h r ≤ℤ z) in
    subst (All upto) (take_all c.loop-checkpoint.checkpoint-index c.args.via.now c.loop-checkpoint-test.false) c.loop-checkpoint.invariant
