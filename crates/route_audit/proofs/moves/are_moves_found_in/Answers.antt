-- The move in the direction is one.
use Rattle.std.proofs.Common.{◌≡◌, ◌+◌, ◌*◌, refl, sym, ap, subst, ◌∙◌}
use Rattle.walk_model.specs.Cost.{turn}
use Rattle.proof_model.specs.Labels.{label_of}
use Rattle.proof_model.specs.Rules.{Suffices}
use Rattle.proof_model.specs.Next.{place_of}
use Rattle.route_audit.proofs.moves.are_moves_found_in.Goals as goal

pub returns-in_default : goal.returns-in_default
returns-in_default c = λ floor problem. (
  λ _ h label cost y is turned m. absurd (c.in_default.ensures.none refl floor problem h cost y turned m),
  λ _. refl,
)

pub returns : goal.returns
returns c = λ floor problem.
    let claim = c.args.claim.now in
    let rows = c.args.labels.now.rows.now in
    let n = c.in-Some.ensures.next floor problem in
    let next = c.in-Some.next in
    let there = c.label-there.ensures in
    let penalty = c.args.problem.now.task.now.penalty in (
      λ good h label cost y is turned m.
          let only = n.only h cost y turned m in
          let well = c.all_arrive_well.ensures.0 good h label is in
          let here : c.label-there.result ≡ label_of rows y = there ∙ ap (label_of rows) (sym only.0) in
          subst (λ k. Suffices claim (label_of rows y) (label + k)) (sym only.1) (subst (λ o. Suffices claim o (label +
          (next.steps + penalty * turn h c.args.dir))) here well),
      λ found. c.all_arrive_well.ensures.1 (λ h label is.
          subst (λ o. Suffices claim o (label + (next.steps + penalty * turn h c.args.dir))) (sym there)
          (found h label (next.steps + penalty * turn h c.args.dir) (place_of next) is n.heading (n.move h))),
    )
