-- Checkpoint by checkpoint.
use Rattle.std.proofs.Common.{◌<◌, ◌≤◌, ◌+◌, ◌*◌, pos, List, All, get_or, length, take, subst, ◌∙◌, arith}
use Rattle.std.proofs.lemmas.List.{take_all}
use Rattle.std.proofs.lemmas.List.Elements.{All-more}
use Rattle.plane_geom.specs.declared.point.Point.{Point}
use Rattle.line_lists.specs.Lists.{number_of}
use Rattle.exit_spread.specs.Propagating.{IsMetAt}
use Rattle.exit_spread.proofs.Spreading.Adding.{adds_both, adds_more, met_on}
use Rattle.exit_spread.proofs.spread.Spread.meet_checkpoints.Goals as goal

abbrev no_point : Point
no_point = record { x = pos 0; y = pos 0 }

pub loop-at-preserved : goal.loop-at-preserved
loop-at-preserved c =
    let p = c.args.problem.now in
    let n = number_of c.args.lists.now in
    let r = c.args.run.now in
    let old = c.args.self.now in
    let mid = c.loop-at.self in
    let new = c.meet_checkpoint.new.self in
    let via = p.task.now.via in
    let i = c.loop-at.at-index in
    let more = c.in_ok-meet_checkpoint.ensures.adds in
    let lt = subst (λ (xs : List Point). i < length xs) c.as_slice-at-items.ensures c.loop-at-test.true in
    record {
      rows = c.in_ok-meet_checkpoint.ensures.rows ∙ c.loop-at.invariant.rows;
      adds = adds_more p n old new (2 * i + 2) (2 * (i + 1)) (omega arith) (adds_both p n old mid new (2 * i) 2 c.loop-at.invariant.adds more);
      met = All-more (IsMetAt p n new r) via i no_point lt
          (λ k d in_front. met_on p n mid new 2 more r (get_or (take i via) k d) (c.loop-at.invariant.met k d in_front))
          (subst (λ (xs : List Point). IsMetAt p n new r (get_or xs i no_point)) c.as_slice-at-items.ensures c.in_ok-meet_checkpoint.ensures.met);
    }

pub returns-clause-met : goal.returns-clause-met
returns-clause-met c =
    let p = c.args.problem.now in
    let all = subst (λ (xs : List Point). length xs ≤ c.loop-at.at-index) c.as_slice-at-items.ensures c.loop-at-test.false in
    subst (All (IsMetAt p (number_of c.args.lists.now) c.loop-at.self c.args.run.now)) (take_all c.loop-at.at-index p.task.now.via all) c.loop-at.invariant.met
