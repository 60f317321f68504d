-- One run after another adds what it takes up, and a sort only moves that.
use Rattle.std.proofs.Common.{◌≡◌, ℕ, ℤ, arith, rules, w64, FitsSigned}
use Rattle.std.proofs.lemmas.Int.{to_z-of_z}
use Rattle.std.proofs.lemmas.List.Sorted.{All-permutation, Contains-permutation, answers_always}
use Rattle.channel_bundles.specs.declared.groups.Span.{Span}
use Rattle.channel_bundles.specs.Groups.{IsSpan, span_at}
use Rattle.channel_bundles.proofs.Spans.{rises, span_more}
use Rattle.channel_bundles.proofs.groups.spans_of.Goals as goal

same_span : (group place : ℕ) (a b x y : ℤ) → a ≡ x → b ≡ y →
    (let s : Span = record { group = group; lo = a; hi = b; place = place } in s) ≡ record { group = group; lo = x; hi = y; place = place }
same_span group place a b x y e f = cc

pub loop-place-preserved : goal.loop-place-preserved
loop-place-preserved c =
    let fits : FitsSigned w64 c.args.nudge = search rules in
    let is = simp to_z-of_z at c.loop-place.invariant in
    let end = simp to_z-of_z at c.end_of.ensures in
    let begin_fits : FitsSigned w64 c.begin_of.result = search rules in
    let end_fits : FitsSigned w64 c.end_of.result = search rules in
    let pushed = simp to_z-of_z at c.in_ok-push.ensures.items in
    simp to_z-of_z (span_more c.args.by c.args.nudge c.args.members.now c.args.groups.now c.loop-place.place c.loop-place.spans.items c.push.new.self.items _ c.loop-place-test.true c.requires.groups is.0 is.1
    (same_span _ _ _ _ _ _ c.begin_of.ensures end) pushed)

pub returns-clause-each : goal.returns-clause-each
returns-clause-each c = All-permutation (IsSpan _) _ _ c.sort_unstable_by_key.ensures.permutation c.loop-place.invariant.0

pub returns-clause-all : goal.returns-clause-all
returns-clause-all c =
    let fits : FitsSigned w64 c.args.nudge = c.ranges.nudge in
    let is = simp to_z-of_z at c.loop-place.invariant in
    λ k h. Contains-permutation c.loop-place.spans.items c.sort_unstable_by_key.new.self.items (span_at c.args.by c.args.nudge c.args.members.now c.args.groups.now k)
    c.sort_unstable_by_key.ensures.permutation (is.1 k (omega (arith, h, c.loop-place-test.false)))

pub returns-clause-order : goal.returns-clause-order
returns-clause-order c = rises (λ (s : Span). s.lo) _ (c.sort_unstable_by_key.ensures.sorted (λ (s : Span). s.lo) (answers_always _ _ _ (λ f a r g h. search rules)))
