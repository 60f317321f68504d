-- The sides at the coordinate stand between two places.
use Rattle.std.proofs.Common.{ℤ, ◌≡◌, ◌≢◌, ◌↔◌, ◌∙◌, ◌≤ℤ◌, ◌<ℤ◌, FitsSigned, w64, of_z, to_z, sym, ap, subst, List, drop, take, rules}
use Rattle.std.proofs.lemmas.Int.{to_z-of_z}
use Rattle.std.specs.Prelude.{All, AllPairs, Contains}
use Rattle.side_touches.specs.declared.side.Side.{Side}
use Rattle.side_touches.proofs.InOrder.{at_one, dropped_in_order}
use Rattle.side_touches.proofs.side.at_coordinate.Goals as goal

pub count_at-requires-clause-order : goal.count_at-requires-clause-order
count_at-requires-clause-order c =
    subst (λ (xs : List Side). AllPairs (λ a b. a.at ≤ℤ b.at) xs) (sym c.split_at.ensures.back) (dropped_in_order c.count_before.result c.args.sides.now c.requires)

pub count_at-requires-clause-from : goal.count_at-requires-clause-from
count_at-requires-clause-from c = subst (All (λ (s : Side). to_z w64 (of_z w64 c.args.at) ≤ℤ s.at)) (sym c.split_at.ensures.back) c.count_before.ensures.rest

pub returns : goal.returns
returns c =
    let at = c.args.at in
    let xs = c.args.sides.now in
    let i = c.count_before.result in
    let j = c.count_at.result in
    let back = c.split_at.ensures.back in
    let fits : FitsSigned w64 at = search rules in
    let read = to_z-of_z w64 at fits in
    let before = subst (λ (z : ℤ). All (λ (s : Side). s.at <ℤ z) (take i xs)) read c.count_before.ensures.before in
    let here = subst (λ (ys : List Side). All (λ s. s.at ≡ at) (take j ys)) back (subst (λ (z : ℤ). All (λ (s : Side). s.at ≡ z) (take j c.split_at.result.1.now)) read c.count_at.ensures.here) in
    let beyond = subst (λ (ys : List Side). All (λ s. s.at ≢ at) (drop j ys)) back (subst (λ (z : ℤ). All (λ (s : Side). s.at ≢ z) (drop j c.split_at.result.1.now)) read c.count_at.ensures.beyond) in
    subst (λ (ys : List Side). (x : Side) → Contains ys x ↔ (Contains xs x × (x.at ≡ at))) (sym (c.split_at-2.ensures.front ∙ ap (take j) back))
    (at_one at xs i j before here beyond)
