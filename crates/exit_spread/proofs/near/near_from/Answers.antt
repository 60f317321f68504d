-- The least bound is that of one of the origins.
use Rattle.std.proofs.Common.{◌≤◌, ℕ, suc, ◌+◌, List, [], ◌∷◌, All, min, take, pos, subst, inl, inr, arith}
use Rattle.std.specs.Prelude.{fold}
use Rattle.std.proofs.lemmas.Bool.{cases_lt}
use Rattle.std.proofs.lemmas.Int.{ints}
use Rattle.std.proofs.lemmas.List.{take_all}
use Rattle.std.proofs.lemmas.List.Elements.{All-more, All-weaker}
use Rattle.plane_geom.specs.declared.point.Point.{Point}
use Rattle.plane_geom.specs.declared.point.Dir.TheVariants.{East}
use Rattle.plane_geom.specs.Along.{reach}
use Rattle.search_problem.specs.Bounds.{most_cost}
use Rattle.search_problem.specs.Origins.{bound_from}
use Rattle.search_problem.specs.declared.origin.Origin.{Origin}
use Rattle.exit_rows.specs.Exits.{ahead_at}
use Rattle.exit_rows.proofs.Orders.{gap_above}
use Rattle.exit_spread.specs.Near.{IsNear}
use Rattle.exit_spread.proofs.near.near_from.Goals as goal

abbrev no_origin : Origin
no_origin = record { dir = East; ports = record { left = pos 0; top = pos 0; right = pos 0; bottom = pos 0 }; lead = 0 }

-- what holds if one of the numbers is small enough holds if the least is
by_least : (G : Type 0) (f : Origin → ℕ) (x n : ℕ) (os : List Origin) (m : ℕ) → (x + m ≤ n → G) → All (λ o. x + f o ≤ n → G) os →
    x + fold (λ least o. min least (f o)) m os ≤ n → G
by_least G f x n [] m first all h = first h
by_least G f x n (o ∷ os) m first all h =
    by_least G f x n os (min m (f o))
    (λ le. elim (cases_lt (f o) m) as (λ _. G) [ inl less ↦ all 0 o (omega arith) (omega (arith, le, less)) | inr upto ↦ first (omega (arith, le, upto)) ])
    (λ k d lt. all (suc k) d (omega (arith, lt))) h

pub loop-origin-preserved : goal.loop-origin-preserved
loop-origin-preserved c =
    let bound : Origin → Point → ℕ = λ o q. bound_from c.args.penalty o q c.args.before in
    let origins = c.args.origins.now in
    let i = c.loop-origin.origin-index in
    All-more (λ o. IsNear c.args.run.now (bound o) c.args.penalty c.args.best c.join-near.result) origins i no_origin c.loop-origin-test.true
    (All-weaker (λ o. IsNear c.args.run.now (bound o) c.args.penalty c.args.best c.loop-origin.near) (λ o. IsNear c.args.run.now (bound o) c.args.penalty c.args.best c.join-near.result)
    (λ o was q on before cheap. c.join-near.ensures.first (reach c.args.run.now.heading q) (was q on before cheap)) (take i origins) c.loop-origin.invariant)
    (λ q on before cheap. c.join-near.ensures.second (reach c.args.run.now.heading q) (c.near_origin.ensures q on before cheap))

pub returns : goal.returns
returns c = λ q on before cheap.
    let r = c.args.run.now in
    let origins = c.args.origins.now in
    let all = subst (All (λ o. IsNear r (λ p. bound_from c.args.penalty o p c.args.before) c.args.penalty c.args.best c.loop-origin.near)) (take_all c.loop-origin.origin-index origins c.loop-origin-test.false) c.loop-origin.invariant in
    by_least _ (λ o. bound_from c.args.penalty o q c.args.before) ((ahead_at r.kept (reach r.heading q)).cost + c.args.penalty) c.args.best origins most_cost
    (λ most. absurd (let far = gap_above (reach r.heading q) r.kept.at (omega (arith, ints, before)) in omega (arith, ints, most, far, before, c.requires.best)))
    (λ k d lt le. all k d lt q on before le) cheap
