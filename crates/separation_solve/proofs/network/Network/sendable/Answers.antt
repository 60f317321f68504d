-- The amount is positive, is at most what can reach the node, and is taken.
use Rattle.std.proofs.Common.{◌≡◌, ℕ, ◌<◌, pos, ◌<ℤ◌, ◌≤ℤ◌, FitsSigned, length, get_or, arith, sym, subst, ◌∙◌, to_z-of_z, ⊎_elim}
use mir.Syntax.{w128}
use Rattle.std.specs.Int.{int_min}
use Rattle.std.proofs.lemmas.List.{get_or_read}
use Rattle.separation_model.specs.Bundle.{int_at}
use Rattle.separation_solve.specs.declared.network.Network.{Network}
use Rattle.separation_solve.specs.declared.reach.Reach.{Reach}
use Rattle.separation_solve.specs.declared.reach.Step.{Step}
use Rattle.separation_solve.specs.Network.{IsSound, items_of}
use Rattle.separation_solve.specs.Push.{TakesAmount}
use Rattle.separation_solve.specs.Reach.{IsStep, IsWay, TakesFlow, start_of, step_at}
use Rattle.separation_solve.proofs.Searches.Leads.{between_fits, min_positive, capacity_fits}
use Rattle.separation_solve.proofs.LightFractions.Spots.{cast_is}
use Rattle.separation_solve.proofs.Searches.Searching.{excess_fits}
use Rattle.separation_solve.proofs.network.Network.sendable.Goals as goal

-- what is known of the step that was read
record Known (n : Network) (r : Reach) (k : ℕ) (s : Step) : Type 0 where
  is : s ≡ step_at r.steps.items k
  is_step : IsStep n (start_of r) s
  fits : FitsSigned w128 s.capacity

known : (n : Network) (r : Reach) (k : ℕ) (s : Step) → IsSound n → IsWay n (start_of r) r k → s ≡ get_or r.steps.items k s → Known n r k s
known n r k s sound way e =
    let is = get_or_read r.steps.items k s way.target e _ in
    let step = subst (IsStep n (start_of r)) (sym is) (way.reach.steps k way.target) in
    record { is = is; is_step = step; fits = capacity_fits n (start_of r) s sound step }

-- an item's excess was read
inside : (n : Network) (r : Reach) (k : ℕ) (s : Step) → IsSound n → Known n r k s → (s.node ≡ items_of n → ⊥) → s.node < length n.excess.items
inside n r k s sound known other = omega (arith, known.is_step.node, sound.frame.excess)

takes : (n : Network) (r : Reach) (k : ℕ) (s : Step) → IsWay n (start_of r) r k → Known n r k s → (s.node ≡ items_of n → ⊥) → pos 0 <ℤ int_at n.excess.items s.node
takes n r k s way known other =
    let t : TakesFlow n s.node = subst (λ (u : Step). TakesFlow n u.node) (sym known.is) way.takes in
    ⊎_elim (λ e. absurd (other e)) (λ h. h) t

pub index-requires : goal.index-requires
index-requires c =
    let n = c.args.self.now in
    let k = known n c.args.reach.now c.args.target c.index-step.result.now c.requires.sound c.requires.way c.index-step.ensures in
    omega (arith, inside n c.args.reach.now c.args.target c.index-step.result.now c.requires.sound k (λ e. c.if-step-wall.false (e ∙ sym c.wall.ensures)))

pub returns-then-step-wall-clause-some : goal.returns-then-step-wall-clause-some
returns-then-step-wall-clause-some c =
    let k = known c.args.self.now c.args.reach.now c.args.target c.index-step.result.now c.requires.sound c.requires.way c.index-step.ensures in
    rw (to_z-of_z k.fits) k.is_step.some

pub returns-else-step-wall-clause-some : goal.returns-else-step-wall-clause-some
returns-else-step-wall-clause-some c =
    let n = c.args.self.now in
    let s = c.index-step.result.now in
    let k = known n c.args.reach.now c.args.target s c.requires.sound c.requires.way c.index-step.ensures in
    let other : s.node ≡ items_of n → ⊥ = λ e. c.if-step-wall.false (e ∙ sym c.wall.ensures) in
    let z = cast_is w128 c.index.result.now _ (get_or_read n.excess.items s.node c.index.result.now (inside n c.args.reach.now c.args.target s c.requires.sound k other) c.index.ensures (pos 0)) (excess_fits n s.node c.requires.sound) in
    let value : c.min.result ≡ int_min s.capacity (int_at n.excess.items s.node) = rw (to_z-of_z k.fits, z) at c.min.ensures.value in
    let less : c.min.result ≤ℤ s.capacity = rw (to_z-of_z k.fits) at c.min.ensures.self_bound in
    let some = min_positive _ _ _ value k.is_step.some (takes n c.args.reach.now c.args.target s c.requires.way k other) in
    rw (to_z-of_z (between_fits c.min.result s.capacity some less k.fits)) some

pub returns-else-step-wall-clause-taken : goal.returns-else-step-wall-clause-taken
returns-else-step-wall-clause-taken c =
    let n = c.args.self.now in
    let s = c.index-step.result.now in
    let k = known n c.args.reach.now c.args.target s c.requires.sound c.requires.way c.index-step.ensures in
    let other : s.node ≡ items_of n → ⊥ = λ e. c.if-step-wall.false (e ∙ sym c.wall.ensures) in
    let z = cast_is w128 c.index.result.now _ (get_or_read n.excess.items s.node c.index.result.now (inside n c.args.reach.now c.args.target s c.requires.sound k other) c.index.ensures (pos 0)) (excess_fits n s.node c.requires.sound) in
    let value : c.min.result ≡ int_min s.capacity (int_at n.excess.items s.node) = rw (to_z-of_z k.fits, z) at c.min.ensures.value in
    let less : c.min.result ≤ℤ s.capacity = rw (to_z-of_z k.fits) at c.min.ensures.self_bound in
    let some = min_positive _ _ _ value k.is_step.some (takes n c.args.reach.now c.args.target s c.requires.way k other) in
    let back : c.min.result ≤ℤ int_at n.excess.items s.node = rw z at c.min.ensures.other_bound in
    let all : TakesAmount n s.node c.min.result = λ _. back in
    rw (to_z-of_z (between_fits c.min.result s.capacity some less k.fits)) (subst (λ (u : Step). TakesAmount n u.node c.min.result) k.is all)
