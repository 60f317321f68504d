-- Each move lowers the sum of squares, and a balanced network is a solution.
use Rattle.std.proofs.Common.{◌≡◌, ◌+◌, ◌<◌, ℤ, Vec, length, Result, IfOk, unsigned_abs, arith, sym, subst}
use Rattle.std.proofs.lemmas.Result.{IfOk-weaker}
use Rattle.separation_model.specs.declared.bundle.Bundle.{Bundle}
use Rattle.separation_model.specs.declared.bundle.Solution.{Solution}
use Rattle.separation_solve.specs.Block.{objective}
use Rattle.separation_model.specs.Bundle.{IsBundle}
use Rattle.separation_model.specs.Certified.{IsAccepted}
use Rattle.separation_model.specs.Least.{IsLeast}
use Rattle.separation_model.proofs.Optimum.Certificates.{certified_least}
use Rattle.separation_solve.specs.Reach.{IsTable}
use Rattle.separation_model.specs.Arena.{Arena}
use Rattle.separation_solve.specs.Network.{items_of}
use Rattle.separation_solve.proofs.Networks.Upright.{kept_same, network_on, same_objective}
use Rattle.separation_solve.proofs.solver.solve.Goals as goal

pub loop-reach-smaller : goal.loop-reach-smaller
loop-reach-smaller c =
    let same = same_objective c.loop-reach.network c.balance.new.self c.in_ok-balance.ensures.same c.in_ok-balance.ensures.places in
    subst (λ z. unsigned_abs (objective c.shift.new.self) < unsigned_abs z) same c.in_ok-shift.ensures.falls

-- what is accepted is least
least_result : {E : Type 0} (b : Bundle) (result : Result Solution E) → IsBundle b → IfOk result (IsAccepted b) → IfOk result (λ s. IsLeast b s.gap s.den.items s.pos.items)
least_result b result ok =
    IfOk-weaker result (IsAccepted b) (λ (s : Solution). IsLeast b s.gap s.den.items s.pos.items)
    (λ s accepted. certified_least b s ok accepted.certified)

pub returns-then-is_empty-clause-least : goal.returns-then-is_empty-clause-least
returns-then-is_empty-clause-least c = least_result c.args.bundle.now c.at_rest.result c.requires.bundle c.at_rest.ensures.accepted

pub returns-clause-least : goal.returns-clause-least
returns-clause-least c = least_result c.args.bundle.now c.into_solution.result c.requires.bundle c.into_solution.ensures.accepted

pub loop-reach-init : goal.loop-reach-init
loop-reach-init c =
    let n = c.in_ok-network.network in
    let made = c.in_ok-network.ensures in
    let count : c.len.result ≡ items_of n + 1 = omega (arith, c.len.ensures, n.places.ok, made.sound.frame.places) in
    record { sound = made.sound; of_bundle = made.of_bundle; table = subst (λ count. IsTable count c.in_ok-reach.reach) count c.in_ok-reach.ensures }

pub loop-reach-preserved : goal.loop-reach-preserved
loop-reach-preserved c =
    let was = c.in_ok-balance.ensures in
    let kept = c.in_ok-shift.ensures.bundle in
    record {
      sound = c.in_ok-shift.ensures.sound;
      of_bundle = network_on (network_on c.loop-reach.invariant.of_bundle was.same) (kept_same kept);
      table = subst (λ (wants : Vec ℤ Arena). IsTable (length wants.items + 1) c.balance.new.reach) (sym kept.wants) was.table;
    }
