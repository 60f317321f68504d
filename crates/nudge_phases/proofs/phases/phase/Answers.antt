-- The steps of a phase make the phase.
use Rattle.std.proofs.Common.{◌≡◌, ◌≢◌, List, length, arith, sym, ap, subst, subst₂, ◌∙◌, rules, w64, FitsSigned}
use Rattle.std.specs.Prelude.{All, AllPairs}
use Rattle.std.proofs.lemmas.Int.{to_z-of_z}
use Rattle.channel_bundles.specs.declared.route.PhaseRoute.{PhaseRoute}
use Rattle.channel_bundles.specs.Limits.{MayMove}
use Rattle.channel_bundles.specs.Few.{AreFewBundles}
use Rattle.nudge_phases.specs.Phase.{IsPhase}
use Rattle.nudge_phases.specs.Steps.{AreBundlesIn}
use Rattle.nudge_phases.specs.Rising.{EdgesRise}
use Rattle.nudge_phases.proofs.BetweenPhases.{rising_differ}
use Rattle.nudge_phases.proofs.Fewer.{few_in, phase_of}
use Rattle.nudge_phases.proofs.RouteRuns.{take_whole}
use Rattle.nudge_phases.proofs.phases.phase.Goals as goal

pub few_bundles-requires-clause-edges : goal.few_bundles-requires-clause-edges
few_bundles-requires-clause-edges c =
    subst (λ (rs : List PhaseRoute). AllPairs (λ (r s : PhaseRoute). r.edge ≢ s.edge) rs) (sym c.deref.ensures.value) (rising_differ c.args.routes.items c.requires.edges)

pub few_bundles-requires-clause-movable : goal.few_bundles-requires-clause-movable
few_bundles-requires-clause-movable c =
    subst (λ (rs : List PhaseRoute). All (MayMove c.args.solids.now c.args.way) rs) (sym c.deref.ensures.value) c.requires.movable

pub settle_and_put_all-requires-clause-edges : goal.settle_and_put_all-requires-clause-edges
settle_and_put_all-requires-clause-edges c = subst (λ (rs : List PhaseRoute). EdgesRise rs) (sym c.deref_mut.ensures.value) c.requires.edges

pub settle_and_put_all-requires-clause-bundles : goal.settle_and_put_all-requires-clause-bundles
settle_and_put_all-requires-clause-bundles c =
    let fits : FitsSigned w64 c.args.nudge = search rules in
    let way = c.args.way in
    let found = c.in_ok-found.found.items in
    let bundles = simp to_z-of_z at c.in_ok-found.ensures.bundles in
    let are = few_in c.args.solids.now c.deref.result.now way c.args.nudge found bundles c.in_ok-found.ensures.each in
    (way, subst₂ (λ rs bs. AreBundlesIn rs way bs) (c.deref.ensures.value ∙ sym c.deref_mut.ensures.value) (sym c.deref-2.ensures.value) are)

pub returns : goal.returns
returns c =
    let fits : FitsSigned w64 c.args.nudge = search rules in
    let solids = c.args.solids.now in
    let routes = c.args.routes.items in
    let way = c.args.way in
    let found = c.in_ok-found.found.items in
    let read = simp to_z-of_z at c.in_ok-found.ensures.bundles in
    let bundles = subst (λ (rs : List PhaseRoute). AreFewBundles solids rs way c.args.nudge found) c.deref.ensures.value read in
    let are = few_in solids routes way c.args.nudge found bundles c.in_ok-found.ensures.each in
    let count = c.args.routes.ok.0 in
    let first = c.deref_mut.ensures.value in
    let put = c.settle_and_put_all.new.routes in
    let followed = c.follow_all.new.routes in
    let settles = c.in_ok-settle_and_put_all.ensures in
    let puts = settles.put way (subst₂ (λ rs bs. AreBundlesIn rs way bs) (sym first) (sym c.deref-2.ensures.value) are) in
    let put_count : length put ≡ c.args.routes.len = (let n = puts.count in let m = ap length first in omega (arith, n, m, count)) in
    let second : c.deref_mut-2.result.now ≡ put = c.deref_mut-2.ensures.value ∙ take_whole put _ c.args.routes.len put_count in
    let whole = phase_of solids routes c.deref_mut.result.now c.deref_mut-2.result.now put followed way c.args.nudge found c.deref-2.result.now
    first c.deref-2.ensures.value second bundles are settles c.follow_all.ensures in
    let followed_count : length followed ≡ c.args.routes.len = (let n = c.follow_all.ensures.count in let m = ap length second in omega (arith, n, m, put_count)) in
    subst (λ (rs : List PhaseRoute). IsPhase solids routes way c.args.nudge rs) (sym (take_whole followed _ c.args.routes.len followed_count)) whole
