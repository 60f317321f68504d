-- The result of phase x is passed to phase y, and its result is written.
use Rattle.std.proofs.Common.{List, arith, sym, subst, rules, w64, FitsSigned}
use Rattle.std.specs.Prelude.{All}
use Rattle.std.proofs.lemmas.Int.{to_z-of_z}
use Rattle.plane_geom.specs.declared.point.Way.TheVariants.{Vertical, Horizontal}
use Rattle.segment_order.specs.Run.{AreRunsOf}
use Rattle.channel_bundles.specs.declared.route.PhaseRoute.{PhaseRoute}
use Rattle.nudge_phases.specs.Lines.{IsWrittenLine}
use Rattle.nudge_phases.specs.Phase.{IsPhase}
use Rattle.nudge_phases.specs.Steps.{AreEach}
use Rattle.nudge_phases.proofs.EachPhase.Solvable.{as_many}
use Rattle.nudge_phases.proofs.BetweenPhases.{phase_rises, raw_may_move, x_may_move, x_ready_all, y_ready_all}
use Rattle.nudge_phases.proofs.routes.nudge_routes.Goals as goal
use Rattle.nudge_phases.proofs.routes.nudge_routes.Goals.{In_ok-after_x, In_ok-after_y}

pub phase-requires-clause-movable : goal.phase-requires-clause-movable
phase-requires-clause-movable c = raw_may_move c.args.solids.now c.args.raw.items c.args.nudge c.requires.raw c.requires.legal

-- the result of the phase of the vertical runs
x_is : (c : In_ok-after_x) → IsPhase c.args.solids.now c.args.raw.items Vertical c.args.nudge c.in_ok-after_x.after_x.items
x_is c = let fits : FitsSigned w64 c.args.nudge = search rules in simp to_z-of_z at c.in_ok-after_x.ensures

-- and the result of the phase of the horizontal runs on it
y_is : (c : In_ok-after_y) → IsPhase c.args.solids.now c.in_ok-after_x.after_x.items Horizontal c.args.nudge c.in_ok-after_y.after_y.items
y_is c = let fits : FitsSigned w64 c.args.nudge = search rules in simp to_z-of_z at c.in_ok-after_y.ensures

pub phase-requires-2-clause-routes : goal.phase-requires-2-clause-routes
phase-requires-2-clause-routes c = λ k d h.
    (x_ready_all c.args.solids.now c.args.raw.items c.args.nudge c.requires.raw c.requires.legal c.in_ok-after_x.after_x.items (x_is (goal.at.phase-requires-2-clause-routes c).In_ok-after_x) k d h).phase

pub phase-requires-2-clause-edges : goal.phase-requires-2-clause-edges
phase-requires-2-clause-edges c =
    phase_rises c.args.solids.now c.args.raw.items Vertical c.args.nudge c.in_ok-after_x.after_x.items (x_is (goal.at.phase-requires-2-clause-edges c).In_ok-after_x) c.requires.edges

pub phase-requires-2-clause-movable : goal.phase-requires-2-clause-movable
phase-requires-2-clause-movable c =
    x_may_move c.args.solids.now c.args.raw.items c.args.nudge c.requires.raw c.requires.legal c.in_ok-after_x.after_x.items (x_is (goal.at.phase-requires-2-clause-movable c).In_ok-after_x)

pub phase-requires-2-clause-few : goal.phase-requires-2-clause-few
phase-requires-2-clause-few c =
    let x = x_is (goal.at.phase-requires-2-clause-few c).In_ok-after_x in
    let same = as_many c.args.solids.now c.args.raw.items Vertical c.args.nudge c.in_ok-after_x.after_x.items x Horizontal in
    let few = c.requires.few Horizontal in
    omega (arith, same, few)

pub written_lines-requires : goal.written_lines-requires
written_lines-requires c =
    let at = goal.at.written_lines-requires c in
    let ready = y_ready_all c.args.solids.now c.args.raw.items c.args.nudge c.requires.raw c.requires.legal c.in_ok-after_x.after_x.items (x_is at.In_ok-after_x) c.in_ok-after_y.after_y.items (y_is at.In_ok-after_y) in
    subst (λ (rs : List PhaseRoute). All (λ (r : PhaseRoute). AreRunsOf r.edge r.runs.items) rs) (sym c.deref.ensures.value) (λ k d h. (ready k d h).phase.runs)

pub returns : goal.returns
returns c =
    let at = goal.at.returns c in
    let lines = subst (λ (rs : List PhaseRoute). AreEach IsWrittenLine rs c.in_ok-written_lines.field-0.items) c.deref.ensures.value c.in_ok-written_lines.ensures in
    record { after_x = c.in_ok-after_x.after_x.items; after_y = c.in_ok-after_y.after_y.items; x = x_is at.In_ok-after_x; y = y_is at.In_ok-after_y; count = lines.count; written = lines.each }
