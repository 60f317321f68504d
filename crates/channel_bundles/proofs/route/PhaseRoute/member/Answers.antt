-- A fixed run stays; another may stand within its limits, and so where it stands.
use Rattle.std.proofs.Common.{◌≡◌, ◌↔◌, ℕ, ◌<◌, ℤ, ◌≤ℤ◌, Bool, false, List, length, refl, sym, ap, subst, ◌∙◌, arith, w64, FitsSigned, rules, true≢false}
use Rattle.std.specs.Prelude.{IsTrue}
use Rattle.std.proofs.lemmas.Int.{ints, to_z-of_z}
use Rattle.plane_geom.specs.declared.rect.Solid.{Solid}
use Rattle.plane_geom.specs.Point.{IsCoordinate}
use Rattle.segment_order.specs.Run.{run_at}
use Rattle.channel_bundles.specs.declared.route.PhaseRoute.{PhaseRoute}
use Rattle.channel_bundles.specs.declared.limits.Limits.{Limits}
use Rattle.channel_bundles.specs.Route.{IsFixed, IsPhaseRoute}
use Rattle.channel_bundles.specs.Limits.{HasLimits, IsFromTo, MayStandAt}
use Rattle.channel_bundles.proofs.route.PhaseRoute.member.Goals as goal
use Rattle.channel_bundles.proofs.route.PhaseRoute.member.Goals.{then-fixed, else-fixed}

-- the limits hold the run
record AreLimits (solids : List Solid) (route : PhaseRoute) (k : ℕ) (low high : ℤ) : Type 0 where
  limits : HasLimits solids route k low high
  lo : IsCoordinate low
  hi : IsCoordinate high
  from : low ≤ℤ (run_at route.runs.items k).at
  to : (run_at route.runs.items k).at ≤ℤ high

staying : (solids : List Solid) (route : PhaseRoute) (k : ℕ) (low high : ℤ) → IsPhaseRoute route → k < length route.runs.items → IsFixed route k → low ≡ (run_at route.runs.items k).at → high ≡ (run_at route.runs.items k).at → AreLimits solids route k low high
staying solids route k low high good within fixed is_low is_high =
    let at = (good.runs.each k within).at in
    record {
      limits = record { fixed = λ f. (is_low, is_high); movable = λ not. absurd (not fixed) };
      lo = subst IsCoordinate (sym is_low) at;
      hi = subst IsCoordinate (sym is_high) at;
      from = omega (arith, ints, is_low);
      to = omega (arith, ints, is_high);
    }

moving : (solids : List Solid) (route : PhaseRoute) (k : ℕ) (low high : ℤ) → (IsFixed route k → ⊥) → MayStandAt solids route k (run_at route.runs.items k).at → ((z : ℤ) → MayStandAt solids route k z ↔ IsFromTo low high z) → AreLimits solids route k low high
moving solids route k low high not may is =
    let own = (is (run_at route.runs.items k).at).0 may in
    let lo : MayStandAt solids route k low = (is low).1 (omega (arith, ints), omega (arith, ints, own.0, own.1)) in
    let hi : MayStandAt solids route k high = (is high).1 (omega (arith, ints, own.0, own.1), omega (arith, ints)) in
    record {
      limits = record { fixed = λ f. absurd (not f); movable = λ n z. is z };
      lo = lo.within;
      hi = hi.within;
      from = own.0;
      to = own.1;
    }

not_fixed : {F : Type 0} (b : Bool) → (IsTrue b ↔ F) → b ≡ false → F → ⊥
not_fixed b is off f = true≢false (sym (is.1 f) ∙ off)

pub movable_limits-limits-requires-clause-stands : goal.movable_limits-limits-requires-clause-stands
movable_limits-limits-requires-clause-stands c = c.requires.stands (not_fixed _ c.is_fixed-fixed.ensures c.if-fixed.false)

pub returns : goal.returns
returns c =
    let solids = c.args.walls.now.solids.now in
    let route = c.args.self.now in
    let k = c.args.k in
    let low : FitsSigned w64 c.if-fixed.limits.low = search rules in
    let high : FitsSigned w64 c.if-fixed.limits.high = search rules in
    let at : FitsSigned w64 c.run-run.result.at = search rules in
    let at_is = ap (λ r. r.at) c.run-run.ensures in
    let are : AreLimits solids route k c.if-fixed.limits.low c.if-fixed.limits.high = elim c.if-fixed.branch [
      | then-fixed w ↦
          let own_low = simp to_z-of_z at (ap (λ (l : Limits). l.low) w.limits-is) in
          let own_high = simp to_z-of_z at (ap (λ (l : Limits). l.high) w.limits-is) in
          staying solids route k c.if-fixed.limits.low c.if-fixed.limits.high c.requires.route c.requires.within (c.is_fixed-fixed.ensures.0 w.if-fixed.true) (own_low ∙ at_is) (own_high ∙ at_is)
      | else-fixed w ↦
          let not = not_fixed c.is_fixed-fixed.result c.is_fixed-fixed.ensures w.if-fixed.false in
          moving solids route k c.if-fixed.limits.low c.if-fixed.limits.high not (c.requires.stands not)
          (subst (λ (l : Limits). (z : ℤ) → MayStandAt solids route k z ↔ IsFromTo l.low l.high z) (sym w.limits-is) w.movable_limits-limits.ensures)
    ] in
    record {
      run = c.run-run.ensures;
      fixed = c.is_fixed-fixed.ensures;
      limits = simp to_z-of_z are.limits;
      weight = refl;
      member = simp to_z-of_z (record {
        lo = are.lo;
        hi = are.hi;
        want_low = omega (arith, ints, are.from, at_is);
        want_high = omega (arith, ints, are.to, at_is);
        weight_low = c.requires.route.weight_low;
        weight_high = c.requires.route.weight_high;
      });
    }
