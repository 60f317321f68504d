-- The lines of a scene are legal, one for each route.
use Rattle.std.proofs.Common.{◌≡◌, ℕ, ◌<◌, ◌≤◌, ℤ, List, Result, Ok, Err, map, length, subst, subst₂, ◌∙◌, arith}
use Rattle.std.specs.Prelude.{All, IfOk}
use Rattle.std.specs.declared.alloc.AllocError.{AllocError}
use Rattle.std.proofs.lemmas.Option.{slice_get_within}
use Rattle.plane_geom.specs.declared.point.Way.{Way}
use Rattle.plane_geom.specs.declared.rect.Solid.{Solid}
use Rattle.separation_model.specs.Bundle.{most_items}
use Rattle.plane_geom.specs.declared.point.Point.{Point}
use Rattle.walk_model.specs.declared.route.Answer.{Answer}
use Rattle.walk_model.specs.declared.route.Route.{Route}
use Rattle.walk_model.specs.declared.route.WrittenRoute.{WrittenRoute}
use Rattle.walk_model.specs.Legal.{IsLegal}
use Rattle.scene_model.specs.Answers.{AreAnswers}
use Rattle.scene_model.specs.Scene.{Scene}
use Rattle.scene_model.specs.Valid.{IsValid}
use Rattle.scene_model.specs.Routing.{solids}
use Rattle.channel_bundles.specs.declared.route.PhaseRoute.{PhaseRoute}
use Rattle.channel_bundles.specs.Route.{runs_of_way}
use Rattle.nudge_phases.specs.Apart.{KeepsApart}
use Rattle.nudge_phases.specs.Lines.{IsNudged, KeepsLegal}
use Rattle.nudge_phases.specs.Ready.{AreRaw}
use Rattle.nudge_phases.proofs.BothPhases.NudgedLegal.{nudged_is_apart, nudged_is_legal}
use Rattle.nudge_phases.specs.declared.routes.Nudged.{Nudged}
use Rattle.nudge_phases.specs.Ready.{HasLegalWalk}
use Rattle.nudge_phases.specs.Rising.{EdgesRise}
use Rattle.nudge_phases.proofs.RouteRuns.{some_read}
use Rattle.nudge_phases.specs.Nudged.{AreLegalNudgedLines, IsLegalNudgedLine, IsNudgedScene}
use Rattle.nudge_phases.specs.Raw.{AreRawRoutes, routed}
use Rattle.nudge_phases.proofs.Answered.{answered, few_answered, numbers_rise}
use Rattle.nudge_phases.proofs.RawReady.{AreGood, IsGoodRaw, all_good, all_legal, are_raw, edges_rise, few_enough}
use Rattle.nudge_phases.proofs.Zips.{zip_count, zip_from, zip_map, zip_read}

module _ (s : Scene) (answers : List Answer) (raw : List PhaseRoute) (nudge : ℤ) (lines : List WrittenRoute) (good : AreGood s (routed answers) raw) (nudged : IsNudged (solids s) raw nudge lines) where
  as_many : length (routed answers) ≡ length lines
  as_many =
      let a = zip_count (λ p r. IsGoodRaw s p.0 p.1 r) (routed answers) raw good in
      let b = nudged.count in let d = nudged.y.count in let e = nudged.x.count in omega (arith, a, b, d, e)

  pub lines_legal : KeepsLegal (solids s) raw lines → AreLegalNudgedLines s answers lines
  lines_legal keeps = zip_from (λ p line. IsLegalNudgedLine s p.0 p.1 line) (routed answers) lines as_many
      (λ k p line at_p at_line.
      let count = zip_count (λ p r. IsGoodRaw s p.0 p.1 r) (routed answers) raw good in
      let r = some_read raw k (let h = slice_get_within (routed answers) k p at_p in omega (arith, h, count)) in
      let is = zip_read (λ p r. IsGoodRaw s p.0 p.1 r) (routed answers) raw k p r.0 good at_p r.1 in
      let has = is.legal in
      let kept = keeps k r.0 line r.1 at_line has.start has.end has.is_start has.is_end has.source has.target has.legal in
      record {
        edge = is.connector;
        is_edge = is.known;
        walk = kept.0;
        draws = kept.1;
        legal = record {
          start = has.start;
          end = has.end;
          is_start = is.is_start;
          is_end = is.is_end;
          legal = subst (λ (via : List Point). IsLegal (solids s) via has.start kept.0 has.end) is.via kept.2;
        };
      })

  pub line_edges : map (λ (l : WrittenRoute). l.edge) lines ≡ map (λ (p : ℕ × Route). p.0) (routed answers)
  line_edges = zip_map (λ (p : ℕ × Route). p.0) (λ (l : WrittenRoute). l.edge) (routed answers) lines
      (zip_from (λ (p : ℕ × Route) (l : WrittenRoute). l.edge ≡ p.0) (routed answers) lines as_many
      (λ k p line at_p at_line.
      let count = zip_count (λ p r. IsGoodRaw s p.0 p.1 r) (routed answers) raw good in
      let in_raw : k < length raw = (let h = slice_get_within (routed answers) k p at_p in omega (arith, h, count)) in
      let r = some_read raw k in_raw in
      let x = some_read nudged.after_x k (let n = nudged.x.count in omega (arith, in_raw, n)) in
      let y = some_read nudged.after_y k (let n = nudged.x.count in let m = nudged.y.count in omega (arith, in_raw, n, m)) in
      let is = zip_read (λ p r. IsGoodRaw s p.0 p.1 r) (routed answers) raw k p r.0 good at_p r.1 in
      (nudged.written k y.0 line y.1 at_line).edge ∙ (nudged.y.moved k x.0 y.0 x.1 y.1).edge ∙ (nudged.x.moved k r.0 x.0 r.1 x.1).edge ∙ is.edge))

module _ (s : Scene) (answers : List Answer) (v : IsValid s) (are : AreAnswers s answers) where
  pub good_raws : (raw : List PhaseRoute) → AreRawRoutes s answers raw → AreGood s (routed answers) raw
  good_raws raw zip = all_good s (routed answers) raw v (answered s answers v are) zip

  pub raw_are : (raw : List PhaseRoute) → AreRawRoutes s answers raw → AreRaw raw
  raw_are raw zip = are_raw s (routed answers) raw (good_raws raw zip) (numbers_rise s answers v are)

  pub raw_rise : (raw : List PhaseRoute) → AreRawRoutes s answers raw → EdgesRise raw
  raw_rise raw zip = edges_rise s (routed answers) raw (good_raws raw zip) (numbers_rise s answers v are)

  pub raw_legal : (raw : List PhaseRoute) → AreRawRoutes s answers raw → All (HasLegalWalk (solids s)) raw
  raw_legal raw zip = all_legal s (routed answers) raw (good_raws raw zip) (numbers_rise s answers v are)

  pub raw_few : (raw : List PhaseRoute) → AreRawRoutes s answers raw → (way : Way) → length (runs_of_way way raw) ≤ most_items
  raw_few raw zip = few_enough s (routed answers) raw (good_raws raw zip) (numbers_rise s answers v are) (few_answered s answers v are)

  abbrev pub IsOf : Nudged → Type 0
  IsOf n = IsNudgedScene s answers n.routes.items

  pub scene_apart : (lines : List WrittenRoute) (p : IsNudgedScene s answers lines) → KeepsApart p.nudged.x × KeepsApart p.nudged.y
  scene_apart lines p = nudged_is_apart (solids s) p.raw s.settings.nudge lines p.nudged (raw_are p.raw p.are_raw)

  pub scene_legal : (lines : List WrittenRoute) → IsNudgedScene s answers lines → AreLegalNudgedLines s answers lines
  scene_legal lines p =
      lines_legal s answers p.raw s.settings.nudge lines (good_raws p.raw p.are_raw) p.nudged
      (nudged_is_legal (solids s) p.raw s.settings.nudge lines p.nudged (raw_are p.raw p.are_raw))

  pub apart : (r : Result Nudged AllocError) → IfOk r (λ n. (p : IsOf n) → KeepsApart p.nudged.x × KeepsApart p.nudged.y)
  apart (Ok n) = scene_apart n.routes.items
  apart (Err e) = tt

  -- the result for the raw routes is what is promised of the scene
  pub made : (r : Result Nudged AllocError) (floor : List Solid) (raw : List PhaseRoute) (nudge : ℤ) → floor ≡ solids s → nudge ≡ s.settings.nudge → AreRawRoutes s answers raw →
      IfOk r (λ n. IsNudged floor raw nudge n.routes.items) → IfOk r IsOf
  made (Ok n) floor raw nudge e f zip is = record {
    raw = raw;
    are_raw = zip;
    nudged = subst₂ (λ fs z. IsNudged fs raw z n.routes.items) e f is;
  }
  made (Err x) floor raw nudge e f zip is = tt

  pub legal : (r : Result Nudged AllocError) → IfOk r IsOf → IfOk r (λ n. AreLegalNudgedLines s answers n.routes.items)
  legal (Ok n) p = scene_legal n.routes.items p
  legal (Err e) p = tt

  pub edges : (r : Result Nudged AllocError) → IfOk r IsOf → IfOk r (λ n. map (λ (l : WrittenRoute). l.edge) n.routes.items ≡ map (λ (p : ℕ × Route). p.0) (routed answers))
  edges (Ok n) p = line_edges s answers p.raw s.settings.nudge n.routes.items (good_raws p.raw p.are_raw) p.nudged
  edges (Err e) p = tt
