-- A choice fits the steps at an end of a line where its stub does.
use Rattle.std.proofs.Common.{◌≡◌, ℕ, suc, ◌-◌, ◌<◌, ◌≤◌, min, List, [], ◌∷◌, length, get_or, unwrap_or, slice_get, refl, sym, ap, ◌∙◌, inl, inr, arith, All}
use Rattle.std.proofs.lemmas.Bool.{cases_lt}
use Rattle.std.proofs.lemmas.List.{take_all}
use Rattle.std.proofs.lemmas.Option.{unwrap_or-slice_get}
use Rattle.plane_geom.specs.declared.point.Point.{Point}
use Rattle.plane_geom.specs.Point.{PointIsOnSheet, opposite}
use Rattle.walk_model.specs.declared.task.Choice.{Choice}
use Rattle.walk_model.specs.Walk.{Walk, after, end_of}
use Rattle.walk_model.specs.Choice.{stub_length, IsChoice}
use Rattle.walk_model.specs.Legal.{Leaves, Arrives}
use Rattle.walk_model.specs.Line.{AreStraight, steps_through, walk_through}
use Rattle.route_check.specs.declared.run.Run.{Run}
use Rattle.route_check.specs.Run.{IsFirstRun, IsLastRun}
use Rattle.route_check.specs.Choices.{FitsRun}
use Rattle.route_check.proofs.Segments.Corners.{at_each, at_end}
use Rattle.route_check.proofs.OneVerdict.Stubs.{opposite-opposite, leaves_within, leaves_step, leaves_from, arrives_within, arrives_step, arrives_from}

-- a walk begins with a stub exactly where the stub fits its first run
module _ (w : Walk) (run : Run) (is : IsFirstRun w run) (c : Choice) where
  pub fits_leaves : FitsRun w.start run.heading run.length c → Leaves w c
  fits_leaves f = leaves_from w c (sym f.pin) (omega (arith, f.short, is.within)) (λ k h. is.straight k (omega (arith, f.short)) ∙ sym f.dir)

  pub leaves_fits : IsChoice c → Leaves w c → FitsRun w.start run.heading run.length c
  leaves_fits choice l =
      let within = leaves_within w c l in
      let dir : c.dir ≡ run.heading = sym (leaves_step w c l 0 choice.apart) ∙ is.straight 0 (is.some (omega (arith, choice.apart))) in
      record {
        pin = sym l.pin;
        dir = dir;
        short = elim (cases_lt run.length (stub_length c)) as (λ _. stub_length c ≤ run.length)
            [ inl less ↦ absurd (is.whole (omega arith) (leaves_step w c l run.length less ∙ dir)) | inr room ↦ room ];
      }

-- a walk ends with a reversed stub exactly where the stub fits its last run
module _ (w : Walk) (run : Run) (is : IsLastRun w (length w.steps) run) (c : Choice) (left : ℕ) where
  pub fits_arrives : FitsRun (end_of w) (opposite run.heading) (min run.length left) c → Arrives w c × (stub_length c ≤ left)
  fits_arrives f =
      let back : run.heading ≡ opposite c.dir = sym (opposite-opposite run.heading) ∙ ap opposite (sym f.dir) in
      (arrives_from w c (sym f.pin) (omega (arith, f.short, is.within)) (λ k low high. is.straight k (omega (arith, f.short)) high ∙ back), omega (arith, f.short))

  pub arrives_fits : IsChoice c → Arrives w c × (stub_length c ≤ left) → FitsRun (end_of w) (opposite run.heading) (min run.length left) c
  arrives_fits choice (a, room) =
      let within = arrives_within w c a in
      let last : 0 < length w.steps = omega (arith, choice.apart) in
      let heading : run.heading ≡ opposite c.dir =
      sym (is.straight (length w.steps - 1) (omega (arith, is.some last)) (omega arith)) ∙ arrives_step w c a (length w.steps - 1) (omega (arith, choice.apart)) (omega arith) in
      let long : stub_length c ≤ run.length = elim (cases_lt run.length (stub_length c)) as (λ _. stub_length c ≤ run.length)
      [ inl less ↦ absurd (is.whole (omega arith) (arrives_step w c a (length w.steps - run.length - 1) (omega arith) (omega arith) ∙ sym heading)) | inr enough ↦ enough ] in
      record { pin = sym a.pin; dir = sym (opposite-opposite c.dir) ∙ ap opposite (sym heading); short = omega arith }

-- the last corner of a line is the last point of its walk
last_corner : (first : Point) (rest : List Point) → get_or (first ∷ rest) (length rest) first ≡ unwrap_or (slice_get rest (length rest - 1)) first
last_corner first [] = refl
last_corner first (q ∷ qs) = let e : suc (length qs) - 1 ≡ length qs = omega arith in rw e (sym (unwrap_or-slice_get (q ∷ qs) (length qs) first))

pub end_is_last : (first : Point) (rest : List Point) → AreStraight first rest → PointIsOnSheet first → All PointIsOnSheet rest → end_of (walk_through first rest) ≡ unwrap_or (slice_get rest (length rest - 1)) first
end_is_last first rest straight begin on =
    let (k, p, at) = at_each first rest straight begin on (length rest) (omega arith) in
    ap (after first) (sym (take_all k (steps_through first rest) (omega (arith, at_end first rest (length rest) k p at (omega arith)))))
    ∙ at.stands.at ∙ sym at.here ∙ last_corner first rest
