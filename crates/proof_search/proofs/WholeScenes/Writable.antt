-- Proofs that prove a scene can be written as text.
use Rattle.std.proofs.Common.{◌≡◌, ℕ, suc, ◌^◌, ◌<◌, ◌≤◌, Option, None, Some, Result, Ok, Err, Vec, Global, List, [], ◌∷◌, Contains, length, get_or, not, refl, arith}
use Rattle.std.specs.Prelude.{IfOk}
use Rattle.std.specs.List.{AllZip}
use Rattle.std.proofs.lemmas.Int.{ints}
use Rattle.std.proofs.lemmas.List.Elements.{All-contains, All-contains_itself, All-filter, recursion_from_All}
use Rattle.plane_geom.specs.declared.point.Point.{Point}
use Rattle.plane_geom.specs.declared.point.Dir.TheVariants.{East, South, West, North}
use Rattle.plane_geom.specs.Point.{PointIsOnSheet}
use Rattle.line_arena.specs.Arena.{Arena, IsArena}
use Rattle.line_arena.specs.Stands.{StandsFor}
use Rattle.walk_model.specs.declared.task.Task.{Task}
use Rattle.move_model.proofs.GoingOn.Rests.{crossing_on_sheet}
use Rattle.scene_model.specs.Routing.{floor_of, task_of}
use Rattle.scene_model.specs.Scene.{Scene, connectors, is_loop}
use Rattle.scene_model.specs.Valid.{IsEdge, IsValid}
use Rattle.scene_model.specs.declared.edge.Edge.{Edge}
use Rattle.proof_model.specs.declared.proof.Claim.{Claim}
use Rattle.proof_model.specs.declared.proof.Claim.TheVariants.{Cost, Cut}
use Rattle.proof_model.specs.declared.proof.LabelRow.{LabelRow}
use Rattle.proof_model.specs.declared.proof.Proof.{Proof}
use Rattle.proof_model.specs.Rules.{IsRow, IsShown}
use Rattle.proof_model.specs.Scenes.{IsProofOf, ProveScene}
use Rattle.proof_model.proofs.Bridge.{crossing_at}
use Rattle.proof_text.specs.Text.{AreWritable, IsWritable, IsWritableClaim, IsWritableLabel, IsWritablePoint, IsWritableRow}

writable_point : (p : Point) → PointIsOnSheet p → IsWritablePoint p
writable_point p h = record { x = omega (arith, ints, h.x.low, h.x.high); y = omega (arith, ints, h.y.low, h.y.high) }

writable_label : (o : Option ℕ) → ((n : ℕ) → o ≡ Some n → n < 10 ^ 18) → IsWritableLabel o
writable_label None small = tt
writable_label (Some n) small = small n refl

module _ (s : Scene) (a : Arena) (valid : IsValid s) (arena : IsArena a) (stands : StandsFor (floor_of s) a) where
  writable_row : (task : Task) (claim : Claim) (r : LabelRow) → length task.via ≤ 4 → IsRow (floor_of s) task claim r → IsWritableRow r
  writable_row task claim r few h =
      let at = crossing_at (floor_of s) a arena stands r.at h.crossing in
      record {
        stage = omega (arith, h.stage, few);
        at = writable_point r.at (crossing_on_sheet (floor_of s) a at.0 r.at arena stands at.1);
        east = writable_label r.east (h.small East);
        south = writable_label r.south (h.small South);
        west = writable_label r.west (h.small West);
        north = writable_label r.north (h.small North);
      }

  writable_claim : (task : Task) (claim : Claim) → IsShown (floor_of s) task claim → IsWritableClaim claim
  writable_claim task Cut h = tt
  writable_claim task (Cost cost points) h = (
    h.small,
    recursion_from_All IsWritablePoint points
        (λ k d lt. writable_point (get_or points k d) (h.polyline.within k d lt)),
  )

  writable : (e : Edge) (p : Proof) → Contains s.edges e → IsProofOf s e p → IsWritable p
  writable e p listed h =
      let number = All-contains (λ (d : Edge). d.number < s.next_edge) s.edges e valid.below_next listed in
      let few = (All-contains (IsEdge s) s.edges e valid.edges listed).few_via in
      record {
        edge = omega (arith, h.edge, number, valid.next);
        claim = writable_claim (task_of s e) p.claim h.proves.shown;
        rows = recursion_from_All IsWritableRow p.rows (λ k d lt. writable_row (task_of s e) p.claim (get_or p.rows k d) few (h.proves.right_rows.each k d lt));
      }

  all_writable : (es : List Edge) (ps : List Proof) → ((e : Edge) → Contains es e → Contains s.edges e) → AllZip (IsProofOf s) es ps → AreWritable ps
  all_writable [] [] within h = tt
  all_writable [] (p ∷ ps) within h = absurd h
  all_writable (e ∷ es) [] within h = tt
  all_writable (e ∷ es) (p ∷ ps) within h =
      (writable e p (within e (0, omega arith, refl)) h.0, all_writable es ps (λ d has. within d (suc has.0, omega (arith, has.1), has.2)) h.1)

  pub proofs_writable : {E : Type 0} (r : Result (Vec Proof Global) E) → IfOk r (λ v. ProveScene s v.items) → IfOk r (λ v. AreWritable v.items)
  proofs_writable (Ok v) h = all_writable (connectors s) v.items (λ e has. All-contains (Contains s.edges) (connectors s) e
      (All-filter (λ d. not (is_loop d)) (Contains s.edges) s.edges (All-contains_itself s.edges)) has) h
  proofs_writable (Err e) h = tt
