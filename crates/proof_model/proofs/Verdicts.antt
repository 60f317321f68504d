-- An audit has one answer at most.
use Rattle.std.proofs.Common.{◌≡◌, ℕ, suc, List, [], ◌∷◌, refl, sym, ◌∙◌, inl, inr, Contains, arith}
use Rattle.std.specs.List.{AllZip}
use Rattle.plane_geom.specs.declared.floor.Floor.{Floor}
use Rattle.line_arena.specs.Arena.{Arena, IsArena}
use Rattle.line_arena.specs.Stands.{StandsFor}
use Rattle.walk_model.specs.declared.task.Task.{Task}
use Rattle.scene_model.specs.declared.edge.Edge.{Edge}
use Rattle.scene_model.specs.Scene.{Scene, connectors}
use Rattle.scene_model.specs.Routing.{floor_of, task_of}
use Rattle.scene_model.specs.Valid.{IsValid}
use Rattle.scene_model.proofs.ForRouting.Floors.{floors_hold_tasks}
use Rattle.proof_model.specs.declared.proof.Claim.{Claim}
use Rattle.proof_model.specs.declared.proof.LabelRow.{LabelRow}
use Rattle.proof_model.specs.declared.proof.Proof.{Proof}
use Rattle.proof_model.specs.Rules.{BreaksFirst, by_rows, by_line, by_entries, by_moves, by_endings, Proves}
use Rattle.proof_model.specs.Scenes.{FailsAt, by_edge, by_rule, FailsFirst, HoldsClaim, IsProofOf}
use Rattle.proof_model.proofs.Least.{claim_holds}

module _ (floor : Floor) (task : Task) (claim : Claim) (rows : List LabelRow) where
  -- the least rule that fails is one
  one_rule : (r s : ℕ) → BreaksFirst floor task claim rows r → BreaksFirst floor task claim rows s → r ≡ s
  one_rule r s (by_rows n1 e) (by_rows n2 f) = e ∙ sym f
  one_rule r s (by_rows n1 e) (by_line a2 n2 f) = absurd (n1 a2)
  one_rule r s (by_rows n1 e) (by_entries a2 b2 n2 f) = absurd (n1 a2)
  one_rule r s (by_rows n1 e) (by_moves a2 b2 c2 n2 f) = absurd (n1 a2)
  one_rule r s (by_rows n1 e) (by_endings a2 b2 c2 d2 n2 f) = absurd (n1 a2)
  one_rule r s (by_line a1 n1 e) (by_rows n2 f) = absurd (n2 a1)
  one_rule r s (by_line a1 n1 e) (by_line a2 n2 f) = e ∙ sym f
  one_rule r s (by_line a1 n1 e) (by_entries a2 b2 n2 f) = absurd (n1 b2)
  one_rule r s (by_line a1 n1 e) (by_moves a2 b2 c2 n2 f) = absurd (n1 b2)
  one_rule r s (by_line a1 n1 e) (by_endings a2 b2 c2 d2 n2 f) = absurd (n1 b2)
  one_rule r s (by_entries a1 b1 n1 e) (by_rows n2 f) = absurd (n2 a1)
  one_rule r s (by_entries a1 b1 n1 e) (by_line a2 n2 f) = absurd (n2 b1)
  one_rule r s (by_entries a1 b1 n1 e) (by_entries a2 b2 n2 f) = e ∙ sym f
  one_rule r s (by_entries a1 b1 n1 e) (by_moves a2 b2 c2 n2 f) = absurd (n1 c2)
  one_rule r s (by_entries a1 b1 n1 e) (by_endings a2 b2 c2 d2 n2 f) = absurd (n1 c2)
  one_rule r s (by_moves a1 b1 c1 n1 e) (by_rows n2 f) = absurd (n2 a1)
  one_rule r s (by_moves a1 b1 c1 n1 e) (by_line a2 n2 f) = absurd (n2 b1)
  one_rule r s (by_moves a1 b1 c1 n1 e) (by_entries a2 b2 n2 f) = absurd (n2 c1)
  one_rule r s (by_moves a1 b1 c1 n1 e) (by_moves a2 b2 c2 n2 f) = e ∙ sym f
  one_rule r s (by_moves a1 b1 c1 n1 e) (by_endings a2 b2 c2 d2 n2 f) = absurd (n1 d2)
  one_rule r s (by_endings a1 b1 c1 d1 n1 e) (by_rows n2 f) = absurd (n2 a1)
  one_rule r s (by_endings a1 b1 c1 d1 n1 e) (by_line a2 n2 f) = absurd (n2 b1)
  one_rule r s (by_endings a1 b1 c1 d1 n1 e) (by_entries a2 b2 n2 f) = absurd (n2 c1)
  one_rule r s (by_endings a1 b1 c1 d1 n1 e) (by_moves a2 b2 c2 n2 f) = absurd (n2 d1)
  one_rule r s (by_endings a1 b1 c1 d1 n1 e) (by_endings a2 b2 c2 d2 n2 f) = e ∙ sym f

  -- and none fails where all hold
  no_rule : (r : ℕ) → Proves floor task claim rows → BreaksFirst floor task claim rows r → ⊥
  no_rule r p (by_rows n e) = n p.right_rows
  no_rule r p (by_line a n e) = n p.shown
  no_rule r p (by_entries a b n e) = n p.entries
  no_rule r p (by_moves a b c n e) = n p.moves
  no_rule r p (by_endings a b c d n e) = n p.endings

module _ (s : Scene) where
  one_at : (e : Edge) (p : Proof) (q r : ℕ) → FailsAt s e p q → FailsAt s e p r → q ≡ r
  one_at e p q r (by_edge n f) (by_edge m g) = f ∙ sym g
  one_at e p q r (by_edge n f) (by_rule m g) = absurd (n m)
  one_at e p q r (by_rule m g) (by_edge n f) = absurd (n m)
  one_at e p q r (by_rule m g) (by_rule n h) = one_rule (floor_of s) (task_of s e) p.claim p.rows q r g h

  none_at : (e : Edge) (p : Proof) (r : ℕ) → IsProofOf s e p → FailsAt s e p r → ⊥
  none_at e p r is (by_edge n f) = n is.edge
  none_at e p r is (by_rule m g) = no_rule (floor_of s) (task_of s e) p.claim p.rows r is.proves g

  pub no_failure : (es : List Edge) (ps : List Proof) (edge rule : ℕ) → AllZip (IsProofOf s) es ps → FailsFirst s es ps edge rule → ⊥
  no_failure [] [] edge rule a f = f
  no_failure [] (p ∷ ps) edge rule a f = a
  no_failure (e ∷ es) [] edge rule a f = a
  no_failure (e ∷ es) (p ∷ ps) edge rule a (inl f) = none_at e p rule a.0 f.1
  no_failure (e ∷ es) (p ∷ ps) edge rule a (inr f) = no_failure es ps edge rule a.1 f.1

  pub one_failure : (es : List Edge) (ps : List Proof) (d e q r : ℕ) → FailsFirst s es ps d q → FailsFirst s es ps e r → (d ≡ e) × (q ≡ r)
  one_failure [] [] d e q r f g = absurd f
  one_failure [] (p ∷ ps) d e q r f g = (f.0 ∙ sym g.0, f.1 ∙ sym g.1)
  one_failure (b ∷ es) [] d e q r f g = (f.0 ∙ sym g.0, f.1 ∙ sym g.1)
  one_failure (b ∷ es) (p ∷ ps) d e q r (inl f) (inl g) = (f.0 ∙ sym g.0, one_at b p q r f.1 g.1)
  one_failure (b ∷ es) (p ∷ ps) d e q r (inl f) (inr g) = absurd (none_at b p q g.0 f.1)
  one_failure (b ∷ es) (p ∷ ps) d e q r (inr f) (inl g) = absurd (none_at b p r f.0 g.1)
  one_failure (b ∷ es) (p ∷ ps) d e q r (inr f) (inr g) = one_failure es ps d e q r f.1 g.1

  module _ (a : Arena) (arena : IsArena a) (stands : StandsFor (floor_of s) a) (valid : IsValid s) where
    hold_over : (es : List Edge) (ps : List Proof) → ((e : Edge) → Contains es e → Contains (connectors s) e) → AllZip (IsProofOf s) es ps →
        AllZip (HoldsClaim s) es ps
    hold_over [] [] within h = tt
    hold_over [] (p ∷ ps) within h = h
    hold_over (e ∷ es) [] within h = h
    hold_over (e ∷ es) (p ∷ ps) within h =
        let on = floors_hold_tasks s e valid (within e (0, omega arith, refl)) in (
          record { edge = h.0.edge; true_claim = claim_holds (floor_of s) a arena stands (task_of s e) on.task.is_task on.floor p.rows p.claim h.0.proves },
          hold_over es ps (λ d has. within d (suc has.0, omega (arith, has.1), has.2)) h.1,
        )

    pub claims_hold : (ps : List Proof) → AllZip (IsProofOf s) (connectors s) ps → AllZip (HoldsClaim s) (connectors s) ps
    claims_hold ps h = hold_over (connectors s) ps (λ e has. has) h
