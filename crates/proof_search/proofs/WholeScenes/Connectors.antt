-- The connectors of a scene are problems on its graph, and are proved one after another.
use Rattle.std.proofs.Common.{
  ◌≡◌,
  ◌≢◌,
  ℕ,
  zero,
  suc,
  ◌+◌,
  ◌<◌,
  ◌≤◌,
  ◌==◌,
  Bool,
  true,
  false,
  cond,
  not,
  Option,
  Some,
  Result,
  Ok,
  Err,
  Vec,
  Global,
  List,
  [],
  ◌∷◌,
  ◌++◌,
  Contains,
  take,
  filter,
  length,
  get_or,
  refl,
  sym,
  ap,
  subst,
  ◌∙◌,
  arith,
  eq-eqb,
}
use Rattle.std.specs.Prelude.{IfOk, find, slice_get}
use Rattle.std.specs.List.{AllZip}
use Rattle.std.proofs.lemmas.Bool.Decides.{Decides-int_eq, nat_tests}
use Rattle.std.proofs.lemmas.List.{append-nil}
use Rattle.std.proofs.lemmas.List.Elements.{All-from_recursion, filter_more}
use Rattle.std.proofs.lemmas.Option.{get_or_from_slice_get, none-some, same_Some, slice_get_within}
use Rattle.line_arena.specs.Arena.{Arena, IsArena}
use Rattle.line_arena.specs.Stands.{StandsFor}
use Rattle.move_model.specs.Problems.{IsProblem}
use Rattle.scene_model.specs.Routing.{floor_of, solids, task_of}
use Rattle.scene_model.specs.Scene.{Scene, connectors, edge_with, is_loop}
use Rattle.scene_model.specs.Valid.{IsValid}
use Rattle.scene_model.specs.declared.edge.Edge.{Edge}
use Rattle.scene_model.proofs.Editing.Entries.{Pairs, pairs_from}
use Rattle.scene_model.proofs.ForRouting.Floors.{floors_fit, floors_hold_tasks}
use Rattle.proof_model.specs.declared.proof.Proof.{Proof}
use Rattle.proof_model.specs.LeastLabels.{IsLeastProof}
use Rattle.proof_model.specs.Scenes.{IsProofOf, ProveScene}
use Rattle.proof_model.proofs.LeastLabels.{prove_claim}
use Rattle.proof_search.specs.Provers.{HasSpots, IsLeastFor}
use Rattle.proof_search.specs.declared.prover.Prover.{Prover}

-- ---- the edge at a place

-- what stands at a place
pub record IsAt {X : Type 0} (xs : List X) (k : ℕ) (x : X) : Type 0 where
  pub within : k < length xs
  pub here : get_or xs k x ≡ x

pub at_place : {X : Type 0} (xs : List X) (k : ℕ) (x : X) → slice_get xs k ≡ Some x → IsAt xs k x
at_place xs k x is = record { within = slice_get_within xs k x is; here = get_or_from_slice_get xs k x x is }

found_later : (b : Bool) (d e : Edge) (o : Option Edge) → (d.number == e.number) ≡ b → d.number < e.number → o ≡ Some e → cond b (Some d) o ≡ Some e
found_later true d e o test below is = absurd (grind (arith, nat_tests, test, below))
found_later false d e o test below is = is

found_at : (es : List Edge) (k : ℕ) (e : Edge) → Pairs (λ d e. d.number < e.number) es → slice_get es k ≡ Some e → find (λ d. d.number == e.number) es ≡ Some e
found_at [] k e rise is = absurd (none-some e is)
found_at (d ∷ ds) zero e rise is =
    let same : d ≡ e = same_Some d e is in
    ap (λ b. cond b (Some d) (find (λ f. f.number == e.number) ds)) (eq-eqb d.number e.number (ap (λ (f : Edge). f.number) same)) ∙ ap Some same
found_at (d ∷ ds) (suc k) e rise is =
    let at = at_place ds k e is in
    let below : d.number < e.number = subst (λ (f : Edge). d.number < f.number) at.here
    (All-from_recursion (λ (f : Edge). d.number < f.number) ds rise.0 k e at.within) in
    found_later (d.number == e.number) d e (find (λ f. f.number == e.number) ds) refl below (found_at ds k e rise.1 is)

pub edge_found : (s : Scene) (k : ℕ) (e : Edge) → IsValid s → slice_get s.edges k ≡ Some e → edge_with s e.number ≡ Some e
edge_found s k e valid is = found_at s.edges k e (pairs_from (λ d e. d.number < e.number) s.edges valid.numbers_rise) is

-- ---- the connectors so far

abbrev pub connects : Edge → Bool
connects e = not (is_loop e)

connects_by : (e : Edge) (b : Bool) → is_loop e ≡ b → e.from ≢ e.to → not b ≡ true
connects_by e true is differ = absurd (differ ((Decides-int_eq e.from e.to).0 is))
connects_by e false is differ = refl

zipped_push : {X Y : Type 0} (R : X → Y → Type 0) (xs : List X) (ys : List Y) (x : X) (y : Y) → AllZip R xs ys → R x y → AllZip R (xs ++ x ∷ []) (ys ++ y ∷ [])
zipped_push R [] [] x y zipped here = (here, tt)
zipped_push R [] (b ∷ bs) x y zipped here = absurd zipped
zipped_push R (a ∷ xs) [] x y zipped here = absurd zipped
zipped_push R (a ∷ xs) (b ∷ bs) x y zipped here = (zipped.0, zipped_push R xs bs x y zipped.1 here)

module _ (R : Edge → Proof → Type 0) (es : List Edge) (k : ℕ) (e : Edge) (at : IsAt es k e) (ps : List Proof)
    (so_far : AllZip R (filter connects (take k es)) ps) where
  one_more : (b : Bool) → connects e ≡ b → filter connects (take (k + 1) es) ≡ filter connects (take k es) ++ cond b (e ∷ []) []
  one_more b is =
      filter_more connects es k e at.within
      ∙ ap (λ d. filter connects (take k es) ++ cond (connects d) (d ∷ []) []) at.here
      ∙ ap (λ c. filter connects (take k es) ++ cond c (e ∷ []) []) is

  -- one connector more
  pub zipped_more : e.from ≢ e.to → (p : Proof) → R e p → AllZip R (filter connects (take (k + 1) es)) (ps ++ p ∷ [])
  zipped_more differ p here =
      subst (λ ds. AllZip R ds (ps ++ p ∷ [])) (sym (one_more true (connects_by e (is_loop e) refl differ)))
      (zipped_push R (filter connects (take k es)) ps e p so_far here)

  -- a loop has no proof
  pub zipped_past : e.from ≡ e.to → AllZip R (filter connects (take (k + 1) es)) ps
  zipped_past same =
      subst (λ ds. AllZip R ds ps) (sym (one_more false (ap not ((Decides-int_eq e.from e.to).1 same)) ∙ append-nil (filter connects (take k es)))) so_far

-- ---- their proofs

-- the connectors among the first edges have one proof each, and the prover is ready for the next one
pub record IsProvedUpto (s : Scene) (initial now : Prover) (proofs : List Proof) (place : ℕ) : Type 0 where
  pub proved : AllZip (IsLeastProof s) (filter connects (take place s.edges)) proofs
  pub within : place ≤ length s.edges
  pub arena : now.finder.arena.now ≡ initial.finder.arena.now
  pub solids : now.finder.solids.now ≡ initial.finder.solids.now
  pub spots : HasSpots now

-- a connector of a valid scene is a problem on the arena of its floor
pub is_problem : (s : Scene) (e : Edge) (a : Arena) → IsValid s → Contains (connectors s) e → StandsFor (floor_of s) a
    → IsProblem (floor_of s) a (solids s) (task_of s e)
is_problem s e a valid listed stands =
    let holds = floors_hold_tasks s e valid listed in
    record {
      same_solids = refl;
      stands = stands;
      is_floor = floors_fit s valid;
      is_task = holds.task.is_task;
      is_floor_of = holds.floor;
    }

pub least_proof : {E : Type 0} (s : Scene) (e : Edge) (a : Arena) → IsValid s → Contains (connectors s) e → StandsFor (floor_of s) a → (r : Result Proof E)
    → IfOk r (λ p. p.edge ≡ e.number) → IfOk r (IsLeastFor a (solids s) (task_of s e)) → IfOk r (IsLeastProof s e)
least_proof s e a valid listed stands (Err x) edge least = tt
least_proof s e a valid listed stands (Ok p) edge least = record {
  edge = edge;
  claim = least.claim;
  labels = least.labels (floor_of s) (is_problem s e a valid listed stands);
}

-- ---- least proofs prove

module _ (s : Scene) (a : Arena) (valid : IsValid s) (arena : IsArena a) (stands : StandsFor (floor_of s) a) where
  is_proof : (e : Edge) (p : Proof) → Contains (connectors s) e → IsLeastProof s e p → IsProofOf s e p
  is_proof e p listed least =
      let on = is_problem s e a valid listed stands in
      record {
        edge = least.edge;
        proves = prove_claim (floor_of s) a arena stands (task_of s e) on.is_task on.is_floor on.is_floor_of p.rows p.claim least.claim least.labels;
      }

  prove_over : (es : List Edge) (ps : List Proof) → ((e : Edge) → Contains es e → Contains (connectors s) e) → AllZip (IsLeastProof s) es ps
      → AllZip (IsProofOf s) es ps
  prove_over [] [] within h = tt
  prove_over [] (p ∷ ps) within h = h
  prove_over (e ∷ es) [] within h = h
  prove_over (e ∷ es) (p ∷ ps) within h =
      (is_proof e p (within e (0, omega arith, refl)) h.0, prove_over es ps (λ d has. within d (suc has.0, omega (arith, has.1), has.2)) h.1)

  pub all_prove : {E : Type 0} (r : Result (Vec Proof Global) E) → IfOk r (λ v. AllZip (IsLeastProof s) (connectors s) v.items)
      → IfOk r (λ v. ProveScene s v.items)
  all_prove (Ok v) h = prove_over (connectors s) v.items (λ e has. has) h
  all_prove (Err e) h = tt
