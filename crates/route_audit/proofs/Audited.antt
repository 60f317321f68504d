-- The audit of the connectors and the proofs that are left decides that of all.
use Rattle.std.proofs.Common.{◌≡◌, ◌≢◌, ℕ, zero, suc, ◌+◌, ◌<◌, ◌≤◌, Bor, Bool, ◌==◌, true, false, None, Some, List, [], ◌∷◌, length, drop, not, refl}
use Rattle.std.proofs.Common.{sym, ap, subst}
use Rattle.std.proofs.Common.{◌∙◌, arith, cond, inl, inr, add-one, drop-cons, Option, Result, Ok, Err}
use Rattle.std.specs.Prelude.{Contains, IsErrAnd, IsSomeAnd, option_copied, MatchOption, filter, find, slice_get}
use Rattle.std.specs.List.{AllZip, AllByRecursion as Each}
use Rattle.std.proofs.lemmas.Bool.Decides.{Decides-eqb, Decides-int_eq}
use Rattle.std.specs.Slice.{IsItemAt}
use Rattle.std.proofs.lemmas.List.{drop_all, length-drop}
use Rattle.std.proofs.lemmas.Option.{get_or_from_slice_get, slice_get_past, slice_get_read, slice_get_within, none-some, same_Some}
use Rattle.plane_geom.specs.declared.floor.Floor.{Floor}
use Rattle.plane_geom.specs.declared.rect.Solid.{Solid}
use Rattle.line_arena.specs.Arena.{Arena}
use Rattle.line_arena.specs.Stands.{StandsFor}
use Rattle.walk_model.specs.declared.task.Task.{Task}
use Rattle.walk_model.specs.Floors.{IsFloorOf}
use Rattle.walk_model.specs.Legal.{IsTask}
use Rattle.move_model.specs.Problems.{IsProblem}
use Rattle.scene_model.specs.declared.edge.Edge.{Edge}
use Rattle.scene_model.specs.Scene.{Scene, connectors, is_loop}
use Rattle.scene_model.specs.Routing.{floor_of, task_of}
use Rattle.scene_model.specs.Valid.{IsValid}
use Rattle.scene_model.proofs.Editing.Entries.{Pairs, pairs_from}
use Rattle.scene_model.proofs.ForRouting.Floors.{floors_fit, floors_hold_tasks}
use Rattle.proof_model.specs.declared.proof.Proof.{Proof}
use Rattle.proof_model.specs.Rules.{BreaksFirst, Proves}
use Rattle.proof_model.specs.Scenes.{FailsAt, by_rule, FailsFirst, IsProofOf, ProveScene}
use Rattle.route_audit.specs.declared.fault.AuditFault.{AuditFault}
use Rattle.route_audit.specs.declared.fault.AuditFault.TheVariants.{No, Memory}
use Rattle.route_audit.specs.Audits.{IsAudited, IsAuditedAt, IsBroken, IsConnector, IsJudged}

-- ---- what a connector is audited on

module _ (s : Scene) (e : Edge) (valid : IsValid s) (listed : Contains (connectors s) e) where
  pub is_problem : (floor : Floor) (a : Arena) (solids : List Solid) (task : Task) → floor ≡ floor_of s → StandsFor floor a → solids ≡ floor.solids →
      task ≡ task_of s e → IsProblem (floor_of s) a solids task
  is_problem floor a solids task of_scene stands same is = record {
    same_solids = sym (same ∙ ap (λ (f : Floor). f.solids) of_scene);
    stands = subst (λ f. StandsFor f a) of_scene stands;
    is_floor = floors_fit s valid;
    is_task = subst IsTask (sym is) (floors_hold_tasks s e valid listed).task.is_task;
    is_floor_of = subst (IsFloorOf (floor_of s)) (sym is) (floors_hold_tasks s e valid listed).floor;
  }

-- the rules 2 to 6 are those of the connector's task
pub judged : (s : Scene) (e : Edge) (p : Proof) (task : Task) (o : Option ℕ) → p.edge ≡ e.number → task ≡ task_of s e →
    IsBroken (floor_of s) task p.claim p.rows o → IsJudged s e p o
judged s e p task None edge is proves = record { edge = edge; proves = subst (λ t. Proves (floor_of s) t p.claim p.rows) is proves }
judged s e p task (Some rule) edge is breaks = by_rule edge (subst (λ t. BreaksFirst (floor_of s) t p.claim p.rows rule) is breaks)

-- ---- the edges from a place on

drop_at : {X : Type 0} (xs : List X) (i : ℕ) (x : X) → slice_get xs i ≡ Some x → drop i xs ≡ x ∷ drop (i + 1) xs
drop_at xs i x at =
    rw add-one (drop-cons xs i x (slice_get_within xs i x at) ∙ ap (λ y. y ∷ drop (suc i) xs) (get_or_from_slice_get xs i x x at))

past_end : {X : Type 0} (xs : List X) (i : ℕ) → slice_get xs i ≡ None → drop i xs ≡ []
past_end [] i at = drop_all i [] (omega arith)
past_end (x ∷ xs) zero at = absurd (none-some x (sym at))
past_end (x ∷ xs) (suc i) at = past_end xs i at

no_loop : (e : Edge) → e.from ≢ e.to → not (is_loop e) ≡ true
no_loop e apart = by (is_loop e) refl
  where
    by : (b : Bool) → is_loop e ≡ b → not b ≡ true
    by true is = absurd (apart ((Decides-int_eq e.from e.to).0 is))
    by false is = refl

-- the connectors among the edges from the place on
abbrev pub connectors_from : Scene → ℕ → List Edge
connectors_from s place = filter (λ e. not (is_loop e)) (drop place s.edges)

module _ (s : Scene) (place : ℕ) (e : Edge) (at : slice_get s.edges place ≡ Some e) where
  from_edge : (b : Bool) → not (is_loop e) ≡ b → connectors_from s place ≡ cond b (e ∷ connectors_from s (place + 1)) (connectors_from s (place + 1))
  from_edge b is =
      ap (filter (λ d. not (is_loop d))) (drop_at s.edges place e at)
      ∙ ap (λ c. cond c (e ∷ connectors_from s (place + 1)) (connectors_from s (place + 1))) is

  pub from_loop : e.from ≡ e.to → connectors_from s place ≡ connectors_from s (place + 1)
  from_loop same = from_edge false (ap not ((Decides-int_eq e.from e.to).1 same))

  pub from_connector : e.from ≢ e.to → connectors_from s place ≡ e ∷ connectors_from s (place + 1)
  from_connector apart = from_edge true (no_loop e apart)

-- ---- what is left decides

-- what the proofs `rest` say of the connectors `es`, all proofs say of the scene
pub record Decides (s : Scene) (es : List Edge) (rest proofs : List Proof) : Type 0 where
  pub proved : AllZip (IsProofOf s) es rest → ProveScene s proofs
  pub fails : (edge rule : ℕ) → FailsFirst s es rest edge rule → FailsFirst s (connectors s) proofs edge rule

module _ (s : Scene) (proofs : List Proof) where
  pub decides_more : (e : Edge) (p : Proof) (es : List Edge) (rest : List Proof) → Decides s (e ∷ es) (p ∷ rest) proofs → IsProofOf s e p →
      Decides s es rest proofs
  decides_more e p es rest d is = record { proved = λ h. d.proved (is, h); fails = λ edge rule f. d.fails edge rule (inr (is, f)) }

  pub decides_failure : (e : Edge) (es : List Edge) (i : ℕ) (o : Option Proof) (edge rule : ℕ) → o ≡ slice_get proofs i →
      Decides s (e ∷ es) (drop i proofs) proofs →
      edge ≡ e.number → MatchOption o (rule ≡ 1) (λ p. FailsAt s e p rule) → FailsFirst s (connectors s) proofs edge rule
  decides_failure e es i None edge rule at d number fails =
      d.fails edge rule (subst (λ ps. FailsFirst s (e ∷ es) ps edge rule) (sym (past_end proofs i (sym at))) (number, fails))
  decides_failure e es i (Some p) edge rule at d number fails =
      d.fails edge rule (subst (λ ps. FailsFirst s (e ∷ es) ps edge rule) (sym (drop_at proofs i p (sym at))) (inl (number, fails)))

-- ---- an edge at a place that is no loop is a connector

filter_has : {X : Type 0} (p : X → Bool) (xs : List X) (k : ℕ) (x : X) → slice_get xs k ≡ Some x → p x ≡ true → Contains (filter p xs) x
filter_has p [] k x at passes = absurd (none-some x at)
filter_has p (y ∷ ys) zero x at passes =
    let same = same_Some y x at in
    subst (λ b. Contains (cond b (y ∷ filter p ys) (filter p ys)) x) (sym (ap p same ∙ passes)) (0, omega arith, same)
filter_has p (y ∷ ys) (suc k) x at passes = by (p y) (filter_has p ys k x at passes)
  where
    by : (b : Bool) → Contains (filter p ys) x → Contains (cond b (y ∷ filter p ys) (filter p ys)) x
    by true has = (suc has.0, omega (arith, has.1), has.2)
    by false has = has

each_at : {X : Type 0} (P : X → Type 0) (xs : List X) (k : ℕ) (x : X) → Each P xs → slice_get xs k ≡ Some x → P x
each_at P [] k x each at = absurd (none-some x at)
each_at P (y ∷ ys) zero x each at = subst P (same_Some y x at) each.0
each_at P (y ∷ ys) (suc k) x each at = each_at P ys k x each.1 at

found_at : (es : List Edge) (k : ℕ) (e : Edge) → Pairs (λ d e. d.number < e.number) es → slice_get es k ≡ Some e → find (λ d. d.number == e.number) es ≡ Some e
found_at [] k e rise at = absurd (none-some e at)
found_at (d ∷ ds) zero e rise at =
    let same = same_Some d e at in
    ap (λ b. cond b (Some d) (find (λ d. d.number == e.number) ds)) ((Decides-eqb d.number e.number).1 (ap (λ (x : Edge). x.number) same)) ∙ ap Some same
found_at (d ∷ ds) (suc k) e rise at =
    by (d.number == e.number) (Decides-eqb d.number e.number).0 (each_at (λ x. d.number < x.number) ds k e rise.0 at) (found_at ds k e rise.1 at)
  where
    by : (b : Bool) → (b ≡ true → d.number ≡ e.number) → d.number < e.number → find (λ d. d.number == e.number) ds ≡ Some e →
        cond b (Some d) (find (λ d. d.number == e.number) ds) ≡ Some e
    by true same below later = absurd (let one = same refl in omega (arith, one, below))
    by false same below later = later

pub is_connector : (s : Scene) (k : ℕ) (e : Edge) → IsValid s → slice_get s.edges k ≡ Some e → e.from ≢ e.to → IsConnector s e
is_connector s k e valid at apart = record {
  listed = filter_has (λ d. not (is_loop d)) s.edges k e at (no_loop e apart);
  known = found_at s.edges k e (pairs_from (λ d e. d.number < e.number) s.edges valid.numbers_rise) at;
  apart = apart;
}

-- ---- an audit that fails at one connector fails

pub failed : (s : Scene) (proofs : List Proof) (e : Edge) (es : List Edge) (i : ℕ) (o : Option Proof) (fault : AuditFault) (r : Result (Unit {0}) AuditFault) →
    o ≡ slice_get proofs i → Decides s (e ∷ es) (drop i proofs) proofs → IsAuditedAt s e o (Err fault) → IsErrAnd r (λ d. d ≡ fault) → IsAudited s proofs r
failed s proofs e es i o fault (Ok done) at d is same = elim same [ ]
failed s proofs e es i o (No edge rule) (Err f) at d is same =
    subst (λ g. IsAudited s proofs (Err g)) (sym same) (decides_failure s proofs e es i o edge rule at d is.0 is.1)
failed s proofs e es i o Memory (Err f) at d is same = subst (λ g. IsAudited s proofs (Err g)) (sym same) tt

-- ---- the loop over the edges

pub proof_at : {X : Type 0} (xs : List X) (i : ℕ) (r : Option (Bor X)) → IsItemAt xs i r → option_copied r ≡ slice_get xs i
proof_at xs i None l = sym (slice_get_past xs i l.3)
proof_at xs i (Some x) l = sym (slice_get_read xs (length xs) i x.now refl l.3.0 l.1)

pub goes_on : (s : Scene) (proofs : List Proof) (e : Edge) (es : List Edge) (i : ℕ) (o : Option Proof) → o ≡ slice_get proofs i →
    Decides s (e ∷ es) (drop i proofs) proofs → IsSomeAnd o (IsProofOf s e) → Decides s es (drop (i + 1) proofs) proofs × (i + 1 ≤ length proofs)
goes_on s proofs e es i None at d is = elim is [ ]
goes_on s proofs e es i (Some p) at d is = (
  decides_more s proofs e p es (drop (i + 1) proofs) (subst (λ ps. Decides s (e ∷ es) ps proofs) (drop_at proofs i p (sym at)) d) is,
  (let within = slice_get_within proofs i p (sym at) in omega (arith, within)),
)

no_more : (s : Scene) (edges : List Edge) (place : ℕ) → edges ≡ s.edges → length edges ≤ place → connectors_from s place ≡ []
no_more s edges place is past = ap (filter (λ e. not (is_loop e))) (subst (λ es. drop place es ≡ []) is (drop_all place edges past))

pub too_many : (s : Scene) (proofs : List Proof) (edges : List Edge) (place i : ℕ) → edges ≡ s.edges → length edges ≤ place →
    Decides s (connectors_from s place) (drop i proofs) proofs → i < length proofs → FailsFirst s (connectors s) proofs 0 1
too_many s proofs edges place i is past d more =
    d.fails 0 1 (subst (λ es. FailsFirst s es (drop i proofs) 0 1) (sym (no_more s edges place is past)) (some (drop i proofs) (omega
    (arith, length-drop i proofs, more))))
  where
    some : (ps : List Proof) → 0 < length ps → FailsFirst s [] ps 0 1
    some [] more = absurd (omega (arith, more))
    some (p ∷ ps) more = (refl, refl)

pub all_proved : (s : Scene) (proofs : List Proof) (edges : List Edge) (place i : ℕ) → edges ≡ s.edges → length edges ≤ place →
    Decides s (connectors_from s place) (drop i proofs) proofs → length proofs ≤ i → ProveScene s proofs
all_proved s proofs edges place i is past d all =
    d.proved (subst (λ es. AllZip (IsProofOf s) es (drop i proofs)) (sym (no_more s edges place is past)) (subst (AllZip (IsProofOf s) []) (sym
    (drop_all i proofs all)) tt))
