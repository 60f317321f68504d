-- What a session upholds through its calls.
use Rattle.std.proofs.Common.{◌≡◌, ℕ, ◌≤◌, Bool, true, false, not, List, [], ◌∷◌, length, take, drop, slice_get, Option, None, Some, Ok, Err, Result, refl, sym, ap, subst, ◌∙◌, arith}
use Rattle.std.proofs.lemmas.List.Filters.{length-filter_both}
use Rattle.std.specs.Prelude.{IsOk, OnErr, OnOk, is_err, is_ok, is_some, option_map}
use Rattle.std.specs.Bool.{OnFalse, OnTrue}
use Rattle.plane_geom.specs.Floor.{IsFloor}
use Rattle.walk_model.specs.declared.route.Answer.{Answer}
use Rattle.visibility_graph.specs.Drawing.{Drawing}
use Rattle.graph_repair.specs.Change.{CountsWrites, IsWriteCount}
use Rattle.line_arena.specs.Count.{counted_by}
use Rattle.scene_model.specs.declared.edit.Command.TheVariants as commands
use Rattle.scene_model.specs.declared.fault.SessionFault.TheVariants as faults
use Rattle.scene_model.specs.Scene.{Scene, connectors, is_loop}
use Rattle.scene_model.specs.Valid.{IsValid}
use Rattle.scene_model.specs.Routing.{floor_of}
use Rattle.scene_model.specs.Inverses.{taken_back, redone}
use Rattle.scene_model.specs.Answers.{AreAnswers}
use Rattle.scene_model.specs.World.{step, refused}
use Rattle.scene_model.proofs.ForRouting.OneList.{one_list}
use Rattle.session_model.specs.Txn.{Transaction, BeganOn}
use Rattle.undo_log.specs.declared.step.Step.{Step}
use Rattle.undo_log.specs.Log.{Log}
use Rattle.undo_log.specs.Lending.{gone_back, gone_forth}
use Rattle.session_model.specs.History.{IsStep, IsHistory, IsTurned, LeadBack, LeadOn, world_of, pushed}
use Rattle.session_model.proofs.Turning.{extends_past, goes_back, goes_on, step_stays_valid}
use Rattle.route_book.specs.Exchange.{Exchange, turned}
use Rattle.route_session.specs.Upheld.{IsUpheld, AreRestorable, AreFree, turned_step}
use Rattle.route_session.proofs.Steps.{restorable, free}

abbrev here_of : Exchange → List Answer
here_of c = c.here

abbrev there_of : Exchange → List Answer
there_of c = c.there

-- a list has nothing at its front, or it begins with that
empty_by : {X : Type 0} (xs : List X) → slice_get xs 0 ≡ None → xs ≡ []
empty_by [] h = refl
empty_by (x ∷ xs) h = cc

begins_by : {X : Type 0} (xs : List X) (x : X) → slice_get xs 0 ≡ Some x → xs ≡ x ∷ drop 1 xs
begins_by [] x h = cc
begins_by (y ∷ xs) x h = let same : y ≡ x = cc in ap (λ z. z ∷ xs) same

pub none_by : {X : Type 0} (o : Option X) → is_some o ≡ false → o ≡ None
none_by None h = refl
none_by (Some x) h = cc

-- the working scene of an open transaction
abbrev pub working_of : Option Transaction → Option Scene
working_of txn = option_map (λ t. t.working) txn

turned_is : (t : Step Exchange) → IsTurned here_of there_of t (turned_step t)
turned_is t = record { back = refl; forth = refl; here_is_there = refl; there_is_here = refl }

-- undo and redo are refused if there is no step, and otherwise only if a transaction is open
pub nothing_behind : (l : Log Exchange) (s : Scene) (txn : Option Transaction) → is_some txn ≡ false → slice_get l.past 0 ≡ None
    → step commands.Undo (world_of l s (working_of txn)) ≡ Err (refused faults.NothingToUndo)
nothing_behind l s txn shut none = rw (none_by txn shut, empty_by l.past none) refl

pub nothing_ahead : (l : Log Exchange) (s : Scene) (txn : Option Transaction) → is_some txn ≡ false → slice_get l.future 0 ≡ None
    → step commands.Redo (world_of l s (working_of txn)) ≡ Err (refused faults.NothingToRedo)
nothing_ahead l s txn shut none = rw (none_by txn shut, empty_by l.future none) refl

pub may_undo : (l : Log Exchange) (s : Scene) (txn : Option Transaction) (t : Step Exchange) → is_some txn ≡ false → slice_get l.past 0 ≡ Some t
    → IsOk (step commands.Undo (world_of l s (working_of txn)))
may_undo l s txn t shut some = rw (none_by txn shut, begins_by l.past t some) refl

pub may_redo : (l : Log Exchange) (s : Scene) (txn : Option Transaction) (t : Step Exchange) → is_some txn ≡ false → slice_get l.future 0 ≡ Some t
    → IsOk (step commands.Redo (world_of l s (working_of txn)))
may_redo l s txn t shut some = rw (none_by txn shut, begins_by l.future t some) refl

module _ (scene : Scene) (graph : Drawing) (book : List Answer) (log : Log Exchange) (txn : Option Transaction) (up : IsUpheld scene graph book log txn) where
  -- the latest step leads back from the scene, the next one leads on
  behind_of : (t : Step Exchange) → slice_get log.past 0 ≡ Some t → LeadBack here_of there_of (t ∷ drop 1 log.past) scene
  behind_of t some = subst (λ ts. LeadBack here_of there_of ts scene) (begins_by log.past t some) up.history.behind

  ahead_of : (t : Step Exchange) → slice_get log.future 0 ≡ Some t → LeadOn here_of there_of (t ∷ drop 1 log.future) scene
  ahead_of t some = subst (λ ts. LeadOn here_of there_of ts scene) (begins_by log.future t some) up.history.ahead

  pub undo_restorable : (t : Step Exchange) → slice_get log.past 0 ≡ Some t → AreRestorable t.back scene
  undo_restorable t some = let is = (behind_of t some).0 in restorable (taken_back t.back scene) t.forth t.back scene is.valid is.leads

  pub redo_free : (t : Step Exchange) → slice_get log.future 0 ≡ Some t → AreFree t.forth scene
  redo_free t some = let is = (ahead_of t some).0 in free scene t.forth t.back (redone t.forth scene) is.leads

  -- what the step keeps on this side are the answers of the book
  pub undo_here : (t : Step Exchange) → slice_get log.past 0 ≡ Some t → t.changes.here ≡ book
  undo_here t some = one_list scene t.changes.here book (behind_of t some).0.right_after up.right

  pub redo_here : (t : Step Exchange) → slice_get log.future 0 ≡ Some t → t.changes.here ≡ book
  redo_here t some = one_list scene t.changes.here book (ahead_of t some).0.right_before up.right

  -- the session after an undo
  pub undone : (t : Step Exchange) (before : Scene) (drawn : Drawing) (answers : List Answer) (after : Log Exchange) → slice_get log.past 0 ≡ Some t
      → before ≡ taken_back t.back scene → drawn.floor ≡ floor_of before → IsFloor drawn.floor → answers ≡ t.changes.there → after ≡ gone_back log (turned_step t)
      → IsUpheld before drawn answers after None × (step commands.Undo (world_of log scene None) ≡ Ok (world_of after before None))
  undone t before drawn answers after some is floor fits right gone =
      let s = taken_back t.back scene in
      let first = behind_of t some in
      let went = goes_back here_of there_of log scene t (turned_step t) (drop 1 log.past) up.history (begins_by log.past t some) (turned_is t) in
      let history : IsHistory here_of there_of after before = subst (λ l. IsHistory here_of there_of l before) (sym gone) (subst (IsHistory here_of there_of (gone_back log (turned_step t))) (sym is) went.0) in
      let world : step commands.Undo (world_of log scene None) ≡ Ok (world_of after before None) = rw (gone, is) went.1 in (
        record {
          valid = subst IsValid (sym is) first.0.valid;
          floor = floor;
          fits = fits;
          right = subst (λ x. AreAnswers before x) (sym right) (subst (λ x. AreAnswers x t.changes.there) (sym is) first.0.right_before);
          history = history;
          begun = tt;
        },
        world,
      )

  -- the session after a redo
  pub done_again : (t : Step Exchange) (next : Scene) (drawn : Drawing) (answers : List Answer) (after : Log Exchange) → slice_get log.future 0 ≡ Some t
      → next ≡ redone t.forth scene → drawn.floor ≡ floor_of next → IsFloor drawn.floor → answers ≡ t.changes.there → after ≡ gone_forth log (turned_step t)
      → IsUpheld next drawn answers after None × (step commands.Redo (world_of log scene None) ≡ Ok (world_of after next None))
  done_again t next drawn answers after some is floor fits right gone =
      let first = ahead_of t some in
      let went = goes_on here_of there_of log scene t (turned_step t) (drop 1 log.future) up.history (begins_by log.future t some) (turned_is t) in
      let history : IsHistory here_of there_of after next = subst (λ l. IsHistory here_of there_of l next) (sym gone) (subst (IsHistory here_of there_of (gone_forth log (turned_step t))) (sym is) went.0) in
      let world : step commands.Redo (world_of log scene None) ≡ Ok (world_of after next None) = rw (gone, is) went.1 in (
        record {
          valid = subst IsValid (sym is) (step_stays_valid first.0);
          floor = floor;
          fits = fits;
          right = subst (λ x. AreAnswers next x) (sym right) (subst (λ x. AreAnswers x t.changes.there) (sym is) first.0.right_after);
          history = history;
          begun = tt;
        },
        world,
      )

  -- the session with a transaction on its scene
  pub with_transaction : (t : Transaction) → BeganOn scene t → IsUpheld scene graph book log (Some t)
  with_transaction t began = record { valid = up.valid; floor = up.floor; fits = up.fits; right = up.right; history = up.history; begun = began }

-- the session after a commit of the transaction
pub committed : (scene : Scene) (book : List Answer) (log : Log Exchange) (t : Transaction) (changes : Exchange) (next : Scene) (drawn : Drawing) (answers : List Answer) (after : Log Exchange)
    → IsValid scene → AreAnswers scene book → IsHistory here_of there_of log scene → BeganOn scene t → next ≡ t.working → drawn.floor ≡ floor_of t.working → IsFloor drawn.floor
    → changes.here ≡ book → AreAnswers t.working changes.there → answers ≡ changes.there
    → after.past ≡ take 100 (record { back = t.back; forth = t.forth; changes = turned changes } ∷ log.past) → after.future ≡ []
    → IsUpheld next drawn answers after None × (step commands.Commit (world_of log scene (Some t.working)) ≡ Ok (world_of after next None))
committed scene book log t changes next drawn answers after valid right history began is floor fits here there put_there past future =
    let put : Step Exchange = record { back = t.back; forth = t.forth; changes = turned changes } in
    let there_next : AreAnswers next changes.there = subst (λ s. AreAnswers s changes.there) (sym is) there in
    let joined : IsStep scene t.forth t.back next changes.here changes.there = record {
      valid = valid;
      leads = subst (λ x. BeganOn scene (record t { working = x })) (sym is) began;
      right_before = subst (AreAnswers scene) (sym here) right;
      right_after = there_next;
    } in
    let went = extends_past here_of there_of log scene next put history joined in
    let same : pushed put log ≡ after = λ i. record { past = sym past i; future = sym future i } in (
      record {
        valid = step_stays_valid joined;
        floor = floor ∙ ap floor_of (sym is);
        fits = fits;
        right = subst (AreAnswers next) (sym put_there) there_next;
        history = subst (λ l. IsHistory here_of there_of l next) same went.0;
        begun = tt;
      },
      subst (λ x. step commands.Commit (world_of log scene (Some x)) ≡ Ok (world_of after next None)) is
          (subst (λ l. step commands.Commit (world_of log scene (Some next)) ≡ Ok (world_of l next None)) same went.1),
    )

-- what a commit writes, from the floor of the scene to that of the next one
pub commit_writes : (scene next : Scene) (graph repaired drawn : Drawing) → graph.floor ≡ floor_of scene → drawn ≡ repaired → drawn.floor ≡ floor_of next
    → CountsWrites graph.floor repaired.floor graph.arena.written repaired.arena.written → CountsWrites (floor_of scene) (floor_of next) graph.arena.written drawn.arena.written
commit_writes scene next graph repaired drawn here same there h =
    let count : CountsWrites graph.floor drawn.floor graph.arena.written drawn.arena.written =
    subst (λ (d : Drawing). CountsWrites graph.floor d.floor graph.arena.written d.arena.written) (sym same) h in
    (count.0, subst (λ x. IsWriteCount x (floor_of next) count.0) here (subst (λ x. IsWriteCount graph.floor x count.0) there count.1), count.2)

twice_not : (b : Bool) → b ≡ not (not b)
twice_not true = refl
twice_not false = refl

-- a scene has few connectors, so a new counter counts them all
few_counted_by : (n : ℕ) → n ≤ 512 → counted_by n 0 ≡ n
few_counted_by n few = omega arith

pub few_counted : (s : Scene) → IsValid s → counted_by (length (connectors s)) 0 ≡ length (connectors s)
few_counted s valid =
    let most : length (connectors s) ≤ length s.edges = omega (arith, length-filter_both (λ e. not (is_loop e)) is_loop (λ e. twice_not (is_loop e)) s.edges) in
    few_counted_by (length (connectors s)) (omega (arith, valid.few_edges, most))

-- a fact of each error
pub on_error : {T E P : Type 0} (r : Result T E) → P → OnErr r P
on_error (Ok x) p = tt
on_error (Err e) p = p

-- what holds of a result by the test whether it is an error
pub on_ok_by : {T E Q R : Type 0} (r : Result T E) (failed : Bool) → failed ≡ is_err r → OnFalse failed Q → (Q → R) → OnOk r R
on_ok_by {Q = Q} (Ok x) failed is q f = f (subst (λ b. OnFalse b Q) is q)
on_ok_by (Err e) failed is q f = tt

pub on_err_by : {T E Q R : Type 0} (r : Result T E) (failed : Bool) → failed ≡ is_err r → OnTrue failed Q → (Q → R) → OnErr r R
on_err_by (Ok x) failed is q f = tt
on_err_by {Q = Q} (Err e) failed is q f = f (subst (λ b. OnTrue b Q) is q)

-- what is done without a value
pub done_by : {E : Type 0} (r : Result Unit E) → is_ok r ≡ true → r ≡ Ok tt
done_by (Ok x) h = refl
done_by (Err e) h = cc
