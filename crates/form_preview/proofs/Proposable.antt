-- The proposals of a script are few, and each may be asked about.
use Rattle.std.proofs.Common.{◌≡◌, ℕ, suc, ◌+◌, ◌<◌, ◌≤◌, ◌^◌, Bool, true, false, if◌then◌else◌, nat_lt, List, [], ◌∷◌, ◌++◌, length, Option, None, Some, Result, Ok, Err, All, refl, sym, ◌∙◌, subst, arith, length-append}
use Rattle.std.specs.Prelude.{IfSome}
use Rattle.std.proofs.lemmas.Bool.{ltb-true}
use Rattle.std.proofs.lemmas.List.Elements.{All-nil, All-push}
use Rattle.scene_model.specs.declared.edit.Edit.{Edit as SceneEdit}
use Rattle.scene_model.specs.declared.edit.Command.{Command}
use Rattle.scene_model.specs.declared.edit.Command.TheVariants.{Begin, Edit, Commit, Abort, Undo, Redo, Bad}
use Rattle.scene_model.specs.Edits.{IsDirected}
use Rattle.scene_model.specs.World.{IsDirectedCommand}
use Rattle.session_model.specs.Calls.{AreDirected}
use Rattle.report_text.specs.declared.refusal.Refusal.{Refusal}
use Rattle.preview.specs.declared.proposals.Proposal.{Proposal}
use Rattle.preview.specs.Previews.{IsProposable}
use Rattle.form_preview.specs.Blocks.{Blocks, Read, proposals, too_many, read_on, ended, unless_refused, blocks_from, blocks_of}

-- edits that lead somewhere, of which there are no more than this
record IsSmall (most : ℕ) (edits : List SceneEdit) : Type 0 where
  directed : All IsDirected edits
  few : length edits ≤ most

-- the open block has its edits, room for those that are left, and room among the blocks
record IsOpen (most left : ℕ) (closed : List Proposal) (edits : List SceneEdit) : Type 0 where
  directed : All IsDirected edits
  few : length edits + left ≤ most
  room : length closed < 64

record IsGood (most left : ℕ) (read : Read) : Type 0 where
  closed : All (λ p. IsSmall most p.edits) read.closed
  few : length read.closed ≤ 64
  current : IfSome read.current (IsOpen most left read.closed)

pub record AreGood (asked : List Proposal) : Type 0 where
  pub each : All IsProposable asked
  pub few : length asked ≤ 64

abbrev so_far : List Proposal → Option (List SceneEdit) → Read
so_far closed current = record { closed = closed; current = current }

abbrev done : Read → Result Read Refusal
done read = Ok read

same_read : {one two : Read} → done one ≡ Ok two → one ≡ two
same_read h = cc

abbrev begun_by : Bool → List Proposal → Result Read Refusal
begun_by b closed = if b then Ok (so_far closed (Some [])) else Err too_many

module _ (most left : ℕ) where
  step_begin : (closed : List Proposal) (next : Read) (b : Bool) → nat_lt (length closed) 64 ≡ b → suc left ≤ most → All (λ p. IsSmall most p.edits) closed → length closed ≤ 64 →
      begun_by b closed ≡ Ok next → IsGood most left next
  step_begin closed next true is fits small few h = subst (IsGood most left) (same_read h) (record {
    closed = small;
    few = few;
    current = record { directed = All-nil IsDirected; few = omega (arith, fits); room = ltb-true (length closed) 64 is };
  })
  step_begin closed next false is fits small few h = cc

  step_edit : (e : SceneEdit) (closed : List Proposal) (edits : List SceneEdit) (next : Read) → IsDirected e → All (λ p. IsSmall most p.edits) closed → length closed ≤ 64 →
      IsOpen most (suc left) closed edits → done (so_far closed (Some (edits ++ e ∷ []))) ≡ Ok next → IsGood most left next
  step_edit e closed edits next directed small few current h =
      let within = current.few in
      subst (IsGood most left) (same_read h) (record {
        closed = small;
        few = few;
        current = record { directed = All-push IsDirected edits e current.directed directed; few = omega (arith, length-append edits (e ∷ []), within); room = current.room };
      })

  step_commit : (closed : List Proposal) (edits : List SceneEdit) (next : Read) → All (λ p. IsSmall most p.edits) closed → IsOpen most (suc left) closed edits →
      done (so_far (closed ++ record { edits = edits } ∷ []) None) ≡ Ok next → IsGood most left next
  step_commit closed edits next small current h =
      let p : Proposal = record { edits = edits } in
      let within = current.few in
      let room = current.room in
      subst (IsGood most left) (same_read h) (record {
        closed = All-push (λ (q : Proposal). IsSmall most q.edits) closed p small (record { directed = current.directed; few = omega (arith, within) });
        few = omega (arith, length-append closed (p ∷ []), room);
        current = tt;
      })

  -- a command that is read keeps all this
  step : (command : Command) (closed : List Proposal) (current : Option (List SceneEdit)) (next : Read) → suc left ≤ most → IsDirectedCommand command → IsGood most (suc left) (so_far closed current) →
      read_on command closed current ≡ Ok next → IsGood most left next
  step Begin closed None next fits directed good h = step_begin closed next (nat_lt (length closed) 64) refl fits good.closed good.few h
  step Begin closed (Some edits) next fits directed good h = cc
  step (Edit e) closed None next fits directed good h = cc
  step (Edit e) closed (Some edits) next fits directed good h = step_edit e closed edits next directed good.closed good.few good.current h
  step Commit closed None next fits directed good h = cc
  step Commit closed (Some edits) next fits directed good h = step_commit closed edits next good.closed good.current h
  step Abort closed current next fits directed good h = cc
  step Undo closed current next fits directed good h = cc
  step Redo closed current next fits directed good h = cc
  step Bad closed current next fits directed good h = cc

module _ (most : ℕ) (bound : most < 2 ^ 32) (asked : List Proposal) where
  ended_good : (closed : List Proposal) (current : Option (List SceneEdit)) → All (λ p. IsSmall most p.edits) closed → length closed ≤ 64 → ended closed current ≡ proposals asked → AreGood asked
  ended_good closed None small few h =
      let same : closed ≡ asked = cc in
      subst AreGood same (record {
        each = λ k d lt. (let s = small k d lt in let fits = s.few in record { directed = s.directed; few = omega (arith, fits, bound) });
        few = few;
      })
  ended_good closed (Some edits) small few h = cc

  goes : (line : ℕ) (commands : List (ℕ × Command)) (r : Result Read Refusal) → ((next : Read) → IsGood most (length commands) next → blocks_from commands next ≡ proposals asked → AreGood asked) →
      ((next : Read) → r ≡ Ok next → IsGood most (length commands) next) → unless_refused line (blocks_from commands) r ≡ proposals asked → AreGood asked
  goes line commands (Ok next) rest stays h = rest next (stays next refl) h
  goes line commands (Err why) rest stays h = cc

  good_blocks : (commands : List (ℕ × Command)) (read : Read) → length commands ≤ most → AreDirected commands → IsGood most (length commands) read → blocks_from commands read ≡ proposals asked → AreGood asked
  good_blocks [] read fits directed good h = ended_good read.closed read.current good.closed good.few h
  good_blocks (c ∷ commands) read fits directed good h =
      goes c.0 commands (read_on c.1 read.closed read.current)
      (λ next kept is. good_blocks commands next (omega (arith, fits)) directed.1 kept is)
      (λ next is. step most (length commands) c.1 read.closed read.current next (omega (arith, fits)) directed.0 good is) h

pub proposable : (commands : List (ℕ × Command)) (asked : List Proposal) → length commands < 2 ^ 32 → AreDirected commands → blocks_of commands ≡ proposals asked → AreGood asked
proposable commands asked few directed h =
    good_blocks (length commands) few asked commands (so_far [] None) (omega arith) directed
    (record { closed = All-nil (λ (p : Proposal). IsSmall (length commands) p.edits); few = omega arith; current = tt }) h

-- the proposals that the code has read are those of the commands
pub read_good : (commands : List (ℕ × Command)) (read : Blocks) (these items : List Proposal) → length commands < 2 ^ 32 → AreDirected commands → read ≡ blocks_of commands → read ≡ proposals items → these ≡ items → AreGood these
read_good commands read these items few directed is has same = subst AreGood (sym same) (proposable commands items few directed (sym is ∙ has))
