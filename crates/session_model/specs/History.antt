-- The scenes of a history, and the answers that it keeps for each.
use Rattle.std.specs.Prelude.{◌≡◌, List, [], ◌∷◌, take, Option, None, Some, IfSome, Ok}
use Rattle.walk_model.specs.declared.route.Answer.{Answer}
use Rattle.scene_model.specs.declared.edit.Edit.{Edit}
use Rattle.scene_model.specs.declared.edit.Inverse.{Inverse}
use Rattle.scene_model.specs.declared.edit.Command.TheVariants.{Commit, Undo, Redo}
use Rattle.scene_model.specs.Scene.{Scene}
use Rattle.scene_model.specs.Valid.{IsValid}
use Rattle.scene_model.specs.Inverses.{Leads, taken_back, redone}
use Rattle.scene_model.specs.Answers.{AreAnswers}
use Rattle.scene_model.specs.World.{World, step, Everywhere}
use Rattle.undo_log.specs.declared.step.Step.{Step}
use Rattle.undo_log.specs.Log.{Log, most_steps}
use Rattle.undo_log.specs.Lending.{gone_back, gone_forth}

-- the edits lead from the valid scene to the other one, their inverses lead back, and these are right answers of both
pub record IsStep (before : Scene) (forth : List Edit) (back : List Inverse) (after : Scene) (these those : List Answer) : Type 0 where
  pub valid : IsValid before
  pub leads : Leads before forth back after
  pub right_before : AreAnswers before these
  pub right_after : AreAnswers after those

-- the past scenes, the latest first
abbrev pub befores : {C : Type 0} → List (Step C) → Scene → List Scene
befores [] s = []
befores (t ∷ ts) s = taken_back t.back s ∷ befores ts (taken_back t.back s)

-- the future scenes, the next first
abbrev pub afters : {C : Type 0} → List (Step C) → Scene → List Scene
afters [] s = []
afters (t ∷ ts) s = redone t.forth s ∷ afters ts (redone t.forth s)

-- the world of a history with this present scene
abbrev pub world_of : {C : Type 0} → Log C → Scene → Option Scene → World
world_of l s working = record { past = befores l.past s; present = s; future = afters l.future s; working = working }

-- the history after a commit of the step
abbrev pub pushed : {C : Type 0} → Step C → Log C → Log C
pushed t l = record { past = take most_steps (t ∷ l.past); future = [] }

-- in the value kept with a step, `here` are the answers on the side of the present scene, `there` those on the other side
module _ {C : Type 0} (here there : C → List Answer) where
  -- the steps, the latest first, lead back from the scene, with right answers of each scene
  abbrev pub LeadBack : List (Step C) → Scene → Type 0
  LeadBack [] s = Unit {0}
  LeadBack (t ∷ ts) s =
      let before = taken_back t.back s in
      IsStep before t.forth t.back s (there t.changes) (here t.changes) × LeadBack ts before

  -- the steps, the next first, lead forward from the scene, with right answers of each scene
  abbrev pub LeadOn : List (Step C) → Scene → Type 0
  LeadOn [] s = Unit {0}
  LeadOn (t ∷ ts) s =
      let next = redone t.forth s in
      IsStep s t.forth t.back next (here t.changes) (there t.changes) × LeadOn ts next

  -- the history leads from the scene to all past and future scenes
  pub record IsHistory (l : Log C) (s : Scene) : Type 0 where
    pub behind : LeadBack l.past s
    pub ahead : LeadOn l.future s

  -- the step with both sides exchanged
  pub record IsTurned (t u : Step C) : Type 0 where
    pub back : u.back ≡ t.back
    pub forth : u.forth ≡ t.forth
    pub here_is_there : here u.changes ≡ there t.changes
    pub there_is_here : there u.changes ≡ here t.changes

  -- the law: a commit adds the scene to the past, as the latest, and drops the hundred and first and all future ones
  abbrev pub CommitsExtendPast : Type 0
  CommitsExtendPast =
      (l : Log C) (s new : Scene) (t : Step C) → IsHistory l s → IsStep s t.forth t.back new (there t.changes) (here t.changes)
      → IsHistory (pushed t l) new × (step Commit (world_of l s (Some new)) ≡ Ok (world_of (pushed t l) new None))

  -- the law: if the latest past step is moved to the future with its answers exchanged, its inverses lead to the scene of an undo
  abbrev pub UndosGoBack : Type 0
  UndosGoBack =
      (l : Log C) (s : Scene) (t u : Step C) (ts : List (Step C)) → IsHistory l s → l.past ≡ t ∷ ts → IsTurned t u
      → IsHistory (gone_back l u) (taken_back t.back s)
      × (step Undo (world_of l s None) ≡ Ok (world_of (gone_back l u) (taken_back t.back s) None))

  -- the law: if the next future step is moved to the past with its answers exchanged, its edits lead to the scene of a redo
  abbrev pub RedosGoOn : Type 0
  RedosGoOn =
      (l : Log C) (s : Scene) (t u : Step C) (ts : List (Step C)) → IsHistory l s → l.future ≡ t ∷ ts → IsTurned t u
      → IsHistory (gone_forth l u) (redone t.forth s)
      × (step Redo (world_of l s None) ≡ Ok (world_of (gone_forth l u) (redone t.forth s) None))

  -- the law: all scenes of a history are valid
  abbrev pub ScenesAreValid : Type 0
  ScenesAreValid =
      (l : Log C) (s : Scene) (working : Option Scene) → IsHistory l s → IsValid s → IfSome working IsValid
      → Everywhere IsValid (world_of l s working)
