-- The answer to a proposed transaction: what a commit of its edits would give, or which edit is refused.
use Rattle.std.specs.Prelude.{◌≡◌, ◌≢◌, ℕ, suc, ◌<◌, ◌^◌, List, [], ◌∷◌, length, All, Option, None, Some}
use Rattle.std.specs.List.{AllZip}
use Rattle.walk_model.specs.declared.route.Answer.{Answer}
use Rattle.scene_model.specs.declared.edit.Edit.{Edit}
use Rattle.scene_model.specs.declared.fault.SceneFault.{SceneFault}
use Rattle.scene_model.specs.declared.fault.SceneFault.TheVariants.{Memory}
use Rattle.scene_model.specs.Scene.{Scene}
use Rattle.scene_model.specs.Edits.{changed, refusal, IsDirected}
use Rattle.scene_model.specs.Inverses.{redone}
use Rattle.scene_model.specs.Answers.{AreAnswers}
use Rattle.scene_model.specs.Stale.{AreStale}
use Rattle.preview.specs.declared.proposals.Proposal.{Proposal}
use Rattle.preview.specs.declared.answer.Previewed.{Previewed}
use Rattle.preview.specs.declared.answer.Previewed.TheVariants.{Committed, Refused}

-- the refusal of the edit at the place, if it is refused, or else that of a later edit
abbrev pub refused_or : ℕ → Option SceneFault → Option (ℕ × SceneFault) → Option (ℕ × SceneFault)
refused_or place (Some fault) later = Some (place, fault)
refused_or place None later = later

-- the first edit that is refused on the scene after the edits before it, as its place and its fault, where the first edit has this place
abbrev pub first_refused : ℕ → List Edit → Scene → Option (ℕ × SceneFault)
first_refused place [] s = None
first_refused place (e ∷ es) s = refused_or place (refusal e s) (first_refused (suc place) es (changed e s))

-- no edit is refused; this is the scene after all of them, these are its right answers, and this is the number of its stale connectors
pub record Commits (s : Scene) (answers : List Answer) (edits : List Edit) (after : Scene) (book : List Answer) (searched : ℕ) : Type 0 where
  pub unrefused : first_refused 1 edits s ≡ None
  pub scene : after ≡ redone edits s
  pub right : AreAnswers after book
  pub stale : List ℕ
  pub are_stale : AreStale s answers after stale
  pub searches : searched ≡ length stale

-- the answer to the edits on the scene with these answers
abbrev pub IsPreview : Scene → List Answer → List Edit → Previewed → Type 0
IsPreview s answers edits (Committed after book searched) = Commits s answers edits after book searched
IsPreview s answers edits (Refused place fault) = first_refused 1 edits s ≡ Some (place, fault)

-- the law: edits have at most one answer
abbrev pub HaveOnePreview : Type 0
HaveOnePreview =
    (s : Scene) (answers : List Answer) (edits : List Edit) (this that : Previewed) →
    IsPreview s answers edits this → IsPreview s answers edits that → this ≡ that

-- the law: a refusal has its fault, and is never out of memory
abbrev pub RefusalsHoldNoMemory : Type 0
RefusalsHoldNoMemory =
    (s : Scene) (answers : List Answer) (edits : List Edit) (place : ℕ) (fault : SceneFault) →
    IsPreview s answers edits (Refused place fault) → fault ≢ Memory

-- the answer to the proposal
abbrev pub IsAnswerTo : Scene → List Answer → Proposal → Previewed → Type 0
IsAnswerTo s answers proposal answer = IsPreview s answers proposal.edits answer

-- the answers to the proposals, in order
abbrev pub ArePreviews : Scene → List Answer → List Proposal → List Previewed → Type 0
ArePreviews s answers proposals previews = AllZip (IsAnswerTo s answers) proposals previews

-- edits that may be proposed: each pin that they add has a direction, and their number fits a `u32`
pub record AreProposable (edits : List Edit) : Type 0 where
  pub directed : All IsDirected edits
  pub few : length edits < 2 ^ 32

-- a proposal that may be asked about
abbrev pub IsProposable : Proposal → Type 0
IsProposable proposal = AreProposable proposal.edits
