-- A proposed transaction has an answer: its first refusal, or what a commit gives.
use Rattle.std.proofs.Common.{◌≡◌, ℕ, suc, List, [], ◌∷◌, length, Option, Some, None, refl}
use Rattle.std.specs.List.{AllByRecursion}
use Rattle.walk_model.specs.declared.route.Answer.{Answer}
use Rattle.scene_model.specs.declared.edit.Edit.{Edit}
use Rattle.scene_model.specs.declared.fault.SceneFault.{SceneFault}
use Rattle.scene_model.specs.Scene.{Scene}
use Rattle.scene_model.specs.Valid.{IsValid}
use Rattle.scene_model.specs.Answers.{AreAnswers}
use Rattle.scene_model.specs.Edits.{changed, refusal, IsDirected}
use Rattle.scene_model.specs.Inverses.{redone, KeepsValid}
use Rattle.preview.specs.declared.answer.Previewed.{Previewed}
use Rattle.preview.specs.declared.answer.Previewed.TheVariants.{Committed, Refused}
use Rattle.preview.specs.Previews.{IsPreview, first_refused, refused_or}
use Rattle.existence_laws.specs.Previews.{HavePreviews}
use Rattle.existence_laws.proofs.Answering.Answered.{some_answers}
use Rattle.existence_laws.proofs.Answering.Stale.{some_stale_list}

-- the first of some edits is not refused, and none of the others is
record IsUnrefused (place : ℕ) (e : Edit) (es : List Edit) (s : Scene) : Type 0 where
  pub first : refusal e s ≡ None
  pub others : first_refused (suc place) es (changed e s) ≡ None

none_refused : (place : ℕ) (e : Edit) (es : List Edit) (s : Scene) (r : Option SceneFault) → refusal e s ≡ r → refused_or place r (first_refused (suc place) es (changed e s)) ≡ None → IsUnrefused place e es s
none_refused place e es s None is none = record { first = is; others = none }
none_refused place e es s (Some fault) is none = absurd cc

-- edits that are not refused lead to a valid scene
stays_valid : KeepsValid → (place : ℕ) (es : List Edit) (s : Scene) → AllByRecursion IsDirected es → IsValid s → first_refused place es s ≡ None → IsValid (redone es s)
stays_valid keeps place [] s directed valid none = valid
stays_valid keeps place (e ∷ es) s directed valid none =
    let un = none_refused place e es s (refusal e s) refl none in
    stays_valid keeps (suc place) es (changed e s) directed.1 (keeps e s directed.0 valid un.first) un.others

answer_by : (s : Scene) (answers : List Answer) (edits : List Edit) → AreAnswers s answers → (first_refused 1 edits s ≡ None → IsValid (redone edits s)) → (r : Option (ℕ × SceneFault)) → first_refused 1 edits s ≡ r →
    (answer : Previewed) × IsPreview s answers edits answer
answer_by s answers edits right valid (Some (place, fault)) is = (Refused place fault, is)
answer_by s answers edits right valid None is =
    let after = redone edits s in
    let book = some_answers after (valid is) in
    let stale = some_stale_list s answers after right in
    (Committed after book.0 (length stale.0), record { unrefused = is; scene = refl; right = book.1; stale = stale.0; are_stale = stale.1; searches = refl })

pub some_preview : KeepsValid → HavePreviews
some_preview keeps s answers edits valid right directed = answer_by s answers edits right (stays_valid keeps 1 edits s directed valid) (first_refused 1 edits s) refl
