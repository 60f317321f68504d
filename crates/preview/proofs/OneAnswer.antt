-- A proposal has one answer at most.
use Rattle.std.proofs.Common.{◌≡◌, ℕ, List, length, Option, Some, sym, ap, ◌∙◌, subst}
use Rattle.walk_model.specs.declared.route.Answer.{Answer}
use Rattle.scene_model.specs.declared.edit.Edit.{Edit}
use Rattle.scene_model.specs.declared.fault.SceneFault.{SceneFault}
use Rattle.scene_model.specs.Scene.{Scene}
use Rattle.scene_model.specs.Answers.{AreAnswers}
use Rattle.scene_model.specs.Stale.{AreStale}
use Rattle.scene_model.proofs.ForRouting.OneList.{one_list}
use Rattle.scene_model.proofs.ForRouting.Fresh.{one_stale_list}
use Rattle.preview.specs.declared.answer.Previewed.TheVariants.{Committed, Refused}
use Rattle.preview.specs.Previews.{Commits, HaveOnePreview}

abbrev refusal_at : ℕ → SceneFault → Option (ℕ × SceneFault)
refusal_at place fault = Some (place, fault)

same_pair : (p q : ℕ × SceneFault) → refusal_at p.0 p.1 ≡ refusal_at q.0 q.1 → p ≡ q
same_pair p q e = cc

same_refusal : (at place : ℕ) (fault other : SceneFault) → refusal_at at fault ≡ refusal_at place other → Refused at fault ≡ Refused place other
same_refusal at place fault other e = ap (λ (p : ℕ × SceneFault). Refused p.0 p.1) (same_pair (at, fault) (place, other) e)

same_commit : (s : Scene) (answers : List Answer) (edits : List Edit) (one two : Scene) (book other : List Answer) (n m : ℕ) →
    Commits s answers edits one book n → Commits s answers edits two other m → Committed one book n ≡ Committed two other m
same_commit s answers edits one two book other n m h k =
    let scenes : one ≡ two = h.scene ∙ sym k.scene in
    let books : book ≡ other = one_list two book other (subst (λ t. AreAnswers t book) scenes h.right) k.right in
    let stale : h.stale ≡ k.stale = one_stale_list s answers two h.stale k.stale (subst (λ t. AreStale s answers t h.stale) scenes h.are_stale) k.are_stale in
    let count : n ≡ m = h.searches ∙ ap length stale ∙ sym k.searches in
    ap (λ t. Committed t book n) scenes ∙ ap (λ b. Committed two b n) books ∙ ap (λ c. Committed two other c) count

pub one_answer : HaveOnePreview
one_answer s answers edits (Committed one book n) (Committed two other m) h k = same_commit s answers edits one two book other n m h k
one_answer s answers edits (Committed one book n) (Refused place fault) h k = (let e = sym h.unrefused ∙ k in cc)
one_answer s answers edits (Refused at fault) (Committed two other m) h k = (let e = sym k.unrefused ∙ h in cc)
one_answer s answers edits (Refused at fault) (Refused place other) h k = same_refusal at place fault other (sym h ∙ k)
