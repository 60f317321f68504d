-- The proposals of a script have one output.
use Rattle.std.proofs.Common.{◌≡◌, ℕ, Bool, List, [], ◌∷◌, refl, sym, subst, ap, ◌∙◌}
use Rattle.std.specs.List.{list_any}
use Rattle.walk_model.specs.declared.route.Answer.{Answer}
use Rattle.scene_model.specs.Answers.{HaveOneList}
use Rattle.scene_model.specs.Scene.{Scene}
use Rattle.preview.specs.declared.answer.Previewed.{Previewed}
use Rattle.preview.specs.declared.proposals.Proposal.{Proposal}
use Rattle.preview.specs.Previews.{ArePreviews, HaveOnePreview}
use Rattle.form_preview.specs.Blocks.{Blocks, proposals, refused_at, unfinished, blocks_of}
use Rattle.form_preview.specs.Proposes.{ComeToOne, IsSameOutput, ProposesBlocks, is_refusal, lines_from}

module _ (one_preview : HaveOnePreview) (one_list : HaveOneList) where
  same_previews : (s : Scene) (answers : List Answer) (asked : List Proposal) (these those : List Previewed) →
      ArePreviews s answers asked these → ArePreviews s answers asked those → these ≡ those
  same_previews s answers [] [] [] h k = refl
  same_previews s answers [] [] (b ∷ those) h k = absurd k
  same_previews s answers [] (a ∷ these) those h k = absurd h
  same_previews s answers (p ∷ asked) [] those h k = absurd h
  same_previews s answers (p ∷ asked) (a ∷ these) [] h k = absurd k
  same_previews s answers (p ∷ asked) (a ∷ these) (b ∷ those) h k =
      λ i. one_preview s answers p.edits a b h.0 k.0 i ∷ same_previews s answers asked these those h.1 k.1 i

  same_output : (s : Scene) (blocks : Blocks) (text other : List ℕ) (is_any_refused other_refused : Bool) →
      ProposesBlocks s blocks text is_any_refused → ProposesBlocks s blocks other other_refused → IsSameOutput text other is_any_refused other_refused
  same_output s (proposals asked) text other is_any_refused other_refused h k =
      let answers : h.answers ≡ k.answers = one_list s h.answers k.answers h.right k.right in
      let previews : h.previews ≡ k.previews = same_previews s k.answers asked h.previews k.previews
      (subst (λ (right : List Answer). ArePreviews s right asked h.previews) answers h.are_previews) k.are_previews in
      record {
        same_text = h.is_text ∙ ap (lines_from 1) previews ∙ sym k.is_text;
        same_verdict = h.refusal ∙ ap (list_any is_refusal) previews ∙ sym k.refusal;
      }
  same_output s (refused_at line why) text other is_any_refused other_refused h k =
      record { same_text = h.0 ∙ sym k.0; same_verdict = h.1 ∙ sym k.1 }
  same_output s unfinished text other is_any_refused other_refused h k =
      record { same_text = h.0 ∙ sym k.0; same_verdict = h.1 ∙ sym k.1 }

  pub one_output : ComeToOne
  one_output s commands text other is_any_refused other_refused h k = same_output s (blocks_of commands) text other is_any_refused other_refused h k
