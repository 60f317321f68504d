-- Entries and endings, choice by choice.
use Rattle.std.proofs.Common.{◌≡◌, ◌⊎◌, ℕ, ◌+◌, ◌<◌, List, [], ◌∷◌, ◌++◌, Option, Some, All, get_or, sym, ap, subst, ◌∙◌, inl, inr, arith}
use Rattle.std.specs.Prelude.{Contains, slice_get}
use Rattle.std.proofs.lemmas.Bool.{cases_lt}
use Rattle.std.proofs.lemmas.List.Elements.{All-get_or, All-push, Contains-append_left, Contains-push}
use Rattle.std.proofs.lemmas.List.Quantifiers.{all_pairs_push}
use Rattle.std.proofs.lemmas.Option.{get_or_from_slice_get, slice_get_within}
use Rattle.plane_geom.specs.Point.{PointIsOnSheet}
use Rattle.plane_geom.specs.declared.rect.Solid.{Solid}
use Rattle.line_arena.specs.Arena.{Arena, StandsAt}
use Rattle.walk_model.specs.declared.task.Choice.{Choice}
use Rattle.walk_model.specs.declared.task.Task.{Task}
use Rattle.walk_model.specs.Choice.{IsChoice}
use Rattle.walk_model.specs.Legal.{IsTask}
use Rattle.move_model.specs.declared.place.Place.{Place}
use Rattle.move_model.specs.Places.{HasFreeStub, IsEntry}
use Rattle.search_problem.specs.Ends.{AreEndings, AreEntries, IsEndingOf, IsEntryOf}
use Rattle.search_problem.specs.Origins.{IsSmallEntry}
use Rattle.search_problem.specs.declared.ends.Ending.{Ending}
use Rattle.search_problem.specs.declared.ends.Entry.{Entry}
use Rattle.search_problem.proofs.StubLengths.{short_stub}

-- a number below the next is below this one, or is this one
below_next : (n k : ℕ) → n < k + 1 → (n < k) ⊎ (n ≡ k)
below_next n k h = elim (cases_lt n k) as (λ _. (n < k) ⊎ (n ≡ k)) [ inl l ↦ inl l | inr g ↦ inr (omega (arith, g, h)) ]

same_choice : (c d : Choice) → ◌≡◌ {A = Option Choice} (Some c) (Some d) → c ≡ d
same_choice c d e = cc

-- the choice at a place is one of the choices
pub is_choice : (choices : List Choice) (k : ℕ) (c : Choice) → All IsChoice choices → slice_get choices k ≡ Some c → IsChoice c
is_choice choices k c all is = subst IsChoice (get_or_from_slice_get choices k c c is) (All-get_or IsChoice choices k c (slice_get_within choices k c is) all)

module _ (solids : List Solid) (a : Arena) (task : Task) where
  -- the ports of entries lie on the sheet, and their leads are short
  pub entries_small : (count : ℕ) (es : List Entry) → IsTask task → AreEntries solids a task count es → All IsSmallEntry es
  entries_small count es h are = λ k d lt.
      let e = get_or es k d in
      let s = (are.sound k d lt).1 in
      let of : IsEntryOf solids a task s e = (are.sound k d lt).2 in
      let choice = is_choice task.starts e.choice s h.starts.each of.is_start in
      let short = short_stub s choice in
      record { port = subst PointIsOnSheet (sym of.port) choice.port; lead = omega (arith, of.lead, short, choice.cost) }

  module _ (count : ℕ) (es : List Entry) (are : AreEntries solids a task count es) (s : Choice) (is : slice_get task.starts count ≡ Some s) where
    -- the next choice has no entry
    pub entries_none : ((x : Place) → IsEntry solids a task.via s x → ⊥) → AreEntries solids a task (count + 1) es
    entries_none none = record {
      sound = λ k d lt. (let e = get_or es k d in let h = are.sound k d lt in (omega (arith, h.0), h.1, h.2));
      complete = λ n c x less at enters. by_place n c x at enters (below_next n count less);
      ordered = are.ordered;
    }
      where
        by_place : (n : ℕ) (c : Choice) (x : Place) → slice_get task.starts n ≡ Some c → IsEntry solids a task.via c x → (n < count) ⊎ (n ≡ count) → (e : Entry) × Contains es e × (e.choice ≡ n)
        by_place n c x at enters (inl less) = are.complete n c x less at enters
        by_place n c x at enters (inr same) =
            let one : c ≡ s = same_choice c s (sym at ∙ ap (slice_get task.starts) same ∙ is) in
            absurd (none x (subst (λ (d : Choice). IsEntry solids a task.via d x) one enters))

    -- the next choice has this one
    pub entries_more : (e : Entry) → e.choice ≡ count → IsEntryOf solids a task s e → AreEntries solids a task (count + 1) (es ++ e ∷ [])
    entries_more e number of = record {
      sound = All-push (λ (k : Entry). (k.choice < count + 1) × (c : Choice) × IsEntryOf solids a task c k) es e
          (λ k d lt. (let h = are.sound k d lt in (omega (arith, h.0), h.1, h.2))) (omega (arith, number), s, of);
      complete = λ n c x less at enters. by_place n c x at enters (below_next n count less);
      ordered = all_pairs_push (λ (d k : Entry). d.choice < k.choice) es e are.ordered (λ k d lt. (let h = are.sound k d lt in omega (arith, h.0, number)));
    }
      where
        by_place : (n : ℕ) (c : Choice) (x : Place) → slice_get task.starts n ≡ Some c → IsEntry solids a task.via c x → (n < count) ⊎ (n ≡ count)
            → (k : Entry) × Contains (es ++ e ∷ []) k × (k.choice ≡ n)
        by_place n c x at enters (inl less) = let f = are.complete n c x less at enters in (f.0, Contains-append_left es (e ∷ []) f.0 f.1, f.2)
        by_place n c x at enters (inr same) = (e, Contains-push es e, number ∙ sym same)

  module _ (count : ℕ) (es : List Ending) (are : AreEndings solids a task count es) (s : Choice) (is : slice_get task.ends count ≡ Some s) where
    pub endings_none : (HasFreeStub solids s → (c : ℕ) → StandsAt a c s.port → ⊥) → AreEndings solids a task (count + 1) es
    endings_none none = record {
      sound = λ k d lt. (let h = are.sound k d lt in (omega (arith, h.0), h.1, h.2));
      complete = λ n crossing c less at free here. by_place n crossing c at free here (below_next n count less);
      ordered = are.ordered;
    }
      where
        by_place : (n crossing : ℕ) (c : Choice) → slice_get task.ends n ≡ Some c → HasFreeStub solids c → StandsAt a crossing c.port → (n < count) ⊎ (n ≡ count)
            → (e : Ending) × Contains es e × (e.choice ≡ n)
        by_place n crossing c at free here (inl less) = are.complete n crossing c less at free here
        by_place n crossing c at free here (inr same) =
            let one : c ≡ s = same_choice c s (sym at ∙ ap (slice_get task.ends) same ∙ is) in
            absurd (none (subst (HasFreeStub solids) one free) crossing (subst (λ (d : Choice). StandsAt a crossing d.port) one here))

    pub endings_more : (e : Ending) → e.choice ≡ count → IsEndingOf solids a task s e → AreEndings solids a task (count + 1) (es ++ e ∷ [])
    endings_more e number of = record {
      sound = All-push (λ (k : Ending). (k.choice < count + 1) × (c : Choice) × IsEndingOf solids a task c k) es e
          (λ k d lt. (let h = are.sound k d lt in (omega (arith, h.0), h.1, h.2))) (omega (arith, number), s, of);
      complete = λ n crossing c less at free here. by_place n crossing c at free here (below_next n count less);
      ordered = all_pairs_push (λ (d k : Ending). d.choice < k.choice) es e are.ordered (λ k d lt. (let h = are.sound k d lt in omega (arith, h.0, number)));
    }
      where
        by_place : (n crossing : ℕ) (c : Choice) → slice_get task.ends n ≡ Some c → HasFreeStub solids c → StandsAt a crossing c.port → (n < count) ⊎ (n ≡ count)
            → (k : Ending) × Contains (es ++ e ∷ []) k × (k.choice ≡ n)
        by_place n crossing c at free here (inl less) = let f = are.complete n crossing c less at free here in (f.0, Contains-append_left es (e ∷ []) f.0 f.1, f.2)
        by_place n crossing c at free here (inr same) = (e, Contains-push es e, number ∙ sym same)
