-- Which endings give what is ahead of a place.
use Rattle.std.proofs.Common.{◌≡◌, ◌≢◌, ◌==◌, ◌&&◌, Bool, true, false, if◌then◌else◌, fold, Option, None, Some, List, [], ◌∷◌, length, refl, ap, ◌∙◌}
use Rattle.std.proofs.lemmas.Bool.{and_from, and_parts}
use Rattle.std.proofs.lemmas.Bool.Decides.{Decides-eqb}
use Rattle.move_model.specs.declared.ahead.Ahead.{Ahead}
use Rattle.move_model.specs.declared.place.Place.{Place}
use Rattle.search_problem.specs.declared.ends.Ending.{Ending}
use Rattle.search_problem.specs.declared.problem.Problem.{Problem}
use Rattle.exit_rows.specs.Exits.{lesser}
use Rattle.exit_spread.specs.Known.{ahead_by, by_ending}

module _ (p : Problem) (x : Place) where
  -- one at the crossing of a place that has passed all checkpoints does
  pub ends_here : (e : Ending) → e.crossing ≡ x.crossing → x.stage ≡ length p.task.now.via → by_ending p x e ≡ Some (ahead_by p x e)
  ends_here e here last =
      ap (λ (t : Bool). if t then Some (ahead_by p x e) else None)
      (and_from (e.crossing == x.crossing) (x.stage == length p.task.now.via) ((Decides-eqb e.crossing x.crossing).1 here) ((Decides-eqb x.stage (length p.task.now.via)).1 last))

  -- any other leaves the least as it is
  keeps_least : (e : Ending) (least : Option Ahead) → ((e.crossing ≡ x.crossing) × (x.stage ≡ length p.task.now.via) → ⊥) → lesser least (by_ending p x e) ≡ least
  keeps_least e least not_here = by_test (e.crossing == x.crossing && x.stage == length p.task.now.via) refl least
    where
      by_test : (t : Bool) → (e.crossing == x.crossing && x.stage == length p.task.now.via) ≡ t → (v : Option Ahead) → lesser v (if t then Some (ahead_by p x e) else None) ≡ v
      by_test true test v =
          let both = and_parts (e.crossing == x.crossing) (x.stage == length p.task.now.via) test in
          absurd (not_here ((Decides-eqb e.crossing x.crossing).0 both.0, (Decides-eqb x.stage (length p.task.now.via)).0 both.1))
      by_test false test None = refl
      by_test false test (Some v) = refl

  pub ends_elsewhere : (e : Ending) (least : Option Ahead) → e.crossing ≢ x.crossing → lesser least (by_ending p x e) ≡ least
  ends_elsewhere e least other = keeps_least e least (λ h. other h.0)

  pub none_ends : (es : List Ending) (least : Option Ahead) → x.stage ≢ length p.task.now.via → fold (λ least e. lesser least (by_ending p x e)) least es ≡ least
  none_ends [] least before = refl
  none_ends (e ∷ es) least before = none_ends es (lesser least (by_ending p x e)) before ∙ keeps_least e least (λ h. before h.1)
