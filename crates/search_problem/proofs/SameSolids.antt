-- Entries and endings among solids in another order.
use Rattle.std.proofs.Common.{◌≢◌, ◌↔◌, ℕ, List, get_or}
use Rattle.std.proofs.Math.Logic.{∥∥₁_elim}
use Rattle.std.proofs.lemmas.List.Sorted.{All-permutation, IsPermutation-sym}
use Rattle.plane_geom.specs.declared.rect.Solid.{Solid}
use Rattle.plane_geom.specs.Rect.{Meets}
use Rattle.line_arena.specs.Arena.{Arena}
use Rattle.walk_model.specs.declared.task.Choice.{Choice}
use Rattle.walk_model.specs.declared.task.Task.{Task}
use Rattle.move_model.specs.Places.{HasFreeStub, IsEntry}
use Rattle.search_problem.specs.Ends.{AreEndings, AreEntries}
use Rattle.search_problem.specs.Stubs.{AreSame}
use Rattle.search_problem.specs.declared.ends.Ending.{Ending}
use Rattle.search_problem.specs.declared.ends.Entry.{Entry}

module _ (xs ys : List Solid) (same : AreSame xs ys) where
  -- the same stubs are free
  pub free_same : (c : Choice) → HasFreeStub xs c ↔ HasFreeStub ys c
  free_same c = (
    λ free k d lt other meets. ∥∥₁_elim same (λ (x y : ⊥). absurd x)
        (λ moved. All-permutation (λ (s : Solid). s.node ≢ c.node → Meets s.rect c.pin c.port → ⊥) xs ys moved free k d lt other meets),
    λ free k d lt other meets. ∥∥₁_elim same (λ (x y : ⊥). absurd x)
        (λ moved. All-permutation (λ (s : Solid). s.node ≢ c.node → Meets s.rect c.pin c.port → ⊥) ys xs (IsPermutation-sym xs ys moved) free k d lt other meets),
  )

  pub entries_same : (a : Arena) (task : Task) (count : ℕ) (es : List Entry) → AreEntries ys a task count es → AreEntries xs a task count es
  entries_same a task count es are = record {
    sound = λ k d lt.
        let h = are.sound k d lt in
        let of = h.2 in
        let enters : IsEntry xs a task.via h.1 (get_or es k d).place = record { free = (free_same h.1).1 of.enters.free; here = of.enters.here; heading = of.enters.heading; stage = of.enters.stage } in
        (h.0, h.1, record { is_start = of.is_start; port = of.port; enters = enters; lead = of.lead });
    complete = λ n s x less at enters.
        are.complete n s x less at (record { free = (free_same s).0 enters.free; here = enters.here; heading = enters.heading; stage = enters.stage });
    ordered = are.ordered;
  }

  pub endings_same : (a : Arena) (task : Task) (count : ℕ) (es : List Ending) → AreEndings ys a task count es → AreEndings xs a task count es
  endings_same a task count es are = record {
    sound = λ k d lt.
        let h = are.sound k d lt in
        let of = h.2 in
        (h.0, h.1, record { is_end = of.is_end; port = of.port; free = (free_same h.1).1 of.free; here = of.here; dir = of.dir; stub = of.stub; rest = of.rest });
    complete = λ n crossing c less at free here. are.complete n crossing c less at ((free_same c).0 free) here;
    ordered = are.ordered;
  }
