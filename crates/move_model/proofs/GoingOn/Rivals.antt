-- No legal walk stands before a first one.
use Rattle.std.proofs.Common.{◌≡◌, ◌≢◌, ◌≤◌, List, [], ◌∷◌, ◌++◌, refl, sym, ap, ◌∙◌, inl, inr}
use Rattle.std.specs.declared.cmp.Ordering.{Ordering}
use Rattle.std.specs.declared.cmp.Ordering.TheVariants.{Equal, Greater}
use Rattle.std.specs.Cmp.Lexicographic.{slice_cmp}
use Rattle.std.specs.Cmp.{nat_cmp_is}
use Rattle.std.specs.Ordering.{nat_cmp, int_cmp, ordering_reverse, ordering_then}
use Rattle.std.proofs.lemmas.Bool.{cases_lt}
use Rattle.std.proofs.lemmas.Cmp.{int_cmp_total, nat_cmp_total, tied_itself}
use Rattle.plane_geom.specs.declared.point.Dir.{Dir}
use Rattle.plane_geom.specs.declared.rect.Solid.{Solid}
use Rattle.walk_model.specs.declared.task.Task.{Task}
use Rattle.walk_model.specs.Order.{IsFirst, IsLegalTriple, Triple, compare_triples, dir_cmp}
use Rattle.walk_model.proofs.Ranking.First.{triples_total}
use Rattle.walk_model.proofs.Ranking.Keys.{then_assoc}
use Rattle.walk_model.proofs.Ranking.StepLists.{slice_cmp-stretch}
use Rattle.move_model.specs.declared.ahead.Ahead.{Ahead}
use Rattle.move_model.specs.Ahead.{ahead_cmp, whole}

ahead_tied : (v : Ahead) → ahead_cmp v v ≡ Equal
ahead_tied v =
    ap (λ o. ordering_then o (ordering_then (nat_cmp v.runs v.runs) (int_cmp v.lean v.lean))) (tied_itself nat_cmp_total v.cost)
    ∙ ap (λ o. ordering_then o (int_cmp v.lean v.lean)) (tied_itself nat_cmp_total v.runs)
    ∙ tied_itself int_cmp_total v.lean

module _ (solids : List Solid) (task : Task) (t u : Triple) (first : IsFirst solids task t) (legal : IsLegalTriple solids task u) where
  not_later : compare_triples task t u ≢ Greater
  not_later h = first.first u legal ((triples_total task).antisymm u t ∙ ap ordering_reverse h)

  abbrev behind : Ordering
  behind = ordering_then (slice_cmp dir_cmp t.walk.steps u.walk.steps) (nat_cmp t.end u.end)

  by_whole : compare_triples task t u ≡ ordering_then (ahead_cmp (whole task t) (whole task u)) (ordering_then (nat_cmp t.start u.start) behind)
  by_whole =
      let v = whole task t in
      let w = whole task u in
      let rest = ordering_then (nat_cmp t.start u.start) behind in
      sym (then_assoc (nat_cmp v.cost w.cost) (ordering_then (nat_cmp v.runs w.runs) (int_cmp v.lean w.lean)) rest
      ∙ ap (ordering_then (nat_cmp v.cost w.cost)) (then_assoc (nat_cmp v.runs w.runs) (int_cmp v.lean w.lean) rest))

  pub least : ahead_cmp (whole task t) (whole task u) ≢ Greater
  least h = not_later (by_whole ∙ ap (λ o. ordering_then o (ordering_then (nat_cmp t.start u.start) behind)) h)

  module _ (same : whole task u ≡ whole task t) where
    tied : compare_triples task t u ≡ ordering_then (nat_cmp t.start u.start) behind
    tied = by_whole ∙ ap (λ o. ordering_then o (ordering_then (nat_cmp t.start u.start) behind)) (ap (ahead_cmp (whole task t)) same ∙ ahead_tied (whole task t))

    pub start_no_later : t.start ≤ u.start
    start_no_later = elim (cases_lt u.start t.start) as (λ _. t.start ≤ u.start) [
      | inl l ↦ absurd (not_later (tied ∙ ap (λ o. ordering_then o behind) (sym (nat_cmp_is t.start u.start Greater l))))
      | inr l ↦ l
    ]

    pub steps_no_later : u.start ≡ t.start → behind ≢ Greater
    steps_no_later e h = not_later (tied ∙ ap (λ o. ordering_then o behind) (sym (nat_cmp_is t.start u.start Equal (sym e))) ∙ h)

-- steps in common
pub common_front : (front xs ys : List Dir) → slice_cmp dir_cmp (front ++ xs) (front ++ ys) ≡ slice_cmp dir_cmp xs ys
common_front [] xs ys = refl
common_front (d ∷ front) xs ys = slice_cmp-stretch 1 d (front ++ xs) (front ++ ys) ∙ common_front front xs ys
