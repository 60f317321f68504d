-- The order of two lists of steps, stretch by stretch.
use Rattle.std.proofs.Common.{◌≡◌, ℕ, suc, zero, ◌+◌, ◌-◌, ◌<◌, ◌≤◌, min, List, ◌++◌, length, replicate, drop, refl, sym, ap, ◌∙◌, arith, length-append, length-drop, append_assoc}
use Rattle.std.specs.Cmp.Lexicographic.{slice_cmp}
use Rattle.std.proofs.lemmas.List.{length-replicate, replicate-append-replicate}
use Rattle.std.proofs.lemmas.Cmp.{ranked}
use Rattle.std.specs.declared.cmp.Ordering.{Ordering}
use Rattle.std.specs.declared.cmp.Ordering.TheVariants.{Less, Equal, Greater}
use Rattle.std.specs.Ordering.{ordering_then}
use Rattle.plane_geom.specs.declared.point.Dir.{Dir}
use Rattle.walk_model.specs.declared.steps.RemainingSteps.{RemainingSteps}
use Rattle.walk_model.specs.Line.{steps_through}
use Rattle.walk_model.specs.Order.{dir_cmp, rank}
use Rattle.walk_model.specs.RemainingSteps.{IsReady, remaining_steps}
use Rattle.walk_model.proofs.Ranking.Deciding.{same_rank}
use Rattle.walk_model.proofs.Ranking.StepLists.{drop-stretch, slice_cmp-stretch}

-- two lists of steps in the order of two others
pub record SameOrder (a b a' b' : RemainingSteps) : Type 0 where
  pub a_ready : IsReady a'
  pub b_ready : IsReady b'
  pub order : slice_cmp dir_cmp (remaining_steps a') (remaining_steps b') ≡ slice_cmp dir_cmp (remaining_steps a) (remaining_steps b)

-- a stretch is the steps of its front and the others
stretch_front : (s : RemainingSteps) (k : ℕ) → k ≤ s.stretch → remaining_steps s ≡ replicate k s.dir ++ drop k (remaining_steps s)
stretch_front s k h =
    let ds = steps_through s.at s.rest.now in
    ap (λ n. replicate n s.dir ++ ds) (let e : s.stretch ≡ k + (s.stretch - k) = omega arith in e)
    ∙ ap (λ xs. xs ++ ds) (sym (replicate-append-replicate k (s.stretch - k) s.dir))
    ∙ append_assoc (replicate k s.dir) (replicate (s.stretch - k) s.dir) ds
    ∙ ap (λ xs. replicate k s.dir ++ xs) (sym (drop-stretch k s.stretch s.dir ds h))

-- where both begin with the same steps, these may be left out
pub same_after : (a b a' b' c d : RemainingSteps) (k : ℕ) → k ≡ min a'.stretch b'.stretch → a'.dir ≡ b'.dir → IsReady c → IsReady d →
    remaining_steps c ≡ drop k (remaining_steps a') → remaining_steps d ≡ drop k (remaining_steps b') → SameOrder a b a' b' → SameOrder a b c d
same_after a b a' b' c d k e same c_ready d_ready left right so =
    let one : remaining_steps a' ≡ replicate k a'.dir ++ remaining_steps c =
    stretch_front a' k (omega (arith, e)) ∙ ap (λ xs. replicate k a'.dir ++ xs) (sym left) in
    let other : remaining_steps b' ≡ replicate k a'.dir ++ remaining_steps d =
    stretch_front b' k (omega (arith, e)) ∙ ap (λ (f : Dir). replicate k f ++ drop k (remaining_steps b')) (sym same) ∙ ap (λ xs. replicate k a'.dir ++ xs) (sym right) in
    record {
      a_ready = c_ready;
      b_ready = d_ready;
      order = sym (slice_cmp-stretch k a'.dir (remaining_steps c) (remaining_steps d)) ∙ ap (λ xs. slice_cmp dir_cmp xs (replicate k a'.dir ++ remaining_steps d)) (sym one)
          ∙ ap (slice_cmp dir_cmp (remaining_steps a')) (sym other) ∙ so.order;
    }

-- fewer steps are left
pub fewer_after : (a c : RemainingSteps) (k : ℕ) → 0 < k → k ≤ a.stretch → remaining_steps c ≡ drop k (remaining_steps a) → length (remaining_steps c) < length (remaining_steps a)
fewer_after a c k some within left =
    let ds = steps_through a.at a.rest.now in
    omega (arith, ap length left, length-drop k (remaining_steps a), length-append (replicate a.stretch a.dir) ds, length-replicate a.stretch a.dir)

different : (o p : Ordering) → (o ≡ Equal → ⊥) → ordering_then o p ≡ o
different Less p h = refl
different Equal p h = absurd (h refl)
different Greater p h = refl

-- where the first steps differ, they decide
pub slice_cmp-different : (d e : Dir) (m n : ℕ) (xs ys : List Dir) → 0 < m → 0 < n → (d ≡ e → ⊥) → slice_cmp dir_cmp (replicate m d ++ xs) (replicate n e ++ ys) ≡ dir_cmp d e
slice_cmp-different d e zero n xs ys h k not = absurd (omega arith)
slice_cmp-different d e (suc m) zero xs ys h k not = absurd (omega arith)
slice_cmp-different d e (suc m) (suc n) xs ys h k not =
    different (dir_cmp d e) _ (λ same. not (same_rank d e (ranked (rank d) (rank e) Equal (sym same))))
