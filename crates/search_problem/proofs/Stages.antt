-- The origins of walks, stage by stage.
use Rattle.std.proofs.Common.{◌≡◌, ◌⊎◌, ℕ, ◌+◌, ◌<◌, ◌≤◌, List, [], ◌∷◌, ◌++◌, Some, All, length, get_or, sym, ap, subst, ◌∙◌, inl, inr, arith, length-append}
use Rattle.std.specs.Prelude.{Vec}
use Rattle.std.specs.declared.alloc.Global.{Global}
use Rattle.std.proofs.lemmas.Bool.{cases_lt}
use Rattle.std.proofs.lemmas.List.{get_or_append_left, get_or_at}
use Rattle.std.proofs.lemmas.Option.{slice_get-get_or}
use Rattle.plane_geom.specs.declared.point.Point.{Point}
use Rattle.search_problem.specs.Bounds.{AreStages, checkpoint, origins_after, origins_at, origins_in}
use Rattle.search_problem.specs.Origins.{IsOrigin}
use Rattle.search_problem.specs.declared.origin.Origin.{Origin}

module _ (stages : List (Vec Origin Global)) (v : Vec Origin Global) where
  -- what is read of the stages are the origins there
  pub read_stage : (k : ℕ) → k < length stages → v ≡ get_or stages k v → origins_after stages k ≡ v.items
  read_stage k within is = ap origins_in (slice_get-get_or stages k v within ∙ ap Some (sym is))

  -- one more stage leaves the others as they are
  pub kept_stage : (k : ℕ) → k < length stages → origins_after (stages ++ v ∷ []) k ≡ origins_after stages k
  kept_stage k within =
      ap origins_in (slice_get-get_or (stages ++ v ∷ []) k v (omega (arith, within, length-append stages (v ∷ [])))
      ∙ ap Some (get_or_append_left stages (v ∷ []) v k within)
      ∙ sym (slice_get-get_or stages k v within))

  last_stage : (k : ℕ) → length stages ≡ k → origins_after (stages ++ v ∷ []) k ≡ v.items
  last_stage k long =
      ap origins_in (slice_get-get_or (stages ++ v ∷ []) k v (omega (arith, long, length-append stages (v ∷ [])))
      ∙ ap Some (get_or_at stages v [] v k long))

  -- and the stages are those of one more checkpoint
  pub next_stage : (penalty : ℕ) (via : List Point) (k : ℕ) → length stages ≡ k + 1 → AreStages penalty via stages →
      v.items ≡ origins_at penalty (origins_after stages k) (checkpoint via k) → All IsOrigin v.items → AreStages penalty via (stages ++ v ∷ [])
  next_stage penalty via k long are is all = record { each = λ i within. each_of i within (cases_lt i (k + 1)); next = λ i within. next_of i within (cases_lt i k) }
    where
      each_of : (i : ℕ) → i < length (stages ++ v ∷ []) → (i < k + 1) ⊎ (k + 1 ≤ i) → All IsOrigin (origins_after (stages ++ v ∷ []) i)
      each_of i within (inl before) = subst (All IsOrigin) (sym (kept_stage i (omega (arith, before, long)))) (are.each i (omega (arith, before, long)))
      each_of i within (inr last) =
          let number : k + 1 ≡ i = omega (arith, last, within, long, length-append stages (v ∷ [])) in
          subst (λ j. All IsOrigin (origins_after (stages ++ v ∷ []) j)) number (subst (All IsOrigin) (sym (last_stage (k + 1) long)) all)

      next_of : (i : ℕ) → i + 1 < length (stages ++ v ∷ []) → (i < k) ⊎ (k ≤ i) → origins_after (stages ++ v ∷ []) (i + 1) ≡ origins_at penalty (origins_after (stages ++ v ∷ []) i) (checkpoint via i)
      next_of i within (inl before) =
          kept_stage (i + 1) (omega (arith, before, long)) ∙ are.next i (omega (arith, before, long))
          ∙ ap (λ os. origins_at penalty os (checkpoint via i)) (sym (kept_stage i (omega (arith, before, long))))
      next_of i within (inr last) =
          let number : k ≡ i = omega (arith, last, within, long, length-append stages (v ∷ [])) in
          subst (λ j. origins_after (stages ++ v ∷ []) (j + 1) ≡ origins_at penalty (origins_after (stages ++ v ∷ []) j) (checkpoint via j)) number
          (last_stage (k + 1) long ∙ is ∙ ap (λ os. origins_at penalty os (checkpoint via k)) (sym (kept_stage k (omega (arith, long)))))
