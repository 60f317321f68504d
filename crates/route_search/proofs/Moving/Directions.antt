-- The directions in their order.
use Rattle.std.proofs.Common.{◌≡◌, ℕ, suc, zero, ◌<◌, ◌≤◌, List, [], ◌∷◌, get_or, refl, sym, subst, arith}
use Rattle.plane_geom.specs.declared.point.Dir.{Dir}
use Rattle.plane_geom.specs.declared.point.Dir.TheVariants.{East, South, West, North}
use Rattle.walk_model.specs.Order.{rank}

abbrev pub directions : List Dir
directions = East ∷ South ∷ West ∷ North ∷ []

rank_at : (k : ℕ) (x : Dir) → k < 4 → rank (get_or directions k x) ≡ k
rank_at zero x h = refl
rank_at (suc zero) x h = refl
rank_at (suc (suc zero)) x h = refl
rank_at (suc (suc (suc zero))) x h = refl
rank_at (suc (suc (suc (suc k)))) x h = absurd (omega (arith, h))

at_rank : (d : Dir) → get_or directions (rank d) East ≡ d
at_rank East = refl
at_rank South = refl
at_rank West = refl
at_rank North = refl

few_ranks : (d : Dir) → rank d < 4
few_ranks East = omega arith
few_ranks South = omega arith
few_ranks West = omega arith
few_ranks North = omega arith

pub same_rank : (d e : Dir) → rank d ≡ rank e → d ≡ e
same_rank d e h = subst (λ x. x ≡ e) (at_rank d) (subst (λ k. get_or directions k East ≡ e) (sym h) (at_rank e))

module _ (P : Dir → Type 0) (k : ℕ) (h : (i : ℕ) → i < k → P (get_or directions i East)) where
  -- what holds of those before holds of each earlier direction
  pub each_before : (x e : Dir) → k < 4 → rank e < rank (get_or directions k x) → P e
  each_before x e few less = subst P (at_rank e) (h (rank e) (omega (arith, less, rank_at k x few)))

  pub each : 4 ≤ k → (e : Dir) → P e
  each all e = subst P (at_rank e) (h (rank e) (omega (arith, all, few_ranks e)))
