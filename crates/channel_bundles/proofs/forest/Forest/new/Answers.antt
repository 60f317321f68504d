-- The number that is put last stands above itself.
use Rattle.std.proofs.Common.{◌≡◌, ℕ, ◌+◌, ◌<◌, List, [], ◌∷◌, ◌++◌, length, get_or, subst, sym, ◌∙◌, arith}
use Rattle.std.proofs.lemmas.List.{length_push, get_or_append_left, get_or_push}
use Rattle.channel_bundles.proofs.Trees.{cases_below}
use Rattle.channel_bundles.proofs.forest.Forest.new.Goals as goal

own_more : (xs ys : List ℕ) (n : ℕ) → ys ≡ xs ++ n ∷ [] → length xs ≡ n → ((k : ℕ) → k < n → get_or xs k 0 ≡ k) → (length ys ≡ n + 1) × ((k : ℕ) → k < n + 1 → get_or ys k 0 ≡ k)
own_more xs ys n is all own = subst (λ (zs : List ℕ). (length zs ≡ n + 1) × ((k : ℕ) → k < n + 1 → get_or zs k 0 ≡ k)) (sym is) (
  omega (arith, length_push xs n, all),
  λ k h. cases_below k n
      (λ less. get_or_append_left xs (n ∷ []) 0 k (omega (arith, less, all)) ∙ own k less)
      (λ from. let last : n ≡ k = omega (arith, from, h) in get_or_push xs n 0 k (all ∙ last) ∙ last),
)

pub loop-number-preserved : goal.loop-number-preserved
loop-number-preserved c = own_more _ _ _ c.in_ok-push.ensures.items c.loop-number.invariant.0 c.loop-number.invariant.1
