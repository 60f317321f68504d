-- Each checkpoint so far has been tried.
use Rattle.std.proofs.Common.{◌≡◌, ℕ, ◌+◌, ◌<◌, ◌≤◌, List, length, get_or, sym, subst, arith, true≢false}
use Rattle.std.specs.Prelude.{Any}
use Rattle.std.proofs.lemmas.List.{get_or_default}
use Rattle.plane_geom.specs.declared.point.Point.{Point}
use Rattle.plane_geom.specs.Floor.{Holds}
use Rattle.segment_order.specs.declared.run.Run.{Run}
use Rattle.segment_order.specs.Run.{line_of_run}
use Rattle.channel_bundles.proofs.Trees.{cases_same}
use Rattle.channel_bundles.proofs.route.PhaseRoute.has_checkpoint_on.Goals as goal

more : (run : Run) (via read : List Point) (i : ℕ) (e : Point) → read ≡ via → i < length read → ((k : ℕ) (d : Point) → k < i → Holds (line_of_run run) (get_or via k d) → ⊥) → (Holds (line_of_run run) (get_or read i e) → ⊥) →
    (k : ℕ) (d : Point) → k < i + 1 → Holds (line_of_run run) (get_or via k d) → ⊥
more run via read i e same h before not k d below = cases_same k i
    (λ now. subst (λ n. Holds (line_of_run run) (get_or via n d) → ⊥) (sym now) (λ holds. not (subst (λ xs. Holds (line_of_run run) (get_or xs i e)) (sym same) (subst (λ p. Holds (line_of_run run) p) (get_or_default via i d e (subst (λ xs. i < length xs) same h)) holds))))
    (λ ne. before k d (omega arith))

none : (run : Run) (via read : List Point) (i : ℕ) → read ≡ via → length read ≤ i → ((k : ℕ) (d : Point) → k < i → Holds (line_of_run run) (get_or via k d) → ⊥) → Any (Holds (line_of_run run)) via → ⊥
none run via read i same all before (k, p, h, e, holds) = before k p (omega (arith, subst (λ xs. length xs ≤ i) same all)) (subst (λ q. Holds (line_of_run run) q) (sym e) holds)

pub loop-p-preserved : goal.loop-p-preserved
loop-p-preserved c = more c.args.run.now _ _ _ _ c.deref-p-items.ensures.value c.loop-p-test.true c.loop-p.invariant (λ holds. true≢false (sym (c.if-holds.ensures.1 holds)))

pub returns : goal.returns
returns c = (λ t. absurd (true≢false (sym t)), λ some. absurd (none c.args.run.now _ _ _ c.deref-p-items.ensures.value c.loop-p-test.false c.loop-p.invariant some))
