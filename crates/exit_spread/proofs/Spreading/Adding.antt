-- Candidates are added: what was offered stays offered.
use Rattle.std.proofs.Common.{◌≡◌, ℕ, ◌+◌, ◌≤◌, Option, None, Some, ◌∙◌, refl, inl, inr, arith}
use Rattle.plane_geom.specs.declared.point.Point.{Point}
use Rattle.plane_geom.specs.declared.point.Dir.{Dir}
use Rattle.plane_geom.specs.declared.point.Way.{Way}
use Rattle.line_lists.specs.declared.stop.Stop.{Stop}
use Rattle.search_problem.specs.declared.problem.Problem.{Problem}
use Rattle.exit_rows.specs.declared.exit.Exit.{Exit}
use Rattle.exit_spread.specs.declared.run.Run.{Run}
use Rattle.exit_spread.specs.declared.spread.Spread.{Spread}
use Rattle.exit_spread.specs.Propagating.{Adds, IsMetAt, IsSound, IsTurnedAt, IsTurnedOff}
use Rattle.exit_spread.specs.Offers.{IsOffered}
use Rattle.exit_spread.proofs.Spreading.Still.{same_kept, still_offered}

module _ (p : Problem) (line_of : ℕ → Way → ℕ) where
  pub adds_none : (s : Spread) → IsSound p line_of s → Adds p line_of s s 0
  adds_none s sound = record { rows = λ i. s.rows; limit = refl; best = omega arith; kept = λ c has. has; count = omega arith; sound = sound }

  pub adds_both : (old mid new : Spread) (m n : ℕ) → Adds p line_of old mid m → Adds p line_of mid new n → Adds p line_of old new (m + n)
  adds_both old mid new m n f g = record {
    rows = g.rows ∙ f.rows;
    limit = g.limit ∙ f.limit;
    best = (let a = f.best in let b = g.best in omega (arith, a, b));
    kept = λ c has. g.kept c (f.kept c has);
    count = (let a = f.count in let b = g.count in omega (arith, a, b));
    sound = g.sound;
  }

  -- with room for more
  pub adds_more : (old new : Spread) (m n : ℕ) → m ≤ n → Adds p line_of old new m → Adds p line_of old new n
  adds_more old new m n upto f = record { rows = f.rows; limit = f.limit; best = f.best; kept = f.kept; count = (let a = f.count in omega (arith, a, upto)); sound = f.sound }

  module _ (old new : Spread) (n : ℕ) (adds : Adds p line_of old new n) where
    pub offered_on : (hole : Option Exit) (at : Point) (x : Exit) → IsOffered p old hole at x → IsOffered p new hole at x
    offered_on = still_offered p old new (same_kept old new adds.rows) adds.kept adds.best

    pub met_on : (r : Run) (q : Point) → IsMetAt p line_of old r q → IsMetAt p line_of new r q
    met_on r q met c behind =
        let m = met c behind in
        record { tip = offered_on None q _ m.tip; on = λ j less comes. offered_on None q _ (m.on j less comes) }

    pub turned_on : (r : Run) (h : Dir) (stop : Stop) → IsTurnedAt p line_of old r h stop → IsTurnedAt p line_of new r h stop
    turned_on r h stop turned q here may = offered_on None q _ (turned q here may)

    pub off_on : (r : Run) (h : Dir) → IsTurnedOff p line_of old r h → IsTurnedOff p line_of new r h
    off_on r h off c q behind held may = offered_on None q _ (off c q behind held may)

  -- what is offered without a hole is offered with any
  pub offered_in : (s : Spread) (hole : Option Exit) (at : Point) (x : Exit) → IsOffered p s None at x → IsOffered p s hole at x
  offered_in s hole at x (inl out) = inl out
  offered_in s hole at x (inr (inl queued)) = inr (inl queued)
  offered_in s hole at x (inr (inr (inl taken))) = inr (inr (inl taken))
  offered_in s hole at x (inr (inr (inr same))) = absurd (let wrong : ◌≡◌ {A = Option Exit} None (Some x) = same in cc)
