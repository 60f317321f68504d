-- What was propagated is propagated still, while exits are offered and kept.
use Rattle.std.proofs.Common.{◌≡◌, ◌⊎◌, ℕ, Option, Some, None, ◌*◌, refl, sym, ap, ◌∙◌, subst, inl, inr, arith}
use Rattle.std.specs.Prelude.{All, Contains}
use Rattle.plane_geom.specs.declared.point.Point.{Point}
use Rattle.plane_geom.specs.declared.point.Dir.{Dir}
use Rattle.plane_geom.specs.declared.point.Dir.TheVariants.{East, South, West, North}
use Rattle.plane_geom.specs.declared.point.Way.{Way}
use Rattle.plane_geom.specs.Along.{reach, way_of}
use Rattle.plane_geom.specs.Point.{opposite}
use Rattle.line_arena.specs.Arena.{StandsAt}
use Rattle.line_lists.specs.Lists.{Lists}
use Rattle.search_problem.specs.declared.problem.Problem.{Problem}
use Rattle.exit_rows.specs.Exits.{IsUndercut, ahead_at}
use Rattle.exit_rows.specs.Rows.{HasRow, IsMarked, SameRooms, kept_in}
use Rattle.exit_rows.specs.declared.exit.Exit.{Exit}
use Rattle.exit_rows.specs.declared.exit.Kept.{Kept}
use Rattle.exit_rows.specs.declared.rows.Rows.{Rows}
use Rattle.exit_spread.specs.declared.spread.Spread.{Spread}
use Rattle.exit_spread.specs.Propagating.{Adds, IsSound}
use Rattle.exit_spread.specs.Offers.{IsPropagatedAt, IsPropagated, IsOffered, exit_of}
use Rattle.exit_spread.specs.Searching.{IsKeptOf, IsSearching, KeptIn}
use Rattle.exit_spread.specs.Taking.{Grows}
use Rattle.exit_spread.specs.Ways.{place_at, turned}
use Rattle.exit_spread.proofs.Spreading.Adding.{offered_on}
use Rattle.exit_spread.proofs.Spreading.Still.{AllKept, any_in, same_kept, still_offered}

pub by_heading : (P : Dir → Type 0) → P East → P South → P West → P North → (d : Dir) → P d
by_heading P e s w n East = e
by_heading P e s w n South = s
by_heading P e s w n West = w
by_heading P e s w n North = n

-- exits that were propagated are propagated still, if what was offered is
module _ (p : Problem) (number_of : ℕ → Way → ℕ) (old new : Spread) (hole now : Option Exit)
    (offered : (q : Point) (x : Exit) → StandsAt p.arena.now x.place.crossing q → IsOffered p old hole q x → IsOffered p new now q x) where
  pub propagated_at : (k : ℕ) (d : Dir) (e : Kept) (c : ℕ) (r : Point) → StandsAt p.arena.now c r → IsPropagatedAt p number_of old hole k d e c r → IsPropagatedAt p number_of new now k d e c r
  propagated_at k d e c r here h = record {
    turns = λ g turns held begins. offered r (exit_of number_of (place_at c k g) (Some d) (turned p g r d (ahead_at e (reach d r)))) here (h.turns g turns held begins);
    tips = λ via. offered r (exit_of number_of (place_at c k (opposite d)) None (turned p (opposite d) r d (ahead_at e (reach d r)))) here (h.tips via);
    ons = λ j less comes. offered r (exit_of number_of (place_at c k d) None (ahead_at e (reach d r))) here (h.ons j less comes);
  }

  pub propagated_still : AllKept old new → (k line : ℕ) (d : Dir) (e : Kept) → IsPropagated p number_of old hole k line d e → IsPropagated p number_of new now k line d e
  propagated_still rows k line d e h c r here on counts =
      elim (h c r here on counts) as (λ _. IsUndercut (kept_in new.rows k line d) e (reach d r) ⊎ IsPropagatedAt p number_of new now k d e c r) [
        | inl cut ↦ inl (any_in _ (kept_in old.rows k line d) (kept_in new.rows k line d) (rows k line d) cut)
        | inr at ↦ inr (propagated_at k d e c r here at)
      ]

  -- the rows stay as they are
  pub same_searching : new.rows ≡ old.rows → IsSound p number_of new → (but : Option KeptIn) → IsSearching p number_of old hole but → IsSearching p number_of new now but
  same_searching same sound but s = record {
    kept = λ k c d at here. subst (λ (t : Rows). All (IsKeptOf p number_of k (number_of c (way_of d)) d) (kept_in t k (number_of c (way_of d)) d)) (sym same) (s.kept k c d at here);
    propagated = λ k c d at e here has other. propagated_still (same_kept old new same) k (number_of c (way_of d)) d e
        (s.propagated k c d at e here (subst (λ (t : Rows). Contains (kept_in t k (number_of c (way_of d)) d) e) same has) other);
    candidates = sound.candidates;
    best = sound.best;
    marked = subst IsMarked (sym same) s.marked;
    rooms = λ k c d at few here. subst (λ (t : Rows). HasRow t k (number_of c (way_of d))) (sym same) (s.rooms k c d at few here);
  }

-- ---- candidates are added

pub sound_of : (p : Problem) (number_of : ℕ → Way → ℕ) (s : Spread) (hole : Option Exit) (but : Option KeptIn) → IsSearching p number_of s hole but → IsSound p number_of s
sound_of p number_of s hole but h = record { candidates = h.candidates; best = h.best }

pub adds_searching : (p : Problem) (number_of : ℕ → Way → ℕ) (old new : Spread) (n : ℕ) → Adds p number_of old new n → (hole : Option Exit) (but : Option KeptIn) → IsSearching p number_of old hole but → IsSearching p number_of new hole but
adds_searching p number_of old new n a hole but s =
    same_searching p number_of old new hole hole (λ q x here h. offered_on p number_of old new n a hole q x h) a.rows a.sound but s

-- ---- lines keep more

-- they have the same rows
pub same_rooms : (t u : Rows) (j l : ℕ) → SameRooms t u → HasRow t j l → HasRow u j l
same_rooms t u j l rooms was = record {
  line = let n = rooms.lines in let less = was.line in omega (arith, n, less);
  row = let n : j * u.lines ≡ j * t.lines = ap (λ m. j * m) rooms.lines in let many = rooms.rows in let less = was.row in omega (arith, n, many, less);
}

pub grows_not : (p : Problem) (lists : Lists) (s : Spread) → Grows p lists s s
grows_not p lists s = record { rows = λ k l d e has. has; queue = λ c has. has; limit = refl; best = omega arith; weight = omega arith }

pub grows_both : (p : Problem) (lists : Lists) (old mid new : Spread) → Grows p lists old mid → Grows p lists mid new → Grows p lists old new
grows_both p lists old mid new a b = record {
  rows = λ k l d e has. b.rows k l d e (a.rows k l d e has);
  queue = λ c has. b.queue c (a.queue c has);
  limit = b.limit ∙ a.limit;
  best = omega (arith, a.best, b.best);
  weight = omega (arith, a.weight, b.weight);
}

pub grows_offered : (p : Problem) (lists : Lists) (old new : Spread) → Grows p lists old new → (hole : Option Exit) (q : Point) (x : Exit) → IsOffered p old hole q x → IsOffered p new hole q x
grows_offered p lists old new g hole q x h = still_offered p old new g.rows g.queue g.best hole q x h
