-- Turns that cost too much are left out; and no line has more stops than the bound that is counted with.
use Rattle.std.proofs.Common.{◌≡◌, ◌⊎◌, ℕ, ℤ, pos, negsuc, ◌-ℤ◌, ◌+◌, ◌*◌, ◌<◌, ◌≤◌, ◌<ℤ◌, ◌≤ℤ◌, Bool, true, false, List, [], get_or, length, ap, refl, inl, inr, arith}
use Rattle.std.specs.Prelude.{int_lt, sum_by}
use Rattle.std.specs.Int.{int_gap}
use Rattle.std.proofs.lemmas.Bool.{cases_lt}
use Rattle.std.proofs.lemmas.Int.{ints}
use Rattle.std.proofs.lemmas.List.{get_or_past}
use Rattle.std.proofs.lemmas.List.Sums.{get_or-le-sum_by}
use Rattle.plane_geom.specs.declared.point.Point.{Point}
use Rattle.plane_geom.specs.declared.point.Dir.{Dir}
use Rattle.plane_geom.specs.declared.point.Way.{Way}
use Rattle.plane_geom.specs.Along.{reach}
use Rattle.line_lists.specs.Lists.{Lists, stops_of}
use Rattle.line_lists.specs.declared.stop.Stop.{Stop}
use Rattle.walk_model.specs.Cost.{turn}
use Rattle.search_problem.specs.declared.problem.Problem.{Problem}
use Rattle.exit_rows.specs.Exits.{ahead_at}
use Rattle.exit_spread.specs.declared.run.Run.{Run}
use Rattle.exit_spread.specs.declared.spread.Spread.{Spread}
use Rattle.exit_spread.specs.Propagating.{IsTurnOffered}
use Rattle.exit_spread.specs.Searching.{most_stops}
use Rattle.exit_spread.specs.Ways.{bound_at, place_at}

pub left_out : (p : Problem) (line_of : ℕ → Way → ℕ) (s : Spread) (r : Run) (h : Dir) (c : ℕ) (q : Point) → turn h r.heading ≡ 1 →
    s.best < (ahead_at r.kept (reach r.heading q)).cost + p.task.now.penalty + bound_at p (place_at c r.stage h) q → IsTurnOffered p line_of s r h c q
left_out p line_of s r h c q once dear =
    let bend = ap (λ n. p.task.now.penalty * n) once in
    inl (inl (omega (arith, dear, bend)))

few : (xs : List (List Stop)) (n : ℕ) → length (get_or xs n []) ≤ sum_by length xs
few xs n = elim (cases_lt n (length xs)) as (λ _. length (get_or xs n []) ≤ sum_by length xs) [
  | inl lt ↦ get_or-le-sum_by length xs n [] lt
  | inr past ↦ (let none = ap (λ (ys : List Stop). length ys) (get_or_past xs n [] past) in omega (arith, none))
]

pub few_stops : (lists : Lists) (n : ℕ) → length (stops_of lists n) ≤ most_stops lists
few_stops lists n = few lists.stops n

pub gap_upto : (a b : ℤ) → (b -ℤ a) ≤ℤ pos (int_gap a b)
gap_upto (pos a) (pos b) = omega (arith, ints)
gap_upto (pos a) (negsuc b) = omega (arith, ints)
gap_upto (negsuc a) (pos b) = omega (arith, ints)
gap_upto (negsuc a) (negsuc b) = omega (arith, ints)

by_test : (a b : ℤ) (t : Bool) → int_lt a b ≡ t → (a <ℤ b) ⊎ (b ≤ℤ a)
by_test a b true e = inl (grind (arith, ints))
by_test a b false e = inr (grind (arith, ints))

pub before_or_from : (a b : ℤ) → (a <ℤ b) ⊎ (b ≤ℤ a)
before_or_from a b = by_test a b (int_lt a b) refl
