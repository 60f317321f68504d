-- A path ahead, pair by pair.
use Rattle.std.proofs.Common.{◌≡◌, ◌+◌, ◌-◌, ◌<ℤ◌, true, List, [], ◌∷◌, All, refl, ap}
use Rattle.std.specs.Prelude.{if◌then◌else◌}
use Rattle.std.proofs.lemmas.List.Elements.{All-cons, All-nil}
use Rattle.segment_order.specs.declared.run.Run.{Run}
use Rattle.segment_order.specs.Run.{run_at, no_run}
use Rattle.shared_paths.specs.Pairs.{Pair, IsPair, GoesOn, next_index, next_pair, outward}
use Rattle.shared_paths.specs.Paths.{RunOn, last_of}
use Rattle.shared_paths.specs.Views.{EndsAt, IsSomeRoute}
use Rattle.shared_paths.proofs.Rays.Dirs.{is_itself}
use Rattle.shared_paths.proofs.AlongPaths.Steps.{companions_there, step_of}

-- a pair that goes on ahead goes on to a pair
pub goes_ahead : (a b : List Run) → IsSomeRoute a → IsSomeRoute b → (p : Pair) → IsPair a b p → GoesOn a b true p → IsPair a b (next_pair a b true p)
goes_ahead a b one two p is goes =
    let d = outward a true p in
    let n = next_index a p.a d in
    let i = next_index b p.b d in
    let step = step_of one.0 two.0 a b one.1.runs two.1.runs true p is goes in
    let l : (run_at a n).lo <ℤ (run_at a n).hi = one.1.long n no_run step.one.within in
    let h : (run_at b i).lo <ℤ (run_at b i).hi = two.1.long i no_run step.other.within in
    record {
      of_a = step.one.within;
      of_b = step.other.within;
      companions = companions_there a b p.a p.b d n i (run_at a n).heading step is.companions.way is.companions.at l h;
    }

pub one_more : (a b : List Run) (p : Pair) → (next_pair a b true p).a ≡ p.a + 1
one_more a b p = ap (λ x. if x then p.a + 1 else p.a - 1) (is_itself (run_at a p.a).heading)

-- from the last pair on, each path is one from the first
abbrev pub Reaches : List Run → List Run → Pair → Pair → Type 0
Reaches a b first last = (rest : List Pair) → All (IsPair a b) rest → RunOn a b last rest →
    (others : List Pair) × All (IsPair a b) others × RunOn a b first others × (last_of last rest ≡ last_of first others)

pub at_first : (a b : List Run) (p : Pair) → Reaches a b p p
at_first a b p = λ rest pairs runs. (rest, pairs, runs, refl)

pub reach_more : (a b : List Run) (first last : Pair) → Reaches a b first last → GoesOn a b true last → IsPair a b (next_pair a b true last) → Reaches a b first (next_pair a b true last)
reach_more a b first last reaches goes is = λ rest pairs runs.
    reaches (next_pair a b true last ∷ rest) (All-cons (IsPair a b) (next_pair a b true last) rest is pairs) (goes, refl, runs)

-- where the last pair does not go on, the path ends there
pub ends : (a b : List Run) (first last : Pair) → Reaches a b first last → (GoesOn a b true last → ⊥) → EndsAt a b first last
ends a b first last reaches stop =
    let path = reaches [] (All-nil (IsPair a b)) stop in
    record { others = path.0; pairs = path.1; runs_on = path.2; is_last = path.3 }
