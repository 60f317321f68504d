-- Of the walks of few steps one is legal, or none is.
use Rattle.std.proofs.Common.{◌≡◌, ◌⊎◌, inl, inr, ℕ, zero, suc, ◌<◌, ◌≤◌, List, [], ◌∷◌, length, Option, Some, None, refl, sym, subst, ◌∙◌, arith}
use Rattle.std.proofs.Math.Decide.{map_dec}
use Rattle.std.specs.Prelude.{slice_get}
use Rattle.std.proofs.lemmas.Option.{slice_get_within}
use Rattle.plane_geom.specs.declared.point.Point.{Point}
use Rattle.plane_geom.specs.declared.point.Dir.{Dir}
use Rattle.plane_geom.specs.declared.point.Dir.TheVariants.{East, South, West, North}
use Rattle.plane_geom.specs.declared.rect.Solid.{Solid}
use Rattle.walk_model.specs.declared.task.Choice.{Choice}
use Rattle.walk_model.specs.declared.task.Task.{Task}
use Rattle.walk_model.specs.Walk.{Walk}
use Rattle.walk_model.specs.Legal.{IsLegal}
use Rattle.walk_model.specs.Order.{Triple, IsLegalTriple}
use Rattle.walk_model.proofs.Ranking.Deciding.{decided, legal_reflects}
use Rattle.existence_laws.proofs.Deciding.Decided.{one_of, some_below}

-- a list of at most n steps
abbrev Few : ℕ → (List Dir → Type 0) → Type 0
Few n P = (ds : List Dir) × (length ds ≤ n) × P ds

-- one that begins with this direction
abbrev Begin : ℕ → (List Dir → Type 0) → Dir → Type 0
Begin n P d = Few n (λ ds. P (d ∷ ds))

-- none, or one that begins with some direction
abbrev Cases : ℕ → (List Dir → Type 0) → Type 0
Cases n P = (P [] ⊎ (Begin n P East ⊎ Begin n P South)) ⊎ (Begin n P West ⊎ Begin n P North)

step_on : (n : ℕ) (P : List Dir → Type 0) (d : Dir) → Begin n P d → Few (suc n) P
step_on n P d (ds, l, p) = (d ∷ ds, omega (arith, l), p)

from_cases : (n : ℕ) (P : List Dir → Type 0) → Cases n P → Few (suc n) P
from_cases n P (inl (inl p)) = ([], omega arith, p)
from_cases n P (inl (inr (inl b))) = step_on n P East b
from_cases n P (inl (inr (inr b))) = step_on n P South b
from_cases n P (inr (inl b)) = step_on n P West b
from_cases n P (inr (inr b)) = step_on n P North b

to_cases : (n : ℕ) (P : List Dir → Type 0) → Few (suc n) P → Cases n P
to_cases n P ([], l, p) = inl (inl p)
to_cases n P (East ∷ ds, l, p) = inl (inr (inl (ds, omega (arith, l), p)))
to_cases n P (South ∷ ds, l, p) = inl (inr (inr (ds, omega (arith, l), p)))
to_cases n P (West ∷ ds, l, p) = inr (inl (ds, omega (arith, l), p))
to_cases n P (North ∷ ds, l, p) = inr (inr (ds, omega (arith, l), p))

no_steps : (P : List Dir → Type 0) → Few 0 P → P []
no_steps P ([], l, p) = p
no_steps P (d ∷ ds, l, p) = absurd (omega (arith, l))

some_steps : (n : ℕ) (P : List Dir → Type 0) → ((ds : List Dir) → Dec (P ds)) → Dec (Few n P)
some_steps zero P each = map_dec {A = P []} (λ p. ([], omega arith, p)) (no_steps P) (each [])
some_steps (suc n) P each =
    let rest : (d : Dir) → Dec (Begin n P d) = λ d. some_steps n (λ ds. P (d ∷ ds)) (λ ds. each (d ∷ ds)) in
    map_dec {A = Cases n P} (from_cases n P) (to_cases n P)
    (one_of (one_of (each []) (one_of (rest East) (rest South))) (one_of (rest West) (rest North)))

-- the walk from the pin of the choice
abbrev from_pin : Choice → List Dir → Walk
from_pin s steps = record { start = s.pin; steps = steps }

-- a legal walk of at most n steps with the choices at these places
record IsShort (solids : List Solid) (task : Task) (n i j : ℕ) : Type 0 where
  start : Choice
  end : Choice
  is_start : slice_get task.starts i ≡ Some start
  is_end : slice_get task.ends j ≡ Some end
  steps : List Dir
  few : length steps ≤ n
  legal : IsLegal solids task.via start (from_pin start steps) end

short_by : (solids : List Solid) (task : Task) (n i j : ℕ) (s e : Option Choice) → slice_get task.starts i ≡ s → slice_get task.ends j ≡ e → Dec (IsShort solids task n i j)
short_by solids task n i j None e h k = no (λ w. let wrong : None ≡ Some w.start = sym h ∙ w.is_start in cc)
short_by solids task n i j (Some s) None h k = no (λ w. let wrong : None ≡ Some w.end = sym k ∙ w.is_end in cc)
short_by solids task n i j (Some s) (Some e) h k = map_dec
    (λ g. record { start = s; end = e; is_start = h; is_end = k; steps = g.0; few = g.1; legal = g.2 })
    (λ w.
    let same : w.start ≡ s = let both : Some w.start ≡ Some s = sym w.is_start ∙ h in cc in
    let also : w.end ≡ e = let both : Some w.end ≡ Some e = sym w.is_end ∙ k in cc in
    (w.steps, w.few, subst (λ (c : Choice). IsLegal solids task.via c (from_pin c w.steps) e) same (subst (IsLegal solids task.via w.start (from_pin w.start w.steps)) also w.legal)))
    (some_steps n (λ ds. IsLegal solids task.via s (from_pin s ds) e) (λ ds. decided (legal_reflects solids task.via s (from_pin s ds) e)))

-- a legal walk of at most n steps
abbrev pub HasShort : List Solid → Task → ℕ → Type 0
HasShort solids task n = (t : Triple) × IsLegalTriple solids task t × (length t.walk.steps ≤ n)

pub short_decided : (solids : List Solid) (task : Task) (n : ℕ) → Dec (HasShort solids task n)
short_decided solids task n = map_dec
    (λ h. let w = h.2.2 in (
      record { start = h.0; walk = from_pin w.start w.steps; end = h.2.0 },
      record { start = w.start; end = w.end; is_start = w.is_start; is_end = w.is_end; legal = w.legal },
      w.few,
    ))
    (λ h. let t = h.0 in let l = h.1 in (
      t.start,
      slice_get_within task.starts t.start l.start l.is_start,
      (
        t.end,
        slice_get_within task.ends t.end l.end l.is_end,
        record {
          start = l.start;
          end = l.end;
          is_start = l.is_start;
          is_end = l.is_end;
          steps = t.walk.steps;
          few = h.2;
          legal = subst (λ (p : Point). IsLegal solids task.via l.start (record { start = p; steps = t.walk.steps }) l.end) l.legal.leaves.pin l.legal;
        },
      ),
    ))
    (some_below (length task.starts) (λ i. (j : ℕ) × (j < length task.ends) × IsShort solids task n i j)
    (λ i. some_below (length task.ends) (IsShort solids task n i) (λ j. short_by solids task n i j (slice_get task.starts i) (slice_get task.ends j) refl refl)))
