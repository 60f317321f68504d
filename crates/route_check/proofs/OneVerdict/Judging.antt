-- What the parts of a check find.
use Rattle.std.proofs.Common.{◌≡◌, ℕ, ◌+◌, ◌-◌, ◌<◌, ◌≤◌, ℤ, None, List, ◌∷◌, length, take, ap, subst, refl, arith}
use Rattle.plane_geom.specs.declared.point.Point.{Point}
use Rattle.plane_geom.specs.declared.rect.Solid.{Solid}
use Rattle.walk_model.specs.declared.task.Choice.{Choice}
use Rattle.walk_model.specs.declared.task.Task.{Task}
use Rattle.walk_model.specs.Walk.{Walk}
use Rattle.walk_model.specs.Line.{AreStraight, steps_through, walk_through}
use Rattle.walk_model.specs.Choice.{stub_length}
use Rattle.walk_model.specs.Cost.{walk_cost}
use Rattle.walk_model.specs.Legal.{Leaves, Arrives, Passes, IsTask}
use Rattle.route_check.specs.Choices.{IsCheapest, IsCheapestIfAny}
use Rattle.route_check.specs.Verdict.{HitsFirst, HitsNone, IsEndOff, IsFirstHit, IsLeastCost, IsMissed, IsStartOff, Joins}
use Rattle.route_check.proofs.OneVerdict.Stubs.{leaves_within, one_start}
use Rattle.route_check.proofs.OneVerdict.Verdicts.{clear_legal}

-- ---- what the parts of the check find of the line from the point through the others

-- the choice arrives there with a stub of at most `left` steps
abbrev pub ArrivesWithin : Walk → ℕ → Choice → Type 0
ArrivesWithin w left c = Arrives w c × (stub_length c ≤ left)

module _ (solids : List Solid) (task : Task) (first : Point) (rest : List Point) (straight : AreStraight first rest) where
  pub start_off : IsCheapestIfAny (Leaves (walk_through first rest)) task.starts None → IsStartOff task (first ∷ rest)
  start_off none = record { straight = straight; none = λ w d s in' l. none s in' (subst (λ (v : Walk). Leaves v s) d.1 l) }

  module _ (s : Choice) (start : IsCheapest (Leaves (walk_through first rest)) task.starts s) where
    pub end_off : IsCheapestIfAny (ArrivesWithin (walk_through first rest) (length (steps_through first rest) - stub_length s)) task.ends None → IsEndOff task (first ∷ rest)
    end_off none = record {
      walk = walk_through first rest;
      start = s;
      draws = (straight, refl);
      is_start = start.is_choice;
      leaves = start.holds;
      none = λ e in' a room. none e in' (a, omega arith);
    }

    module _ (e : Choice) (end : IsCheapest (ArrivesWithin (walk_through first rest) (length (steps_through first rest) - stub_length s)) task.ends e) where
      joins : Joins task (first ∷ rest) s (walk_through first rest) e
      joins = record {
        draws = (straight, refl);
        is_start = start.is_choice;
        is_end = end.is_choice;
        leaves = start.holds;
        arrives = end.holds.0;
        stubs_fit = omega (arith, end.holds.1, leaves_within (walk_through first rest) s start.holds);
      }

      pub hit_first : (segment : ℕ) (node : ℤ) → HitsFirst solids (first ∷ rest) s (walk_through first rest) e segment node → IsFirstHit solids task (first ∷ rest) segment node
      hit_first segment node h = record { walk = walk_through first rest; start = s; end = e; joins = joins; first = h }

      module _ (free : HitsNone solids s (walk_through first rest) e) where
        pub missed : (n : ℕ) → n < length task.via
            → Passes (walk_through first rest) (stub_length s) (length (steps_through first rest) - stub_length e) (take n task.via)
            → (Passes (walk_through first rest) (stub_length s) (length (steps_through first rest) - stub_length e) (take (n + 1) task.via) → ⊥)
            → IsMissed solids task (first ∷ rest) (n + 1)
        missed n some passed no_more =
            let e' : n + 1 - 1 ≡ n = omega arith in
            record {
              walk = walk_through first rest;
              start = s;
              end = e;
              joins = joins;
              free = free;
              counted = omega arith;
              within = omega arith;
              passed = rw e' passed;
              missed = no_more;
            }

        pub least : IsTask task → Passes (walk_through first rest) (stub_length s) (length (steps_through first rest) - stub_length e) task.via
            → IsLeastCost solids task (first ∷ rest) (walk_cost task.penalty (steps_through first rest) + s.cost + e.cost)
        least is passes = record {
          line = record {
            walk = walk_through first rest;
            start = s;
            end = e;
            draws = (straight, refl);
            is_start = start.is_choice;
            is_end = end.is_choice;
            legal = clear_legal solids task (first ∷ rest) (record { walk = walk_through first rest; start = s; end = e; joins = joins; free = free }) passes;
          };
          reached = refl;
          least = λ other.
              let walk : other.walk ≡ walk_through first rest = other.draws.1 in
              let leaves = subst (λ (v : Walk). Leaves v other.start) walk other.legal.leaves in
              let arrives = subst (λ (v : Walk). Arrives v other.end) walk other.legal.arrives in
              let same = one_start task.starts is.starts s other.start start.is_choice other.is_start (walk_through first rest) start.holds leaves in
              let cheaper_start = start.least other.start other.is_start leaves in
              let cheaper_end = end.least other.end other.is_end (arrives, omega (arith, same.length, other.legal.stubs_fit, ap (λ (v : Walk). length v.steps) walk)) in
              omega (arith, ap (λ (v : Walk). walk_cost task.penalty v.steps) walk);
        }
