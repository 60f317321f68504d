-- It is decided whether a line is straight, meets a rectangle, and goes from stub to stub past checkpoints.
use Rattle.std.proofs.Common.{◌≡◌, ℕ, suc, ◌-◌, ◌<◌, ◌≤◌, ℤ, ◌<ℤ◌, List, [], ◌∷◌, length, take, drop, replicate, ap, arith}
use Rattle.std.proofs.Math.Decide.{map_dec, dec_le, ℕ_discrete}
use Rattle.std.proofs.Math.IntN.{ℤ_discrete}
use Rattle.plane_geom.specs.declared.point.Point.{Point}
use Rattle.plane_geom.specs.declared.point.Dir.{Dir}
use Rattle.plane_geom.specs.declared.point.Dir.TheVariants.{East, South, West, North}
use Rattle.plane_geom.specs.declared.rect.Rect.{Rect}
use Rattle.plane_geom.specs.Point.{IsStraight, opposite}
use Rattle.plane_geom.specs.Rect.{StepMeets}
use Rattle.walk_model.specs.declared.task.Choice.{Choice}
use Rattle.walk_model.specs.Choice.{stub_length}
use Rattle.walk_model.specs.Walk.{Walk, end_of, point_at}
use Rattle.walk_model.specs.Line.{AreStraight}
use Rattle.walk_model.specs.Legal.{Arrives, Leaves, Passes}
use Rattle.walk_model.specs.Order.{rank}
use Rattle.walk_model.proofs.Ranking.Deciding.{same_rank}
use Rattle.existence_laws.proofs.Deciding.Decided.{both, int_le, int_lt, one_of, same_list, some_below}
use Rattle.existence_laws.proofs.Deciding.Alike.{same_point}

-- whether a step meets a rectangle
flat : {A B C D : Type 0} → Dec (A × B) → Dec (C × D) → Dec (A × B × C × D)
flat h k = map_dec (λ g. (g.0.0, g.0.1, g.1.0, g.1.1)) (λ g. ((g.0, g.1), (g.2, g.3))) (both h k)

inside_decided : (a b c : ℤ) → Dec ((a <ℤ b) × (b <ℤ c))
inside_decided a b c = both (int_lt a b) (int_lt b c)

pub step_decided : (r : Rect) (p : Point) (d : Dir) → Dec (StepMeets r p d)
step_decided r p East = flat (inside_decided _ _ _) (both (int_le _ _) (int_le _ _))
step_decided r p South = flat (inside_decided _ _ _) (both (int_le _ _) (int_le _ _))
step_decided r p West = flat (inside_decided _ _ _) (both (int_le _ _) (int_le _ _))
step_decided r p North = flat (inside_decided _ _ _) (both (int_le _ _) (int_le _ _))

-- whether a line is straight
pub segment_decided : (p q : Point) → Dec (IsStraight p q)
segment_decided p q = one_of (ℤ_discrete p.x q.x) (ℤ_discrete p.y q.y)

pub straight_decided : (p : Point) (qs : List Point) → Dec (AreStraight p qs)
straight_decided p [] = yes tt
straight_decided p (q ∷ qs) = both (segment_decided p q) (straight_decided q qs)

pub same_dir : (d e : Dir) → Dec (d ≡ e)
same_dir d e = map_dec (same_rank d e) (ap rank) (ℕ_discrete (rank d) (rank e))

-- whether a walk begins and ends with the stub of a choice
pub leaves_decided : (w : Walk) (c : Choice) → Dec (Leaves w c)
leaves_decided w c = map_dec (λ h. record { pin = h.0; stub = h.1 }) (λ h. (h.pin, h.stub))
    (both (same_point w.start c.pin) (same_list same_dir (take (stub_length c) w.steps) (replicate (stub_length c) c.dir)))

pub arrives_decided : (w : Walk) (c : Choice) → Dec (Arrives w c)
arrives_decided w c = map_dec (λ h. record { pin = h.0; stub = h.1 }) (λ h. (h.pin, h.stub))
    (both (same_point (end_of w) c.pin) (same_list same_dir (drop (length w.steps - stub_length c) w.steps) (replicate (stub_length c) (opposite c.dir))))

-- whether it passes checkpoints
pub passes_decided : (w : Walk) (to : ℕ) (cs : List Point) (from : ℕ) → Dec (Passes w from to cs)
passes_decided w to [] from = yes tt
passes_decided w to (c ∷ cs) from = map_dec {A = (i : ℕ) × (i < suc to) × (((from ≤ i) × (point_at w i ≡ c)) × Passes w i to cs)}
    (λ h. (h.0, h.2.0.0, let l : h.0 < suc to = h.1 in omega arith, h.2.0.1, h.2.1))
    (λ h. (h.0, let l : h.0 ≤ to = h.2 in omega arith, ((h.1, h.3), h.4)))
    (some_below (suc to) (λ i. ((from ≤ i) × (point_at w i ≡ c)) × Passes w i to cs)
    (λ i. both (both (dec_le from i) (same_point (point_at w i) c)) (passes_decided w to cs i)))
