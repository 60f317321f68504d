-- A stub is free where each of its steps is clear.
use Rattle.std.proofs.Common.{◌≡◌, ◌≢◌, ℕ, suc, zero, ◌+◌, ◌<◌, ℤ, Option, Some, List, replicate, get_or, All, sym, ap, subst, ◌∙◌, arith}
use Rattle.plane_geom.specs.declared.point.Point.{Point}
use Rattle.plane_geom.specs.declared.point.Dir.{Dir}
use Rattle.plane_geom.specs.declared.rect.Solid.{Solid}
use Rattle.plane_geom.specs.Point.{forward, opposite}
use Rattle.plane_geom.specs.Rect.{Meets}
use Rattle.plane_geom.proofs.Steps.{from_step, some_step}
use Rattle.walk_model.specs.declared.task.Choice.{Choice}
use Rattle.walk_model.specs.Choice.{IsChoice, stub_length}
use Rattle.walk_model.proofs.CornerByCorner.Scan.{forward-forward, forward-zero}
use Rattle.walk_laws.proofs.Steps.Clear.{IsClear, IsClearStep}
use Rattle.walk_laws.proofs.OnKeptLines.KeptSteps.{meets_back}
use Rattle.walk_laws.proofs.Replacing.Tours.{back_and_there, stub, stub_back}
use Rattle.move_model.specs.Places.{HasFreeStub}

module _ (solids : List Solid) (may : Option ℤ) where
  one_on : (d : Dir) (k : ℕ) (p : Point) → forward d k (forward d 1 p) ≡ forward d (k + 1) p
  one_on d k p = forward-forward d k 1 p ∙ ap (λ m. forward d m p) (omega arith)

  -- the steps of a clear stretch, by their numbers
  clear_each : (p : Point) (d : Dir) (n : ℕ) → ((k : ℕ) → k < n → IsClearStep solids may (forward d k p) d) → IsClear solids may p (replicate n d)
  clear_each p d zero h = tt
  clear_each p d (suc n) h = (
    subst (λ x. IsClearStep solids may x d) (forward-zero d p) (h 0 (omega arith)),
    clear_each (forward d 1 p) d n (λ k l. subst (λ x. IsClearStep solids may x d) (sym (one_on d k p)) (h (k + 1) (omega (arith, l)))),
  )

  each_clear : (p : Point) (d : Dir) (n k : ℕ) → k < n → IsClear solids may p (replicate n d) → IsClearStep solids may (forward d k p) d
  each_clear p d zero k h c = absurd (omega (arith, h))
  each_clear p d (suc n) zero h c = subst (λ x. IsClearStep solids may x d) (sym (forward-zero d p)) c.0
  each_clear p d (suc n) (suc k) h c =
      subst (λ x. IsClearStep solids may x d) (one_on d k p ∙ ap (λ m. forward d m p) (let e : k + 1 ≡ suc k = omega arith in e)) (each_clear (forward d 1 p) d n k (omega (arith, h)) c.1)

-- a stretch that meets solids of one node alone is clear except for that node, and the other way around
pub clear_stretch : (solids : List Solid) (node : ℤ) (p q : Point) (d : Dir) (n : ℕ) → q ≡ forward d n p → All (λ s. s.node ≢ node → Meets s.rect p q → ⊥) solids → IsClear solids (Some node) p (replicate n d)
clear_stretch solids node p q d n e h = clear_each solids (Some node) p d n
    (λ k l i s inside other m. h i s inside (λ same. other (ap Some same)) (subst (Meets (get_or solids i s).rect p) (sym e) (from_step (get_or solids i s).rect p d n (k, l, m))))

same_node : (m n : ℤ) → ◌≡◌ {A = Option ℤ} (Some m) (Some n) → m ≡ n
same_node m n e = cc

pub free_stretch : (solids : List Solid) (node : ℤ) (p q : Point) (d : Dir) (n : ℕ) → 0 < n → q ≡ forward d n p → IsClear solids (Some node) p (replicate n d) → All (λ s. s.node ≢ node → Meets s.rect p q → ⊥) solids
free_stretch solids node p q d n some e c i s inside other m =
    let r = get_or solids i s in
    let step = some_step r.rect p d n some (subst (Meets r.rect p) e m) in
    each_clear solids (Some node) p d n step.0 step.1 c i s inside (λ same. other (same_node r.node node same)) step.2

module _ (solids : List Solid) (c : Choice) (h : IsChoice c) where
  -- the stub from the pin, and back from the port
  pub clear_stub : HasFreeStub solids c → IsClear solids (Some c.node) c.pin (stub c)
  clear_stub = clear_stretch solids c.node c.pin c.port c.dir (stub_length c) h.straight

  pub free_stub : IsClear solids (Some c.node) c.pin (stub c) → HasFreeStub solids c
  free_stub = free_stretch solids c.node c.pin c.port c.dir (stub_length c) h.apart h.straight

  to_the_pin : c.pin ≡ forward (opposite c.dir) (stub_length c) c.port
  to_the_pin = sym (back_and_there c.dir (stub_length c) c.pin) ∙ ap (forward (opposite c.dir) (stub_length c)) (sym h.straight)

  turned_round : (p q : Point) → All (λ s. s.node ≢ c.node → Meets s.rect p q → ⊥) solids → All (λ s. s.node ≢ c.node → Meets s.rect q p → ⊥) solids
  turned_round p q free i s inside other m = free i s inside other (meets_back (get_or solids i s).rect q p m)

  pub clear_stub_back : HasFreeStub solids c → IsClear solids (Some c.node) c.port (stub_back c)
  clear_stub_back free = clear_stretch solids c.node c.port c.pin (opposite c.dir) (stub_length c) to_the_pin (turned_round c.pin c.port free)

  pub free_stub_back : IsClear solids (Some c.node) c.port (stub_back c) → HasFreeStub solids c
  free_stub_back clear = turned_round c.port c.pin (free_stretch solids c.node c.port c.pin (opposite c.dir) (stub_length c) h.apart to_the_pin clear)
