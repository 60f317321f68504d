-- It is decided whether solids are equal, and whether two scenes look the same to a connector.
use Rattle.std.proofs.Common.{◌≡◌, ap}
use Rattle.std.proofs.Math.Bool.{Bool-discrete}
use Rattle.std.proofs.Math.Decide.{map_dec, ℕ_discrete}
use Rattle.std.proofs.Math.IntN.{ℤ_discrete}
use Rattle.plane_geom.specs.declared.point.Point.{Point}
use Rattle.plane_geom.specs.declared.rect.Rect.{Rect}
use Rattle.plane_geom.specs.declared.rect.Solid.{Solid}
use Rattle.scene_model.specs.declared.pin.Pin.{Pin}
use Rattle.scene_model.specs.declared.pin.Dirs.{Dirs}
use Rattle.scene_model.specs.Stale.{Shape, Looks}
use Rattle.existence_laws.proofs.Deciding.Decided.{both, same_list, same_option}

pub same_rect : (a b : Rect) → Dec (a ≡ b)
same_rect a b = map_dec
    (λ h. λ i. record { left = h.0.0 i; top = h.0.1 i; right = h.1.0 i; bottom = h.1.1 i })
    (λ e. ((ap (λ r. r.left) e, ap (λ r. r.top) e), (ap (λ r. r.right) e, ap (λ r. r.bottom) e)))
    (both (both (ℤ_discrete a.left b.left) (ℤ_discrete a.top b.top)) (both (ℤ_discrete a.right b.right) (ℤ_discrete a.bottom b.bottom)))

pub same_solid : (a b : Solid) → Dec (a ≡ b)
same_solid a b = map_dec
    (λ h. λ i. record { node = h.0 i; rect = h.1 i })
    (λ e. (ap (λ s. s.node) e, ap (λ s. s.rect) e))
    (both (ℤ_discrete a.node b.node) (same_rect a.rect b.rect))

pub same_point : (a b : Point) → Dec (a ≡ b)
same_point a b = map_dec
    (λ h. λ i. record { x = h.0 i; y = h.1 i })
    (λ e. (ap (λ p. p.x) e, ap (λ p. p.y) e))
    (both (ℤ_discrete a.x b.x) (ℤ_discrete a.y b.y))

same_dirs : (a b : Dirs) → Dec (a ≡ b)
same_dirs a b = map_dec
    (λ h. λ i. record { east = h.0.0 i; south = h.0.1 i; west = h.1.0 i; north = h.1.1 i })
    (λ e. ((ap (λ d. d.east) e, ap (λ d. d.south) e), (ap (λ d. d.west) e, ap (λ d. d.north) e)))
    (both (both (Bool-discrete a.east b.east) (Bool-discrete a.south b.south)) (both (Bool-discrete a.west b.west) (Bool-discrete a.north b.north)))

same_pin : (a b : Pin) → Dec (a ≡ b)
same_pin a b = map_dec
    (λ h. λ i. record { class = h.0.0 i; dx = h.0.1.0 i; dy = h.0.1.1 i; dirs = h.1.0 i; cost = h.1.1 i })
    (λ e. ((ap (λ p. p.class) e, (ap (λ p. p.dx) e, ap (λ p. p.dy) e)), (ap (λ p. p.dirs) e, ap (λ p. p.cost) e)))
    (both (both (ℕ_discrete a.class b.class) (both (ℤ_discrete a.dx b.dx) (ℤ_discrete a.dy b.dy))) (both (same_dirs a.dirs b.dirs) (ℤ_discrete a.cost b.cost)))

same_shape : (a b : Shape) → Dec (a ≡ b)
same_shape a b = map_dec
    (λ h. λ i. record { rect = h.0 i; group = h.1.0 i; pins = h.1.1 i })
    (λ e. (ap (λ s. s.rect) e, (ap (λ s. s.group) e, ap (λ s. s.pins) e)))
    (both (same_rect a.rect b.rect) (both (Bool-discrete a.group b.group) (same_list same_pin a.pins b.pins)))

pub same_looks : (a b : Looks) → Dec (a ≡ b)
same_looks a b = map_dec
    (λ h. λ i. record {
      from = h.0.0.0 i;
      to = h.0.0.1 i;
      from_class = h.0.1.0 i;
      to_class = h.0.1.1 i;
      via = h.1.0.0 i;
      buffer = h.1.0.1 i;
      source = h.1.1.0 i;
      target = h.1.1.1 i;
    })
    (λ e. (
      ((ap (λ l. l.from) e, ap (λ l. l.to) e), (ap (λ l. l.from_class) e, ap (λ l. l.to_class) e)),
      ((ap (λ l. l.via) e, ap (λ l. l.buffer) e), (ap (λ l. l.source) e, ap (λ l. l.target) e)),
    ))
    (both
    (both (both (ℤ_discrete a.from b.from) (ℤ_discrete a.to b.to)) (both (ℕ_discrete a.from_class b.from_class) (ℕ_discrete a.to_class b.to_class)))
    (both (both (same_list same_point a.via b.via) (ℤ_discrete a.buffer b.buffer)) (both (same_option same_shape a.source b.source) (same_option same_shape a.target b.target))))
