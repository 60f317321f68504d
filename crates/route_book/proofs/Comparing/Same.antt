-- The meaning of the tests of equality.
use Rattle.std.proofs.Common.{◌≡◌, Bool, true, false, not, refl, sym, ap, ◌∙◌, eqb, true≢false}
use Rattle.std.specs.Prelude.{ℕ, ℤ, Decides, ◌&&◌}
use Rattle.std.specs.Ordering.{int_eq}
use Rattle.std.proofs.Math.Bool.{beq}
use Rattle.std.proofs.lemmas.Bool.Decides.{Decides-and, Decides-eqb, Decides-int_eq, Decides-like}
use Rattle.plane_geom.specs.declared.point.Point.{Point}
use Rattle.plane_geom.specs.declared.rect.Rect.{Rect}
use Rattle.plane_geom.specs.declared.rect.Solid.{Solid}
use Rattle.scene_model.specs.declared.pin.Pin.{Pin}
use Rattle.scene_model.specs.declared.pin.Dirs.{Dirs}

pub rect_same : (a b : Rect) → Decides (int_eq a.left b.left && (int_eq a.top b.top && (int_eq a.right b.right && int_eq a.bottom b.bottom))) (a ≡ b)
rect_same a b =
    Decides-like (int_eq a.left b.left && (int_eq a.top b.top && (int_eq a.right b.right && int_eq a.bottom b.bottom)))
    (λ h. λ i. record { left = h.0 i; top = h.1.0 i; right = h.1.1.0 i; bottom = h.1.1.1 i })
    (λ e. (ap (λ (r : Rect). r.left) e, (ap (λ (r : Rect). r.top) e, (ap (λ (r : Rect). r.right) e, ap (λ (r : Rect). r.bottom) e))))
    (Decides-and (int_eq a.left b.left) _ (Decides-int_eq a.left b.left)
    (Decides-and (int_eq a.top b.top) _ (Decides-int_eq a.top b.top)
    (Decides-and (int_eq a.right b.right) (int_eq a.bottom b.bottom) (Decides-int_eq a.right b.right) (Decides-int_eq a.bottom b.bottom))))

pub solid_same : (a b : Solid) → Decides (int_eq a.node b.node && (int_eq a.rect.left b.rect.left && (int_eq a.rect.top b.rect.top && (int_eq a.rect.right b.rect.right && int_eq a.rect.bottom b.rect.bottom)))) (a ≡ b)
solid_same a b =
    Decides-like (int_eq a.node b.node && (int_eq a.rect.left b.rect.left && (int_eq a.rect.top b.rect.top && (int_eq a.rect.right b.rect.right && int_eq a.rect.bottom b.rect.bottom))))
    (λ h. λ i. record { node = h.0 i; rect = h.1 i }) (λ e. (ap (λ (s : Solid). s.node) e, ap (λ (s : Solid). s.rect) e))
    (Decides-and (int_eq a.node b.node) _ (Decides-int_eq a.node b.node) (rect_same a.rect b.rect))

bool_same : (a b : Bool) → Decides (beq a b) (a ≡ b)
bool_same true true = (λ _. refl, λ _. refl)
bool_same true false = (λ h. absurd (cc), λ e. absurd (cc))
bool_same false true = (λ h. absurd (cc), λ e. absurd (cc))
bool_same false false = (λ _. refl, λ _. refl)

pub group_same : (a b : Bool) → beq a b ≡ true → a ≡ b
group_same a b h = (bool_same a b).0 h

dirs_same : (a b : Dirs) → Decides (beq a.east b.east && (beq a.south b.south && (beq a.west b.west && beq a.north b.north))) (a ≡ b)
dirs_same a b =
    Decides-like (beq a.east b.east && (beq a.south b.south && (beq a.west b.west && beq a.north b.north)))
    (λ h. λ i. record { east = h.0 i; south = h.1.0 i; west = h.1.1.0 i; north = h.1.1.1 i })
    (λ e. (ap (λ (d : Dirs). d.east) e, (ap (λ (d : Dirs). d.south) e, (ap (λ (d : Dirs). d.west) e, ap (λ (d : Dirs). d.north) e))))
    (Decides-and (beq a.east b.east) _ (bool_same a.east b.east)
    (Decides-and (beq a.south b.south) _ (bool_same a.south b.south)
    (Decides-and (beq a.west b.west) (beq a.north b.north) (bool_same a.west b.west) (bool_same a.north b.north))))

pub pin_same : (a b : Pin) → Decides (eqb a.class b.class && (int_eq a.dx b.dx && (int_eq a.dy b.dy && ((beq a.dirs.east b.dirs.east && (beq a.dirs.south b.dirs.south && (beq a.dirs.west b.dirs.west && beq a.dirs.north b.dirs.north))) && int_eq a.cost b.cost)))) (a ≡ b)
pin_same a b =
    Decides-like (eqb a.class b.class && (int_eq a.dx b.dx && (int_eq a.dy b.dy && ((beq a.dirs.east b.dirs.east && (beq a.dirs.south b.dirs.south && (beq a.dirs.west b.dirs.west && beq a.dirs.north b.dirs.north))) && int_eq a.cost b.cost))))
    (λ h. λ i. record { class = h.0 i; dx = h.1.0 i; dy = h.1.1.0 i; dirs = h.1.1.1.0 i; cost = h.1.1.1.1 i })
    (λ e. (ap (λ (p : Pin). p.class) e, (ap (λ (p : Pin). p.dx) e, (ap (λ (p : Pin). p.dy) e, (ap (λ (p : Pin). p.dirs) e, ap (λ (p : Pin). p.cost) e)))))
    (Decides-and (eqb a.class b.class) _ (Decides-eqb a.class b.class)
    (Decides-and (int_eq a.dx b.dx) _ (Decides-int_eq a.dx b.dx)
    (Decides-and (int_eq a.dy b.dy) _ (Decides-int_eq a.dy b.dy)
    (Decides-and (beq a.dirs.east b.dirs.east && (beq a.dirs.south b.dirs.south && (beq a.dirs.west b.dirs.west && beq a.dirs.north b.dirs.north))) (int_eq a.cost b.cost) (dirs_same a.dirs b.dirs) (Decides-int_eq a.cost b.cost)))))

pub point_same : (a b : Point) → Decides (int_eq a.x b.x && int_eq a.y b.y) (a ≡ b)
point_same a b =
    Decides-like (int_eq a.x b.x && int_eq a.y b.y) (λ h. λ i. record { x = h.0 i; y = h.1 i }) (λ e. (ap (λ (p : Point). p.x) e, ap (λ (p : Point). p.y) e))
    (Decides-and (int_eq a.x b.x) (int_eq a.y b.y) (Decides-int_eq a.x b.x) (Decides-int_eq a.y b.y))

-- points that a test distinguishes, or does not
pub points_apart : (a b : Point) (ne : Bool) → ne ≡ not (int_eq a.x b.x && int_eq a.y b.y) → ne ≡ true → a ≡ b → ⊥
points_apart a b ne is h e = true≢false (sym h ∙ is ∙ ap not ((point_same a b).1 e))

not_false : (t : Bool) → not t ≡ false → t ≡ true
not_false true h = refl
not_false false h = absurd (true≢false h)

pub points_same : (a b : Point) (ne : Bool) → ne ≡ not (int_eq a.x b.x && int_eq a.y b.y) → ne ≡ false → a ≡ b
points_same a b ne is h = (point_same a b).0 (not_false (int_eq a.x b.x && int_eq a.y b.y) (sym is ∙ h))

pub ids_same : (a b c d : ℤ) → Decides (int_eq a b && int_eq c d) ((a ≡ b) × (c ≡ d))
ids_same a b c d = Decides-and (int_eq a b) (int_eq c d) (Decides-int_eq a b) (Decides-int_eq c d)

pub numbers_same : (a b c d : ℕ) → Decides (eqb a b && eqb c d) ((a ≡ b) × (c ≡ d))
numbers_same a b c d = Decides-and (eqb a b) (eqb c d) (Decides-eqb a b) (Decides-eqb c d)
