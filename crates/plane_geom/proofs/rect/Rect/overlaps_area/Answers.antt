-- Overlaps on both axes.
use Rattle.std.proofs.Common.{IsTrue, rules, FitsSigned, w64}
use Rattle.std.proofs.lemmas.Int.{to_z-of_z}
use Rattle.plane_geom.proofs.rect.Rect.overlaps_area.Goals as goal

pub returns-then-overlaps : goal.returns-then-overlaps
returns-then-overlaps c =
    let left : FitsSigned w64 c.args.self.now.left = search rules in
    let right : FitsSigned w64 c.args.self.now.right = search rules in
    let top : FitsSigned w64 c.args.self.now.top = search rules in
    let bottom : FitsSigned w64 c.args.self.now.bottom = search rules in
    let ax : FitsSigned w64 c.args.a.x = search rules in
    let ay : FitsSigned w64 c.args.a.y = search rules in
    let bx : FitsSigned w64 c.args.b.x = search rules in
    let by : FitsSigned w64 c.args.b.y = search rules in
    let on_x = simp to_z-of_z at c.overlaps.ensures in
    let on_y = simp to_z-of_z at c.overlaps-then-overlaps.ensures in
    let yes : IsTrue c.overlaps.result = search rules in
    (λ t. record { x = on_x.0 yes; y = on_y.0 t }, λ m. on_y.1 m.y)

pub returns-else-overlaps : goal.returns-else-overlaps
returns-else-overlaps c =
    let left : FitsSigned w64 c.args.self.now.left = search rules in
    let right : FitsSigned w64 c.args.self.now.right = search rules in
    let ax : FitsSigned w64 c.args.a.x = search rules in
    let bx : FitsSigned w64 c.args.b.x = search rules in
    let on_x = simp to_z-of_z at c.overlaps.ensures in
    (λ t. cc, λ m. on_x.1 m.x)
