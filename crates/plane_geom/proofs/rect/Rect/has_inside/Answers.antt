-- Inside on both axes.
use Rattle.std.proofs.Common.{IsTrue, rules, FitsSigned, w64}
use Rattle.std.proofs.lemmas.Int.{to_z-of_z}
use Rattle.plane_geom.proofs.rect.Rect.has_inside.Goals as goal

pub returns-then-is_between : goal.returns-then-is_between
returns-then-is_between c =
    let left : FitsSigned w64 c.args.self.now.left = search rules in
    let right : FitsSigned w64 c.args.self.now.right = search rules in
    let top : FitsSigned w64 c.args.self.now.top = search rules in
    let bottom : FitsSigned w64 c.args.self.now.bottom = search rules in
    let x : FitsSigned w64 c.args.p.x = search rules in
    let y : FitsSigned w64 c.args.p.y = search rules in
    let on_x = simp to_z-of_z at c.is_between.ensures in
    let on_y = simp to_z-of_z at c.is_between-then-is_between.ensures in
    let yes : IsTrue c.is_between.result = search rules in
    (λ t. record { x = on_x.0 yes; y = on_y.0 t }, λ m. on_y.1 m.y)

pub returns-else-is_between : goal.returns-else-is_between
returns-else-is_between c =
    let left : FitsSigned w64 c.args.self.now.left = search rules in
    let right : FitsSigned w64 c.args.self.now.right = search rules in
    let x : FitsSigned w64 c.args.p.x = search rules in
    let on_x = simp to_z-of_z at c.is_between.ensures in
    (λ t. cc, λ m. on_x.1 m.x)
