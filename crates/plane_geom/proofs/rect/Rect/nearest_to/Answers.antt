-- Nearest on both axes.
use Rattle.std.proofs.Common.{FitsSigned, rules, w64}
use Rattle.std.proofs.lemmas.Int.{to_z-of_z}
use Rattle.plane_geom.proofs.Ways.{nearest_on_sheet}
use Rattle.plane_geom.proofs.rect.Rect.nearest_to.Goals as goal

pub returns-clause-on_the_way : goal.returns-clause-on_the_way
returns-clause-on_the_way c =
    let left : FitsSigned w64 c.args.self.now.left = search rules in
    let right : FitsSigned w64 c.args.self.now.right = search rules in
    let top : FitsSigned w64 c.args.self.now.top = search rules in
    let bottom : FitsSigned w64 c.args.self.now.bottom = search rules in
    let px : FitsSigned w64 c.args.p.x = search rules in
    let py : FitsSigned w64 c.args.p.y = search rules in
    let nx : FitsSigned w64 c.nearest.result = search rules in
    let ny : FitsSigned w64 c.nearest-2.result = search rules in
    record { x = simp to_z-of_z (simp to_z-of_z at c.nearest.ensures); y = simp to_z-of_z (simp to_z-of_z at c.nearest-2.ensures) }

pub returns-clause-on_sheet : goal.returns-clause-on_sheet
returns-clause-on_sheet c = nearest_on_sheet _ _ _ c.requires.within (returns-clause-on_the_way c)
