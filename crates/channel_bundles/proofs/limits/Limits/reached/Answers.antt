-- One who travels east or south reaches ever greater coordinates.
use Rattle.std.proofs.Common.{◌≡◌, ◌⊎◌, ◌↔◌, ℤ, ◌≤ℤ◌, inl, inr, sym, subst, w64, FitsSigned, rules}
use Rattle.std.proofs.lemmas.Int.{to_z-of_z}
use Rattle.plane_geom.specs.declared.point.Dir.{Dir}
use Rattle.plane_geom.specs.declared.point.Dir.TheVariants.{East, South, West, North}
use Rattle.channel_bundles.specs.Limits.{IsReached}
use Rattle.channel_bundles.proofs.limits.Limits.reached.Goals as goal

rising : (A B : Type 0) (dir : Dir) (at z : ℤ) → (dir ≡ East) ⊎ (dir ≡ South) → (A ↔ (B × (at ≤ℤ z))) → A ↔ (B × IsReached dir at z)
rising A B dir at z (inl e) is = subst (λ d. A ↔ (B × IsReached d at z)) (sym e) is
rising A B dir at z (inr e) is = subst (λ d. A ↔ (B × IsReached d at z)) (sym e) is

falling : (A B : Type 0) (dir : Dir) (at z : ℤ) → (dir ≡ West) ⊎ (dir ≡ North) → (A ↔ (B × (z ≤ℤ at))) → A ↔ (B × IsReached dir at z)
falling A B dir at z (inl e) is = subst (λ d. A ↔ (B × IsReached d at z)) (sym e) is
falling A B dir at z (inr e) is = subst (λ d. A ↔ (B × IsReached d at z)) (sym e) is

pub returns-in-East : goal.returns-in-East
returns-in-East c =
    let at : FitsSigned w64 c.args.at = search rules in
    let e = simp to_z-of_z at c.from.ensures in
    λ z. rising _ _ c.args.dir c.args.at z c.in-East.is (e z)

pub returns-in-West : goal.returns-in-West
returns-in-West c =
    let at : FitsSigned w64 c.args.at = search rules in
    let e = simp to_z-of_z at c.up_to.ensures in
    λ z. falling _ _ c.args.dir c.args.at z c.in-West.is (e z)
