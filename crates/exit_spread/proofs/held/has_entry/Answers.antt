-- One box more; in the end the line meets none of them.
use Rattle.std.proofs.Common.{◌≡◌, All, sym, subst, ◌∙◌, true≢false, FitsSigned, w64, rules}
use Rattle.std.proofs.lemmas.Int.{to_z-of_z}
use Rattle.std.proofs.lemmas.List.{take_all}
use Rattle.std.proofs.lemmas.List.Elements.{All-contains, All-more}
use Rattle.plane_geom.specs.Along.{across}
use Rattle.plane_geom.specs.Rect.{HasWithin}
use Rattle.plane_geom.specs.declared.point.Point.{Point}
use Rattle.search_problem.specs.declared.origin.Origin.{Origin}
use Rattle.exit_spread.proofs.held.has_entry.Goals as goal

pub loop-origin-preserved : goal.loop-origin-preserved
loop-origin-preserved c =
    let fits : FitsSigned w64 c.args.at = search rules in
    let meets = simp to_z-of_z at c.meets_ports.ensures in
    simp to_z-of_z
    (All-more (λ (o : Origin). (p : Point) → HasWithin o.ports p → across c.args.way p ≡ c.args.at → ⊥) c.args.origins.now c.loop-origin.origin-index _ c.loop-origin-test.true (simp to_z-of_z at c.loop-origin.invariant)
    (λ p within same. true≢false (sym (meets p within same) ∙ c.if-meets_ports.false)))

pub returns : goal.returns
returns c p any same =
    let fits : FitsSigned w64 c.args.at = search rules in
    let apart : Origin → Type 0 = λ o. (q : Point) → HasWithin o.ports q → across c.args.way q ≡ c.args.at → ⊥ in
    let all : All apart c.args.origins.now = subst (All apart) (take_all c.loop-origin.origin-index c.args.origins.now c.loop-origin-test.false) (simp to_z-of_z at c.loop-origin.invariant) in
    absurd (All-contains apart c.args.origins.now any.1 all (any.0, any.2, any.3) p any.4 same)
