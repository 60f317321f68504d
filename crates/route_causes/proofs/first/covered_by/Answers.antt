-- One checkpoint more lies in no solid, or it is the first that lies in one; in the end none does.
use Rattle.std.proofs.Common.{◌+◌, ◌<◌, ℕ, ℤ, List, length, get_or, take, All, refl, sym, subst, arith}
use Rattle.std.specs.Prelude.{IsSomeAnd}
use Rattle.std.proofs.lemmas.Int.{ints}
use Rattle.std.proofs.lemmas.List.{take_all}
use Rattle.std.proofs.lemmas.List.Elements.{All-more}
use Rattle.std.proofs.lemmas.Option.{slice_get-get_or}
use Rattle.plane_geom.specs.Rect.{HasInside}
use Rattle.plane_geom.specs.declared.point.Point.{Point}
use Rattle.plane_geom.specs.declared.rect.Solid.{Solid}
use Rattle.route_causes.specs.Causes.{IsCoveredBy, IsFirstWith, LiesFree}
use Rattle.route_causes.proofs.first.covered_by.Goals as goal

here : (solids : List Solid) (via : List Point) (i : ℕ) (d : Point) (node : ℤ) → i < length via → All (LiesFree solids) (take i via) →
    IsFirstWith (λ s. HasInside s.rect (get_or via i d)) solids node → IsCoveredBy solids via (i + 1) node
here solids via i d node within free covered = record {
  before = i;
  counted = refl;
  free_before = free;
  covered = subst (λ o. IsSomeAnd o (λ p. IsFirstWith (λ s. HasInside s.rect p) solids node)) (sym (slice_get-get_or via i d within)) covered;
}

pub returns-in-Some-clause-covered : goal.returns-in-Some-clause-covered
returns-in-Some-clause-covered c =
    let first = here c.args.solids.now c.args.via.now c.loop-index.index _ c.in-Some.node c.loop-index-test.true c.loop-index.invariant c.in-Some.ensures.covered in
    subst (IsCoveredBy c.args.solids.now c.args.via.now (c.loop-index.index + 1)) (omega (arith, ints)) first

pub loop-index-preserved : goal.loop-index-preserved
loop-index-preserved c =
    All-more (LiesFree c.args.solids.now) c.args.via.now c.loop-index.index _ c.loop-index-test.true c.loop-index.invariant (c.in_default.ensures.free refl)

pub returns-clause-free : goal.returns-clause-free
returns-clause-free c = λ _. subst (All (LiesFree c.args.solids.now)) (take_all c.loop-index.index c.args.via.now c.loop-index-test.false) c.loop-index.invariant
