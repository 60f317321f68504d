-- What may change a route, and what where there is none.
use Rattle.std.proofs.Common.{◌≡◌, List, inl, inr, length, sym, ap, subst, ◌∙◌, true, true≢false, eqb}
use Rattle.std.specs.Prelude.{Any}
use Rattle.plane_geom.specs.declared.point.Point.{Point}
use Rattle.plane_geom.specs.declared.rect.Solid.{Solid}
use Rattle.scene_model.specs.Stale.{IsOpen, LineMeets}
use Rattle.route_book.proofs.Comparing.Opened.{none_open, open_some}
use Rattle.route_book.proofs.comparison.Comparison.is_open.Goals as goal

pub returns-in-None : goal.returns-in-None
returns-in-None c =
    let old = c.args.self.now.old.now in
    let new = c.args.self.now.new.now in
    let was = c.args.was.now in
    let means = none_open old new was c.args.self.now.removed.items c.is_empty.result c.requires.solids.went (c.is_empty.ensures ∙ ap (λ (ts : List Solid). eqb (length ts) 0) c.as_slice.ensures.value) in (
      λ h. subst (IsOpen old new was) (sym c.in-None.is) (means.0 h),
      λ why. means.1 (subst (IsOpen old new was) c.in-None.is why),
    )

pub returns-then-is_barred : goal.returns-then-is_barred
returns-then-is_barred c =
    let old = c.args.self.now.old.now in
    let new = c.args.self.now.new.now in
    let was = c.args.was.now in
    let means = open_some old new was c.in-Some.route c.args.self.now.removed.items c.args.self.now.added.items c.requires.solids.went c.requires.solids.came in
    let barred = subst (λ (ps : List Point). Any (λ (t : Solid). LineMeets t.rect ps) c.args.self.now.added.items) c.as_slice-in-Some.ensures (c.is_barred.ensures.0 c.if-is_barred.true) in (
      λ _. subst (IsOpen old new was) (sym c.in-Some.is) (means.0 (inl barred)),
      λ _. c.if-is_barred.true,
    )

pub returns-else-is_barred : goal.returns-else-is_barred
returns-else-is_barred c =
    let old = c.args.self.now.old.now in
    let new = c.args.self.now.new.now in
    let was = c.args.was.now in
    let means = open_some old new was c.in-Some.route c.args.self.now.removed.items c.args.self.now.added.items c.requires.solids.went c.requires.solids.came in (
      λ h. subst (IsOpen old new was) (sym c.in-Some.is) (means.0 (inr (c.is_reached.ensures.0 h))),
      λ why. elim (means.1 (subst (IsOpen old new was) c.in-Some.is why)) as (λ _. c.is_reached.result ≡ true) [
        | inl barred ↦ absurd (true≢false (sym (c.is_barred.ensures.1 (subst (λ (ps : List Point). Any (λ (t : Solid). LineMeets t.rect ps) c.args.self.now.added.items) (sym c.as_slice-in-Some.ensures) barred)) ∙ c.if-is_barred.false))
        | inr reached ↦ c.is_reached.ensures.1 reached
      ],
    )
