-- The first crossing that the point does not lie beyond stands at the point, or none does.
use Rattle.std.proofs.Common.{◌≡◌, ◌≢◌, ◌∙◌, None, Some, ap, sym, subst}
use Rattle.std.specs.Option.{option_map}
use Rattle.plane_geom.specs.Along.{reach}
use Rattle.line_arena.specs.Entries.{entry_at}
use Rattle.line_arena.specs.Lists.{IsFirstFrom, Spot, Stands, spot_at, spot_of}
use Rattle.line_arena.proofs.Linking.Linked.{same_spot}
use Rattle.line_arena.proofs.Linking.Walk.{first_down, stands_live}
use Rattle.line_arena.proofs.lists.Lists.crossing_on.Goals as goal

pub get-requires : goal.get-requires
get-requires c =
    let a = c.args.self.now in
    let d = c.nearer_start-dir.result in
    let h = subst (IsFirstFrom (Stands (spot_at a) c.args.line d) (reach d c.args.point)) (sym (c.in_ok-crossing.ensures {u = tt})) c.first_from.ensures in
    subst (λ i. entry_at a.crossings i ≢ None) (sym c.place.ensures) (stands_live a c.args.line c.nearer_start-dir.result c.in_ok-crossing.crossing h.0 h.1)

pub returns-in_err-crossing-clause-only : goal.returns-in_err-crossing-clause-only
returns-in_err-crossing-clause-only c = λ k s is on at.
    c.from_residual.ensures ∙ first_down c.args.self.now c.args.line c.nearer_start-dir.result c.args.point c.requires.lists c.requires.runs c.nearer_start-dir.ensures
    None (subst (IsFirstFrom (Stands (spot_at c.args.self.now) c.args.line c.nearer_start-dir.result) (reach c.nearer_start-dir.result c.args.point)) (sym (c.in_err-crossing.ensures {u = tt})) c.first_from.ensures) k s is on at

pub returns-then-is_same-clause-found : goal.returns-then-is_same-clause-found
returns-then-is_same-clause-found c =
    let a = c.args.self.now in
    let e = c.get.result.now in
    let is = subst (λ i. entry_at a.crossings i ≡ Some e) c.place.ensures c.get.ensures in
    (spot_of e, ap (option_map spot_of) is, c.is_same.ensures.0 c.if-is_same.true)

pub returns-then-is_same-clause-only : goal.returns-then-is_same-clause-only
returns-then-is_same-clause-only c = λ k s is on at.
    first_down c.args.self.now c.args.line c.nearer_start-dir.result c.args.point c.requires.lists c.requires.runs c.nearer_start-dir.ensures
    (Some c.in_ok-crossing.crossing) (subst (IsFirstFrom (Stands (spot_at c.args.self.now) c.args.line c.nearer_start-dir.result) (reach c.nearer_start-dir.result c.args.point)) (sym (c.in_ok-crossing.ensures {u = tt})) c.first_from.ensures) k s is on at

pub returns-else-is_same-clause-only : goal.returns-else-is_same-clause-only
returns-else-is_same-clause-only c = λ k s is on at.
    let a = c.args.self.now in
    let e = c.get.result.now in
    let found : Some c.in_ok-crossing.crossing ≡ Some k =
    first_down a c.args.line c.nearer_start-dir.result c.args.point c.requires.lists c.requires.runs c.nearer_start-dir.ensures
    (Some c.in_ok-crossing.crossing) (subst (IsFirstFrom (Stands (spot_at c.args.self.now) c.args.line c.nearer_start-dir.result) (reach c.nearer_start-dir.result c.args.point)) (sym (c.in_ok-crossing.ensures {u = tt})) c.first_from.ensures) k s is on at in
    let same : c.in_ok-crossing.crossing ≡ k = cc in
    let here = subst (λ i. entry_at a.crossings i ≡ Some e) (c.place.ensures ∙ same) c.get.ensures in
    let point = ap (λ (x : Spot). x.point) (same_spot (spot_of e) s (spot_at a k) (ap (option_map spot_of) here) is) in
    absurd (cc (c.is_same.ensures.1 (point ∙ at), c.if-is_same.false))
