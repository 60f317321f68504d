-- The last leg, or the first one and the others.
use Rattle.std.proofs.Common.{◌≡◌, ℕ, ◌+◌, ◌*◌, ◌^◌, ◌≤◌, List, [], ◌∷◌, ◌++◌, length, get_or, sym, ap, ◌∙◌, arith}
use Rattle.std.specs.Prelude.{pos, unsigned_abs}
use Rattle.std.proofs.lemmas.Int.{ints}
use Rattle.std.proofs.lemmas.List.Elements.{All-get_or}
use Rattle.plane_geom.specs.declared.point.Point.{Point}
use Rattle.plane_geom.specs.Point.{PointIsOnSheet, distance}
use Rattle.plane_geom.proofs.Signed.{distance_bound}
use Rattle.scene_model.specs.Stale.{way_length}
use Rattle.route_book.proofs.Touching.Lengths.{last_by, leg_by, no_points, rest_length, through_bound}
use Rattle.route_book.proofs.reach.+way_lengths.Goals as goal
use Rattle.route_book.proofs.reach.+way_lengths.Goals.{After-way_lengths-rest}

abbrev origin : Point
origin = record { x = pos 0; y = pos 0 }

-- the first leg is short
leg_short : (t : ℕ) (c : After-way_lengths-rest t) → c.distance-step.result ≤ 8000000000
leg_short t c =
    let next = All-get_or PointIsOnSheet c.args.via.now 0 origin (omega (arith, c.in-len1-up.len_at_least)) c.requires.via in
    omega (arith, c.distance-step.ensures, distance_bound c.args.from (get_or c.args.via.now 0 origin) c.requires.from next)

-- so the way is short
straight_short : (t : ℕ) (c : After-way_lengths-rest t) → c.distance-step.result + c.way_lengths-rest.result.straight ≤ 8 * 10 ^ 9 * (length c.args.via.now + 1)
straight_short t c = omega (arith, leg_short t c, rest_length c.args.via.now origin c.in-len1-up.len_at_least, c.way_lengths-rest.ensures.short)

-- and so is the way past the rectangle
by_short : (t : ℕ) (c : After-way_lengths-rest t) → c.distance-step.result + c.way_lengths-rest.result.by ≤ 8 * 10 ^ 9 * (length c.args.via.now + 2)
by_short t c = omega (arith, leg_short t c, rest_length c.args.via.now origin c.in-len1-up.len_at_least, c.way_lengths-rest.ensures.short_by)

pub overflow_add-result : goal.overflow_add-result
overflow_add-result t c = omega (arith, straight_short t (goal.at.overflow_add-result t c).After-way_lengths-rest, c.requires.few)

pub overflow_add-step : goal.overflow_add-step
overflow_add-step t c = omega (arith, by_short t (goal.at.overflow_add-step t c).After-way_lengths-rest, c.requires.few)

pub returns-in-empty-clause-straight : goal.returns-in-empty-clause-straight
returns-in-empty-clause-straight t c =
    let none = no_points c.args.via.now c.in-empty.len_below in
    let alone : way_length c.args.from ([] ++ c.args.to ∷ []) ≡ way_length c.args.from (c.args.via.now ++ c.args.to ∷ []) = sym (ap (λ (ps : List Point). way_length c.args.from (ps ++ c.args.to ∷ [])) none) in
    let plain : distance c.args.from c.args.to ≡ way_length c.args.from ([] ++ c.args.to ∷ []) = omega arith in
    c.distance.ensures ∙ plain ∙ alone

pub returns-in-empty-clause-by : goal.returns-in-empty-clause-by
returns-in-empty-clause-by t c =
    last_by c.args.rect.now c.args.from c.args.to c.args.via.now c.l1_through.result c.unsigned_abs.result c.in-empty.len_below c.l1_through.ensures (let fits = c.l1_through.type_inv in let value = c.unsigned_abs.ensures.value in omega (arith, ints, fits, value))

pub returns-in-empty-clause-short : goal.returns-in-empty-clause-short
returns-in-empty-clause-short t c =
    let step = distance_bound c.args.from c.args.to c.requires.from c.requires.to in
    let is = c.distance.ensures in
    omega (arith, step, is)

pub returns-in-empty-clause-short_by : goal.returns-in-empty-clause-short_by
returns-in-empty-clause-short_by t c =
    let bound = through_bound c.args.rect.now c.args.from c.args.to c.l1_through.result c.requires.rect c.requires.from c.requires.to c.l1_through.ensures in
    let fits = c.l1_through.type_inv in
    let value = c.unsigned_abs.ensures.value in
    let is : c.unsigned_abs.result ≡ unsigned_abs c.l1_through.result = omega (arith, ints, fits, value) in
    omega (arith, bound, is)

pub returns-in-len1-up-clause-by : goal.returns-in-len1-up-clause-by
returns-in-len1-up-clause-by t c =
    leg_by c.args.rect.now c.args.from c.args.to origin c.args.via.now c.l1_through-in-len1-up.result c.unsigned_abs-in-len1-up.result c.way_lengths-rest.result.straight c.distance-step.result c.way_lengths-rest.result.by c.min.result
    c.in-len1-up.len_at_least c.l1_through-in-len1-up.ensures (omega (arith, ints)) c.way_lengths-rest.ensures.straight c.distance-step.ensures c.way_lengths-rest.ensures.by c.min.ensures

pub returns-in-len1-up-clause-short : goal.returns-in-len1-up-clause-short
returns-in-len1-up-clause-short t c = straight_short t (goal.at.returns-in-len1-up-clause-short t c).After-way_lengths-rest

pub returns-in-len1-up-clause-short_by : goal.returns-in-len1-up-clause-short_by
returns-in-len1-up-clause-short_by t c = omega (arith, by_short t (goal.at.returns-in-len1-up-clause-short_by t c).After-way_lengths-rest, c.min.ensures)
