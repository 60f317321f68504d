-- The way from the box to the run is beside the box and along it, and bends so often unless it comes straight.
use Rattle.std.proofs.Common.{◌≡◌, ◌⊎◌, ◌==◌, if◌then◌else◌, ℕ, zero, suc, ◌<ℤ◌, ℤ, pos, ◌+◌, ◌*◌, ◌≤◌, ◌≤ℤ◌, ◌-ℤ◌, inl, inr, refl, sym, ap, subst, ◌∙◌, arith}
use Rattle.std.specs.Int.{int_gap}
use Rattle.std.proofs.Math.Nat.{mul-le-mul_left}
use Rattle.std.proofs.lemmas.Bool.Decides.{nat_tests}
use Rattle.std.proofs.lemmas.Int.{ints}
use Rattle.plane_geom.specs.declared.point.Point.{Point}
use Rattle.plane_geom.specs.declared.point.Dir.{Dir}
use Rattle.plane_geom.specs.declared.point.Dir.TheVariants.{East, South, West, North}
use Rattle.plane_geom.specs.declared.rect.Rect.{Rect}
use Rattle.plane_geom.specs.Along.{across, reach, way_of}
use Rattle.plane_geom.specs.Floor.{first_side, last_side}
use Rattle.line_lists.specs.Numbers.{other_way}
use Rattle.move_model.specs.Boxes.{behind_by, beside, distance_from, fewest_bends, outside}
use Rattle.move_model.proofs.Bounds.{gap_none, no_turn}
use Rattle.search_problem.specs.declared.origin.Origin.{Origin}
use Rattle.exit_rows.specs.Exits.{ahead_at}
use Rattle.exit_rows.proofs.Orders.{gap_above}
use Rattle.exit_spread.proofs.Spreading.OnLine.{way_across}
use Rattle.exit_spread.proofs.Spreading.Turning.{before_or_from, gap_upto}
use Rattle.walk_model.specs.Cost.{turn}
use Rattle.exit_spread.specs.Near.{ComesStraight, bends_to_line, greatest_reach, least_reach}
use Rattle.exit_spread.proofs.near.near_origin.Goals as goal
use Rattle.exit_spread.proofs.near.near_origin.Goals.{After-affordable_from-from}

gap_back : (a b : ℤ) → int_gap (pos 0 -ℤ a) (pos 0 -ℤ b) ≡ int_gap b a
gap_back a b = elim (before_or_from a b) as (λ _. int_gap (pos 0 -ℤ a) (pos 0 -ℤ b) ≡ int_gap b a) [
  | inl less ↦ (let one = gap_none b a (omega (arith, ints, less)) in let other = gap_none (pos 0 -ℤ a) (pos 0 -ℤ b) (omega (arith, ints, less)) in omega (arith, one, other))
  | inr upto ↦ (let one = gap_above b a upto in let other = gap_above (pos 0 -ℤ a) (pos 0 -ℤ b) (omega (arith, ints, upto)) in omega (arith, ints, one, other))
]

-- how far the point is before the box or past it along the direction
abbrev off : Dir → Rect → Point → ℕ
off d r p = outside (least_reach d r) (reach d p) (greatest_reach d r)

-- that is beside the box for one who goes across
off_beside : (d : Dir) (r : Rect) (p : Point) → beside (other_way (way_of d)) r p ≡ off d r p
off_beside East r p = refl
off_beside South r p = refl
off_beside West r p = let low = gap_back p.x r.right in let high = gap_back r.left p.x in omega (arith, low, high)
off_beside North r p = let low = gap_back p.y r.bottom in let high = gap_back r.top p.y in omega (arith, low, high)

-- the distance from a box is that beside it and that along it
distance_parts : (d : Dir) (r : Rect) (p : Point) → distance_from r p ≡ beside (way_of d) r p + off d r p
distance_parts East r p = omega arith
distance_parts South r p = omega arith
distance_parts West r p = let along = off_beside West r p in omega (arith, along)
distance_parts North r p = let along = off_beside North r p in omega (arith, along)

-- a number that is not outside the range
between : (low z high : ℤ) → outside low z high ≡ 0 → (low ≤ℤ z) × (z ≤ℤ high)
between low z high none = let first = gap_upto z low in let last = gap_upto high z in (omega (arith, ints, first, none), omega (arith, ints, last, none))

-- the points of a whole line lie as far behind the box, for one who comes across it
behind_same : (h d : Dir) (r : Rect) (p q : Point) → turn h d ≡ 1 → across (way_of d) q ≡ across (way_of d) p → behind_by h r q ≡ behind_by h r p
behind_same East South r p q once on = ap (λ z. int_gap z r.left) on
behind_same East North r p q once on = ap (λ z. int_gap z r.left) on
behind_same West South r p q once on = ap (λ z. int_gap r.right z) on
behind_same West North r p q once on = ap (λ z. int_gap r.right z) on
behind_same South East r p q once on = ap (λ z. int_gap z r.top) on
behind_same South West r p q once on = ap (λ z. int_gap z r.top) on
behind_same North East r p q once on = ap (λ z. int_gap r.bottom z) on
behind_same North West r p q once on = ap (λ z. int_gap r.bottom z) on
behind_same _ _ r p q once on = absurd (omega (arith, once))

-- the turn, how far behind the box the line is, and how far beside the box and behind it the point is for one who leaves the box
few_or_none : (t line behind side : ℕ) → (t ≡ 0 → behind ≡ line) →
    ((if t == 0 then (if line == 0 then 2 else 4) else if t == 1 then (if line == 0 then 1 else 3) else 2)
    ≤ (if t == 0 then (if behind == 0 then (if side == 0 then 0 else 2) else 4) else if t == 1 then (if behind == 0 then (if line == 0 then 1 else 3) else 3) else 2))
    ⊎ ((t ≡ 0) × (line ≡ 0) × (side ≡ 0))
few_or_none zero zero behind zero same = inr (refl, refl, refl)
few_or_none zero zero behind (suc side) same = inl (let none = same refl in grind (arith, nat_tests))
few_or_none zero (suc line) behind side same = inl (let some = same refl in grind (arith, nat_tests))
few_or_none (suc t) line behind side same = inl (grind (arith, nat_tests))

-- a walk to a point of the line bends so often, or comes straight from the ports
bends_or_straight : (o : Origin) (h d : Dir) (p q : Point) → turn h d ≡ 1 → across (way_of d) q ≡ across (way_of d) p →
    (bends_to_line o p h ≤ fewest_bends o.dir o.ports q h) ⊎ (ComesStraight o p h × (off d o.ports q ≡ 0))
bends_or_straight o h d p q once on =
    let behind = behind_same h d o.ports p q once on in
    let t = turn o.dir h in
    elim (few_or_none t (behind_by h o.ports q) (behind_by o.dir o.ports q) (beside (way_of o.dir) o.ports q) (λ none. ap (λ e. behind_by e o.ports q) (no_turn o.dir h none)))
    as (λ _. (bends_to_line o p h ≤ fewest_bends o.dir o.ports q h) ⊎ (ComesStraight o p h × (off d o.ports q ≡ 0))) [
      | inl few ↦ inl (subst (λ n. (if t == 0 then (if n == 0 then 2 else 4) else if t == 1 then (if n == 0 then 1 else 3) else 2) ≤ fewest_bends o.dir o.ports q h) behind few)
      | inr (none, line, side) ↦ inr (
          let same = no_turn o.dir h none in (
            record { dir = same; behind = sym behind ∙ line },
            sym (ap (λ w. beside w o.ports q) (ap way_of same ∙ way_across h d once) ∙ off_beside d o.ports q) ∙ side,
          ))
    ]

module _ (c : After-affordable_from-from) where
  abbrev heading : Dir
  heading = c.args.run.now.heading

  abbrev origin : Origin
  origin = c.args.origin.now

  -- what is beside the box is the same for the whole line
  sideways : (q : Point) → across (way_of heading) q ≡ across (way_of heading) c.args.run.now.end → distance_from origin.ports q ≡ c.beside-beside.result + off heading origin.ports q
  sideways q on =
      let parts = distance_parts heading origin.ports q in
      let beside_q : c.beside-beside.result ≡ beside (way_of heading) origin.ports q =
      c.beside-beside.ensures.exact ∙ ap (λ w. beside w origin.ports c.args.run.now.end) c.way.ensures
      ∙ ap (λ z. outside (first_side (way_of heading) origin.ports) z (last_side (way_of heading) origin.ports)) (sym on) in
      omega (arith, parts, beside_q)

  -- it bends so often, or comes straight
  bent : (q : Point) → across (way_of heading) q ≡ across (way_of heading) c.args.run.now.end → reach heading q <ℤ c.args.run.now.kept.at →
      (ahead_at c.args.run.now.kept (reach heading q)).cost + c.args.penalty + (origin.lead + distance_from origin.ports q + c.args.penalty * fewest_bends origin.dir origin.ports q c.args.before) ≤ c.args.best →
      (c.affordable_from-from.result ≤ℤ reach heading q) ⊎ (ComesStraight origin c.args.run.now.end c.args.before × (off heading origin.ports q ≡ 0))
  bent q on before cheap =
      elim (bends_or_straight origin c.args.before heading c.args.run.now.end q c.requires.turn on)
      as (λ _. (c.affordable_from-from.result ≤ℤ reach heading q) ⊎ (ComesStraight origin c.args.run.now.end c.args.before × (off heading origin.ports q ≡ 0))) [
        | inl few ↦ inl (
            let far = sideways q on in
            let more = mul-le-mul_left c.args.penalty few in
            let bends = ap (λ n. c.args.penalty * n) c.bends_to_line.ensures.exact in
            c.affordable_from-from.ensures (reach heading q) before (omega (arith, far, more, bends, cheap)))
        | inr straight ↦ inr straight
      ]

pub returns-then-not-comes_straight : goal.returns-then-not-comes_straight
returns-then-not-comes_straight c = λ q on before cheap.
    let at = (goal.at.returns-then-not-comes_straight c).After-affordable_from-from in
    elim (bent at q on before cheap) [
      | inl from ↦ inl (omega (arith, ints, from))
      | inr (straight, none) ↦ absurd (let yes = c.comes_straight.ensures.1 straight in let no = c.if-not-comes_straight.true in grind arith)
    ]

pub returns : goal.returns
returns c = λ q on before cheap.
    let at = (goal.at.returns c).After-affordable_from-from in
    let z = reach (heading at) q in
    let ports = (origin at).ports in
    elim (bent at q on before cheap) [
      | inl from ↦ inl (omega (arith, ints, from))
      | inr (straight, none) ↦ inr (
          let far = sideways at q on in
          let inside = between (least_reach (heading at) ports) z (greatest_reach (heading at) ports) none in
          let low = inside.0 in
          let high = inside.1 in
          let from = c.affordable_from-low.ensures z before (omega (arith, far, cheap)) in
          (let value = c.max.ensures.value in let least = c.least_reach.ensures.exact in grind (arith, ints), omega (arith, ints, high, c.greatest_reach.ensures.exact)))
    ]
