-- Lines of an arena, and the contents of maps after a put.
use Rattle.std.proofs.Common.{◌≡◌, ◌⊎◌, inl, inr, ℕ, ℤ, ◌+◌, ◌≤ℤ◌, Bool, true, false, not, ◌&&◌, cond, Option, Some, None, is_some, refl, sym, ap, ◌∙◌, arith}
use Rattle.std.specs.Prelude.{int_lt}
use Rattle.std.specs.Ordering.{nat_cmp}
use Rattle.std.specs.FinMap.{FinMap, get, insert, len, get-insert, len-insert}
use Rattle.std.proofs.lemmas.Bool.{cases_eq}
use Rattle.std.proofs.lemmas.Cmp.{nat_cmp_total}
use Rattle.std.proofs.lemmas.Int.{ints}
use Rattle.plane_geom.specs.declared.point.Way.{Way}
use Rattle.plane_geom.specs.declared.point.Way.TheVariants.{Vertical, Horizontal}
use Rattle.plane_geom.specs.declared.floor.Line.{Line}
use Rattle.plane_geom.specs.Floor.{Holds, point_on}
use Rattle.line_arena.specs.Arena.{Arena, IsArena}
use Rattle.line_arena.proofs.Arenas.ArenaLaws.{AreAcross}
use Rattle.line_arena.proofs.Arenas.Seen.{tied, untied}
use Rattle.visibility_graph.specs.Meeting.{meets, reaches, same_way}

pub same_some : {X : Type 0} (x y : X) → ◌≡◌ {A = Option X} (Some x) (Some y) → x ≡ y
same_some x y e = cc

pub not_none : {X : Type 0} (x : X) → ◌≡◌ {A = Option X} None (Some x) → ⊥
not_none x e = cc

-- what is in a map after a put was put in or was there
pub in_put : {X : Type 0} (m : FinMap nat_cmp X) (id q : ℕ) (new x : X) → get (insert m id new) q ≡ Some x → ((q ≡ id) × (x ≡ new)) ⊎ (get m q ≡ Some x)
in_put {X} m id q new x is =
    let law = get-insert nat_cmp_total m id new q in
    elim (cases_eq q id) as (λ _. ((q ≡ id) × (x ≡ new)) ⊎ (get m q ≡ Some x)) [
      | inl e ↦ inl (e, same_some x new (sym is ∙ law ∙ ap (λ b. cond b (Some new) (get m q)) (tied q id e)))
      | inr apart ↦ inr (sym (ap (λ b. cond b (Some new) (get m q)) (untied q id apart)) ∙ sym law ∙ is)
    ]

pub put_there : {X : Type 0} (m : FinMap nat_cmp X) (id : ℕ) (new : X) → get (insert m id new) id ≡ Some new
put_there m id new = get-insert nat_cmp_total m id new id ∙ ap (λ b. cond b (Some new) (get m id)) (tied id id refl)

-- a put under a new id leaves one entry more
pub one_more : {X : Type 0} (m : FinMap nat_cmp X) (id : ℕ) (new : X) → get m id ≡ None → len (insert m id new) ≡ len m + 1
one_more m id new free = len-insert nat_cmp_total m id new ∙ ap (λ o. cond (is_some o) (len m) (len m + 1)) free

first_held : (l : Line) → l.lo ≤ℤ l.hi → Holds l (point_on l.way l.at l.lo)
first_held l o = record { along = l.lo; from = omega (arith, ints); to = o; here = refl }

-- a line stands under one id
pub one_id : (a : Arena) (i j : ℕ) (l : Line) → IsArena a → get a.lines i ≡ Some l → get a.lines j ≡ Some l → i ≡ j
one_id a i j l arena g f =
    let p = first_held l (arena.ordered i l g) in
    arena.apart i j l l (point_on l.way l.at l.lo) g f (record { way = refl; at = refl }) p p

-- ---- lines that meet

runs_by : (v w : Way) (b : Bool) → (not (same_way v w) && b) ≡ true → (b ≡ true) × (((v ≡ Vertical) × (w ≡ Horizontal)) ⊎ ((v ≡ Horizontal) × (w ≡ Vertical)))
runs_by Vertical Vertical b e = absurd (cc)
runs_by Vertical Horizontal b e = (e, inl (refl, refl))
runs_by Horizontal Vertical b e = (e, inr (refl, refl))
runs_by Horizontal Horizontal b e = absurd (cc)

reach_by : (a b c d : Bool) → ((a && b) && (c && d)) ≡ true → (a ≡ true) × (b ≡ true) × (c ≡ true) × (d ≡ true)
reach_by true true true true e = (refl, refl, refl, refl)
reach_by true true true false e = absurd (cc)
reach_by true true false d e = absurd (cc)
reach_by true false c d e = absurd (cc)
reach_by false b c d e = absurd (cc)

-- two lines that meet, the vertical one first
pub across_of_meets : (v h : Line) → v.way ≡ Vertical → meets v h ≡ true → AreAcross v h
across_of_meets v h runs e =
    let r = runs_by v.way h.way (reaches v h.at && reaches h v.at) e in
    let s = reach_by (not (int_lt h.at v.lo)) (not (int_lt v.hi h.at)) (not (int_lt v.at h.lo)) (not (int_lt h.hi v.at)) r.0 in
    let other : h.way ≡ Horizontal = elim r.1 as (λ _. h.way ≡ Horizontal) [ inl w ↦ w.1 | inr w ↦ absurd (let both : Vertical ≡ Horizontal = sym runs ∙ w.0 in cc) ] in
    let above = s.0 in
    let below = s.1 in
    let left = s.2 in
    let right = s.3 in
    record {
      down_runs = runs;
      across_runs = other;
      above = grind (arith, ints);
      below = grind (arith, ints);
      left = grind (arith, ints);
      right = grind (arith, ints);
    }

within : (a b c : ℤ) → a ≤ℤ b → b ≤ℤ c → (not (int_lt b a) && not (int_lt c b)) ≡ true
within a b c l r = grind (arith, ints)

pub meets_of_across : (v h : Line) → AreAcross v h → meets v h ≡ true
meets_of_across v h m =
    let ways : not (same_way v.way h.way) ≡ true = ap (λ w. not (same_way w h.way)) m.down_runs ∙ ap (λ w. not (same_way Vertical w)) m.across_runs in
    both_by (not (same_way v.way h.way)) (reaches v h.at) (reaches h v.at) ways
    (within v.lo h.at v.hi m.above m.below) (within h.lo v.at h.hi m.left m.right)
  where
    both_by : (a b c : Bool) → a ≡ true → b ≡ true → c ≡ true → (a && (b && c)) ≡ true
    both_by true true true e f g = refl
    both_by true true false e f g = g
    both_by true false c e f g = absurd (cc)
    both_by false b c e f g = absurd (cc)

-- what meets a horizontal line is vertical
pub other_runs : (l m : Line) → l.way ≡ Horizontal → meets l m ≡ true → m.way ≡ Vertical
other_runs l m runs e =
    let r = runs_by l.way m.way (reaches l m.at && reaches m l.at) e in
    elim r.1 as (λ _. m.way ≡ Vertical) [ inl w ↦ absurd (let both : Vertical ≡ Horizontal = sym w.0 ∙ runs in cc) | inr w ↦ w.1 ]
