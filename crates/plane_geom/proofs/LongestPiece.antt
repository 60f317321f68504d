-- Each free piece lies in a longest one.
use Rattle.std.proofs.Common.{◌≡◌, ◌⊎◌, ℕ, suc, ◌<◌, ℤ, pos, negsuc, ◌≤ℤ◌, ◌<ℤ◌, List, [], ◌∷◌, length, get_or, All, Any, refl, sym, ap, subst, ◌∙◌, inl, inr, arith}
use Rattle.std.proofs.lemmas.Int.{ints, clamps, by_lt_z}
use Rattle.std.proofs.lemmas.List.Elements.{All-cons, All-nil}
use Rattle.plane_geom.specs.declared.point.Way.{Way}
use Rattle.plane_geom.specs.declared.point.Way.TheVariants.{Vertical, Horizontal}
use Rattle.plane_geom.specs.declared.floor.Line.{Line}
use Rattle.plane_geom.specs.declared.floor.Floor.{Floor}
use Rattle.plane_geom.specs.declared.rect.Rect.{Rect}
use Rattle.plane_geom.specs.declared.rect.Solid.{Solid}
use Rattle.plane_geom.specs.Rect.{Meets}
use Rattle.plane_geom.specs.Floor.{point_on, first_point, last_point, first_side, last_side, AreOnOneWholeLine, IsFreePiece, IsLongestFreePiece}
use Rattle.plane_geom.proofs.Places.{halfway, overlap_ends}

-- where the rectangle begins and ends along the lines of one way
abbrev pub along_low : Way → Rect → ℤ
along_low Vertical r = r.top
along_low Horizontal r = r.left

abbrev pub along_high : Way → Rect → ℤ
along_high Vertical r = r.bottom
along_high Horizontal r = r.right

-- the whole line goes through the open rectangle
pub record Bars (way : Way) (at : ℤ) (r : Rect) : Type 0 where
  pub low : first_side way r <ℤ at
  pub high : at <ℤ last_side way r
  pub some : along_low way r <ℤ along_high way r

pub meets_barred : (r : Rect) (way : Way) (at lo hi : ℤ) → Bars way at r → lo ≤ℤ hi → lo <ℤ along_high way r → along_low way r <ℤ hi → Meets r (point_on way at lo) (point_on way at hi)
meets_barred r Vertical at lo hi b o h k = record {
  x = halfway r.left r.right at at (omega (arith, ints, b.low, b.high)) (omega (arith, ints, clamps, b.high)) (omega (arith, ints, clamps, b.low));
  y = halfway r.top r.bottom lo hi b.some (omega (arith, ints, clamps)) (omega (arith, ints, clamps));
}
meets_barred r Horizontal at lo hi b o h k = record {
  x = halfway r.left r.right lo hi b.some (omega (arith, ints, clamps)) (omega (arith, ints, clamps));
  y = halfway r.top r.bottom at at (omega (arith, ints, b.low, b.high)) (omega (arith, ints, clamps, b.high)) (omega (arith, ints, clamps, b.low));
}

pub barred_meets : (r : Rect) (way : Way) (at lo hi : ℤ) → lo ≤ℤ hi → Meets r (point_on way at lo) (point_on way at hi) → Bars way at r × (lo <ℤ along_high way r) × (along_low way r <ℤ hi)
barred_meets r Vertical at lo hi o m =
    let x = overlap_ends r.left r.right at at m.x in
    let y = overlap_ends r.top r.bottom lo hi m.y in
    (record { low = omega (arith, ints, clamps, x.2); high = omega (arith, ints, clamps, x.1); some = y.0 }, omega (arith, ints, clamps, y.1), omega (arith, ints, clamps, y.2))
barred_meets r Horizontal at lo hi o m =
    let x = overlap_ends r.left r.right lo hi m.x in
    let y = overlap_ends r.top r.bottom at at m.y in
    (record { low = omega (arith, ints, clamps, y.2); high = omega (arith, ints, clamps, y.1); some = x.0 }, omega (arith, ints, clamps, x.1), omega (arith, ints, clamps, x.2))

-- the low end and the high end of the piece, at the nearest rectangles that bar it
record LowEnd (way : Way) (at z : ℤ) (solids : List Solid) (a : ℤ) : Type 0 where
  coordinate : negsuc 1999999999 ≤ℤ a
  within : a ≤ℤ z
  past : All (λ s. Bars way at s.rect → along_high way s.rect ≤ℤ z → along_high way s.rect ≤ℤ a) solids
  reached : (a ≡ negsuc 1999999999) ⊎ Any (λ s. Bars way at s.rect × (along_high way s.rect ≡ a)) solids

record HighEnd (way : Way) (at z : ℤ) (solids : List Solid) (b : ℤ) : Type 0 where
  coordinate : b ≤ℤ pos 2000000000
  within : z ≤ℤ b
  past : All (λ s. Bars way at s.rect → z ≤ℤ along_low way s.rect → b ≤ℤ along_low way s.rect) solids
  reached : (b ≡ pos 2000000000) ⊎ Any (λ s. Bars way at s.rect × (along_low way s.rect ≡ b)) solids

bars_or_not : (way : Way) (at : ℤ) (r : Rect) → Bars way at r ⊎ (Bars way at r → ⊥)
bars_or_not way at r = by_lt_z (first_side way r) at
    (λ l. by_lt_z at (last_side way r)
    (λ h. by_lt_z (along_low way r) (along_high way r)
    (λ s. inl (record { low = l; high = h; some = s }))
    (λ s. inr (λ b. omega (arith, ints, s, b.some))))
    (λ h. inr (λ b. omega (arith, ints, h, b.high))))
    (λ l. inr (λ b. omega (arith, ints, l, b.low)))

any_more : {P : Solid → Type 0} (s : Solid) (ss : List Solid) → Any P ss → Any P (s ∷ ss)
any_more s ss h = (suc h.0, h.1, omega (arith, h.2), h.3, h.4)

abbrev LowPast : Way → ℤ → ℤ → ℤ → Solid → Type 0
LowPast way at z a s = Bars way at s.rect → along_high way s.rect ≤ℤ z → along_high way s.rect ≤ℤ a

abbrev HighPast : Way → ℤ → ℤ → ℤ → Solid → Type 0
HighPast way at z a s = Bars way at s.rect → z ≤ℤ along_low way s.rect → a ≤ℤ along_low way s.rect

low_end : (way : Way) (at z : ℤ) → negsuc 1999999999 ≤ℤ z → (solids : List Solid) → (a : ℤ) × LowEnd way at z solids a
low_end way at z h [] = (negsuc 1999999999, record { coordinate = omega (arith, ints); within = h; past = All-nil (λ s. Bars way at s.rect → along_high way s.rect ≤ℤ z → along_high way s.rect ≤ℤ negsuc 1999999999); reached = inl refl })
low_end way at z h (s ∷ ss) = step (low_end way at z h ss) (bars_or_not way at s.rect)
  where
    more : (a : ℤ) → (a ≡ negsuc 1999999999) ⊎ Any (λ s. Bars way at s.rect × (along_high way s.rect ≡ a)) ss → (a ≡ negsuc 1999999999) ⊎ Any (λ s. Bars way at s.rect × (along_high way s.rect ≡ a)) (s ∷ ss)
    more a (inl e) = inl e
    more a (inr x) = inr (any_more s ss x)

    keep : (e : (a : ℤ) × LowEnd way at z ss a) → LowPast way at z e.0 s → (a : ℤ) × LowEnd way at z (s ∷ ss) a
    keep e p = (e.0, record { coordinate = e.1.coordinate; within = e.1.within; past = All-cons (LowPast way at z e.0) s ss p e.1.past; reached = more e.0 e.1.reached })

    step : ((a : ℤ) × LowEnd way at z ss a) → Bars way at s.rect ⊎ (Bars way at s.rect → ⊥) → (a : ℤ) × LowEnd way at z (s ∷ ss) a
    step e (inr not) = keep e (λ b. absurd (not b))
    step e (inl bars) = by_lt_z z (along_high way s.rect)
        (λ l. keep e (λ b k. omega (arith, ints, l, k)))
        (λ l. by_lt_z e.0 (along_high way s.rect)
        (λ m. (
          along_high way s.rect,
          record {
            coordinate = omega (arith, ints, m, e.1.coordinate);
            within = l;
            past = All-cons (LowPast way at z (along_high way s.rect)) s ss (λ b k. omega (arith, ints)) (λ i d inside b k. omega (arith, ints, m, e.1.past i d inside b k));
            reached = inr (0, s, omega arith, refl, (bars, refl));
          },
        ))
        (λ m. keep e (λ b k. m)))

high_end : (way : Way) (at z : ℤ) → z ≤ℤ pos 2000000000 → (solids : List Solid) → (b : ℤ) × HighEnd way at z solids b
high_end way at z h [] = (pos 2000000000, record { coordinate = omega (arith, ints); within = h; past = All-nil (λ s. Bars way at s.rect → z ≤ℤ along_low way s.rect → pos 2000000000 ≤ℤ along_low way s.rect); reached = inl refl })
high_end way at z h (s ∷ ss) = step (high_end way at z h ss) (bars_or_not way at s.rect)
  where
    more : (a : ℤ) → (a ≡ pos 2000000000) ⊎ Any (λ s. Bars way at s.rect × (along_low way s.rect ≡ a)) ss → (a ≡ pos 2000000000) ⊎ Any (λ s. Bars way at s.rect × (along_low way s.rect ≡ a)) (s ∷ ss)
    more a (inl e) = inl e
    more a (inr x) = inr (any_more s ss x)

    keep : (e : (a : ℤ) × HighEnd way at z ss a) → HighPast way at z e.0 s → (a : ℤ) × HighEnd way at z (s ∷ ss) a
    keep e p = (e.0, record { coordinate = e.1.coordinate; within = e.1.within; past = All-cons (HighPast way at z e.0) s ss p e.1.past; reached = more e.0 e.1.reached })

    step : ((a : ℤ) × HighEnd way at z ss a) → Bars way at s.rect ⊎ (Bars way at s.rect → ⊥) → (a : ℤ) × HighEnd way at z (s ∷ ss) a
    step e (inr not) = keep e (λ b. absurd (not b))
    step e (inl bars) = by_lt_z (along_low way s.rect) z
        (λ l. keep e (λ b k. omega (arith, ints, l, k)))
        (λ l. by_lt_z (along_low way s.rect) e.0
        (λ m. (
          along_low way s.rect,
          record {
            coordinate = omega (arith, ints, m, e.1.coordinate);
            within = l;
            past = All-cons (HighPast way at z (along_low way s.rect)) s ss (λ b k. omega (arith, ints)) (λ i d inside b k. omega (arith, ints, m, e.1.past i d inside b k));
            reached = inr (0, s, omega arith, refl, (bars, refl));
          },
        ))
        (λ m. keep e (λ b k. m)))

-- a free piece lies in a longest one
pub record LiesInLongest (floor : Floor) (l : Line) : Type 0 where
  pub line : Line
  pub longest : IsLongestFreePiece floor line
  pub whole : AreOnOneWholeLine line l
  pub from : line.lo ≤ℤ l.lo
  pub to : l.hi ≤ℤ line.hi
  pub ends : (line.hi ≡ pos 2000000000) ⊎ Any (λ s. along_low line.way s.rect ≡ line.hi) floor.solids

same_line : (l m : Line) → l.way ≡ m.way → l.at ≡ m.at → l.lo ≡ m.lo → l.hi ≡ m.hi → l ≡ m
same_line l m w a lo hi =
    ap (λ (x : Way). record { way = x; at = l.at; lo = l.lo; hi = l.hi }) w ∙ ap (λ (x : ℤ). record { way = m.way; at = x; lo = l.lo; hi = l.hi }) a
    ∙ ap (λ (x : ℤ). record { way = m.way; at = m.at; lo = x; hi = l.hi }) lo ∙ ap (λ (x : ℤ). record { way = m.way; at = m.at; lo = m.lo; hi = x }) hi

pub in_longest : (floor : Floor) (l : Line) → IsFreePiece floor l → LiesInLongest floor l
in_longest floor l f =
    let solids = floor.solids in
    let low = low_end l.way l.at l.lo f.lo.low solids in
    let high = high_end l.way l.at l.hi f.hi.high solids in
    let a = low.0 in
    let b = high.0 in
    let m : Line = record { way = l.way; at = l.at; lo = a; hi = b } in
    record {
      line = m;
      longest = record {
        piece = record {
          at = f.at;
          lo = record { low = low.1.coordinate; high = omega (arith, ints, low.1.within, f.lo.high) };
          hi = record { low = omega (arith, ints, high.1.within, f.hi.low); high = high.1.coordinate };
          ordered = omega (arith, ints, low.1.within, f.ordered, high.1.within);
          free = λ k s inside meets.
              let r = (get_or solids k s).rect in
              let bar = barred_meets r l.way l.at a b (omega (arith, ints, low.1.within, f.ordered, high.1.within)) meets in
              by_lt_z l.lo (along_high l.way r)
              (λ x. by_lt_z (along_low l.way r) l.hi
              (λ y. f.free k s inside (meets_barred r l.way l.at l.lo l.hi bar.0 f.ordered x y))
              (λ y. let far = high.1.past k s inside bar.0 y in omega (arith, ints, far, bar.2)))
              (λ x. let far = low.1.past k s inside bar.0 x in omega (arith, ints, far, bar.1));
        };
        longest = λ n g o from to.
            let at_low : a ≤ℤ n.lo = elim low.1.reached as (λ _. a ≤ℤ n.lo) [
              | inl e ↦ omega (arith, ints, e, g.lo.low)
              | inr x ↦ by_lt_z n.lo a
                  (λ less. absurd (met n x.0 x.1 x.2 x.3 x.4.0 g (record { way = o.way; at = o.at }) (omega (arith, ints, less, x.4.1)) (omega (arith, ints, x.4.0.some, x.4.1, low.1.within, f.ordered, high.1.within, to))))
                  (λ y. y)
            ] in
            let at_high : n.hi ≤ℤ b = elim high.1.reached as (λ _. n.hi ≤ℤ b) [
              | inl e ↦ omega (arith, ints, e, g.hi.high)
              | inr x ↦ by_lt_z b n.hi
                  (λ more. absurd (met n x.0 x.1 x.2 x.3 x.4.0 g (record { way = o.way; at = o.at }) (omega (arith, ints, x.4.0.some, x.4.1, low.1.within, f.ordered, high.1.within, from)) (omega (arith, ints, more, x.4.1))))
                  (λ y. y)
            ] in
            same_line n m (sym o.way) (sym o.at) (omega (arith, ints, at_low, from)) (omega (arith, ints, at_high, to));
      };
      whole = record { way = refl; at = refl };
      from = low.1.within;
      to = high.1.within;
      ends = elim high.1.reached as (λ _. (b ≡ pos 2000000000) ⊎ Any (λ s. along_low l.way s.rect ≡ b) solids) [
        | inl edge ↦ inl edge
        | inr side ↦ inr (side.0, side.1, side.2, side.3, side.4.1)
      ];
    }
  where
    -- a piece of the same whole line that reaches into a rectangle in its way is not free
    met : (n : Line) (k : ℕ) (s : Solid) → k < length floor.solids → get_or floor.solids k s ≡ s → Bars l.way l.at s.rect → IsFreePiece floor n → AreOnOneWholeLine l n → n.lo <ℤ along_high l.way s.rect → along_low l.way s.rect <ℤ n.hi → ⊥
    met n k s inside is bars g o h i =
        let r = (get_or floor.solids k s).rect in
        let here : Meets s.rect (point_on l.way l.at n.lo) (point_on l.way l.at n.hi) = meets_barred s.rect l.way l.at n.lo n.hi bars g.ordered h i in
        g.free k s inside (subst (λ (x : Solid). Meets x.rect (first_point n) (last_point n)) (sym is)
        (subst (λ (w : Way). Meets s.rect (point_on w n.at n.lo) (point_on w n.at n.hi)) o.way
        (subst (λ (z : ℤ). Meets s.rect (point_on l.way z n.lo) (point_on l.way z n.hi)) o.at here)))

-- a longest free piece ends where the sheet does or where a solid begins
pub longest_end : (floor : Floor) (l : Line) → IsLongestFreePiece floor l → (l.hi ≡ pos 2000000000) ⊎ Any (λ s. along_low l.way s.rect ≡ l.hi) floor.solids
longest_end floor l h =
    let m = in_longest floor l h.piece in
    let same : m.line ≡ l = h.longest m.line m.longest.piece (record { way = sym m.whole.way; at = sym m.whole.at }) m.from m.to in
    subst (λ (k : Line). (k.hi ≡ pos 2000000000) ⊎ Any (λ s. along_low k.way s.rect ≡ k.hi) floor.solids) same m.ends
