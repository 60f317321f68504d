-- Between the ports of a first walk each run is held to its side, and a doubling back stands at a checkpoint.
use Rattle.std.proofs.Common.{◌≡◌, ℕ, suc, ◌<◌, ◌≤◌, ◌⊎◌, List, [], ◌∷◌, ◌++◌, length, take, replicate, Any, Contains, refl, sym, ap, subst, ◌∙◌, inl, inr, arith, append_assoc, length-append}
use Rattle.std.proofs.lemmas.List.{length-replicate, take_at, take-replicate}
use Rattle.plane_geom.specs.declared.point.Point.{Point}
use Rattle.plane_geom.specs.declared.point.Dir.{Dir}
use Rattle.plane_geom.specs.declared.rect.Solid.{Solid}
use Rattle.plane_geom.specs.Point.{forward}
use Rattle.plane_geom.specs.Floor.{Holds}
use Rattle.walk_model.specs.declared.task.Task.{Task}
use Rattle.walk_model.specs.Walk.{after}
use Rattle.walk_model.specs.Choice.{IsChoice}
use Rattle.walk_model.specs.Cost.{turn}
use Rattle.walk_model.specs.Order.{Triple, IsLegalTriple, IsFirst}
use Rattle.walk_model.proofs.CornerByCorner.Scan.{after-append, after-replicate}
use Rattle.walk_laws.specs.Lines.{run_line}
use Rattle.walk_laws.specs.Sides.{SharesSideTo, IsHeldTo, held_to}
use Rattle.walk_laws.proofs.Steps.Flanks.{run_holds}
use Rattle.walk_laws.proofs.Replacing.Tours.{IsTour, stub, stub_back}
use Rattle.walk_laws.proofs.Replacing.Parts.{IsPart, part_of_part}
use Rattle.walk_laws.proofs.Replacing.Legs.{Leg, Cut, cut, leg_of, leg_part, part_begin}
use Rattle.walk_laws.proofs.Replacing.Legs.Cut.{in_front, behind}
use Rattle.walk_laws.proofs.Replacing.InnerRuns.{no_doubling, inner_run}

-- a list of equal steps begins with equal steps
front_equal : (n : ℕ) (d : Dir) (xs ys : List Dir) → replicate n d ≡ xs ++ ys → xs ≡ replicate (length xs) d
front_equal n d xs ys e =
    let long : length xs ≤ n = omega (arith, ap length e, length-append xs ys, length-replicate n d) in
    sym (take_at xs ys (length xs) refl) ∙ ap (take (length xs)) (sym e) ∙ take-replicate (length xs) n d long

-- where a leg ends after a step
leg_end : (port : Point) (via : List Point) (xs : List Dir) (u : Dir) (ys : List Dir) (leg : Leg port via xs u ys) → after (after port leg.front) (leg.before ++ u ∷ leg.behind) ≡ after (after port (xs ++ u ∷ [])) leg.behind
leg_end port via xs u ys leg =
    after-append (after port leg.front) leg.before (u ∷ leg.behind)
    ∙ ap (λ p. after p (u ∷ leg.behind)) (sym (after-append port leg.front leg.before) ∙ ap (after port) (sym leg.first))
    ∙ ap (λ p. after p leg.behind) (sym (after-append port xs (u ∷ [])))

module _ (solids : List Solid) (task : Task) (t : Triple) (l : IsLegalTriple solids task t) (hs : IsChoice l.start) (he : IsChoice l.end) (middle : List Dir)
    (tour : IsTour solids task.via l.start t.walk l.end middle) where
  -- a run between two other steps may be replaced together with them, or a leg ends on it
  pub run_part : (xs : List Dir) (u d : Dir) (n : ℕ) (v : Dir) (ys : List Dir) → middle ≡ xs ++ u ∷ (replicate n d ++ v ∷ ys) →
      IsPart solids task t (stub l.start ++ xs) (u ∷ (replicate n d ++ v ∷ [])) (ys ++ stub_back l.end) ⊎ Any (Holds (run_line (after l.start.port (xs ++ u ∷ [])) d n)) task.via
  run_part xs u d n v ys whole = by_cut (cut run v ys leg.behind leg.back leg.last)
    where
      run : List Dir
      run = replicate n d

      leg : Leg l.start.port task.via xs u (run ++ v ∷ ys)
      leg = leg_of l.start.port task.via middle xs u (run ++ v ∷ ys) tour.comes whole

      p : Point
      p = after l.start.port (xs ++ u ∷ [])

      by_cut : Cut run v ys leg.behind leg.back → IsPart solids task t (stub l.start ++ xs) (u ∷ (run ++ v ∷ [])) (ys ++ stub_back l.end) ⊎ Any (Holds (run_line p d n)) task.via
      by_cut (in_front zs f g) =
          let part : IsPart solids task t (stub l.start ++ leg.front) (leg.before ++ ((u ∷ (run ++ v ∷ [])) ++ zs)) (leg.back ++ stub_back l.end) =
          subst (λ ds. IsPart solids task t (stub l.start ++ leg.front) (leg.before ++ u ∷ ds) (leg.back ++ stub_back l.end))
          (f ∙ sym (append_assoc run (v ∷ []) zs))
          (leg_part solids task t l hs he middle tour xs u (run ++ v ∷ ys) whole leg) in
          let front : (stub l.start ++ leg.front) ++ leg.before ≡ stub l.start ++ xs = append_assoc (stub l.start) leg.front leg.before ∙ ap (λ ds. stub l.start ++ ds) (sym leg.first) in
          let back : zs ++ (leg.back ++ stub_back l.end) ≡ ys ++ stub_back l.end = sym (append_assoc zs leg.back (stub_back l.end)) ∙ ap (λ ds. ds ++ stub_back l.end) (sym g) in
          inl (subst (λ ds. IsPart solids task t ds (u ∷ (run ++ v ∷ [])) (ys ++ stub_back l.end)) front
          (subst (IsPart solids task t ((stub l.start ++ leg.front) ++ leg.before) (u ∷ (run ++ v ∷ []))) back
          (part_of_part solids task t (stub l.start ++ leg.front) leg.before (u ∷ (run ++ v ∷ [])) zs (leg.back ++ stub_back l.end) part)))
      by_cut (behind zs f g) = elim leg.ends as (λ _. IsPart solids task t (stub l.start ++ xs) (u ∷ (run ++ v ∷ [])) (ys ++ stub_back l.end) ⊎ Any (Holds (run_line p d n)) task.via) [
        | inl none ↦ absurd (omega (arith, ap length none, ap length g, length-append zs (v ∷ ys)))
        | inr some ↦ (
            let k = length leg.behind in
            let there : after (after l.start.port leg.front) (leg.before ++ u ∷ leg.behind) ≡ forward d k p =
            leg_end l.start.port task.via xs u (run ++ v ∷ ys) leg ∙ ap (after p) (front_equal n d leg.behind zs f) ∙ after-replicate p k d in
            let within : k ≤ n = omega (arith, ap length f, length-append leg.behind zs, length-replicate n d) in
            let end = after (after l.start.port leg.front) (leg.before ++ u ∷ leg.behind) in
            inr (some.0, end, some.1, some.2, subst (Holds (run_line p d n)) (sym there) (run_holds p d n k within)))
      ]

module _ (solids : List Solid) (task : Task) (t : Triple) (first : IsFirst solids task t) (hs : IsChoice first.legal.start) (he : IsChoice first.legal.end) (middle : List Dir)
    (tour : IsTour solids task.via first.legal.start t.walk first.legal.end middle) where
  abbrev port : Point
  port = first.legal.start.port

  -- a run between two other steps shares a side to where it is held, or a leg ends on it
  pub tour_held : (xs : List Dir) (u d : Dir) (n : ℕ) (v : Dir) (ys : List Dir) → middle ≡ xs ++ u ∷ (replicate (suc n) d ++ v ∷ ys) → 0 < turn u d → 0 < turn d v →
      IsHeldTo solids task.via (held_to u v) (run_line (after port (xs ++ u ∷ [])) d (suc n))
  tour_held xs u d n v ys whole hu hv =
      let p = after port (xs ++ u ∷ []) in
      elim (run_part solids task t first.legal hs he middle tour xs u d (suc n) v ys whole) as (λ _. IsHeldTo solids task.via (held_to u v) (run_line p d (suc n))) [
        | inl part ↦ (
            let there : forward u 1 (after t.walk.start (stub first.legal.start ++ xs)) ≡ p =
            ap (forward u 1) (part_begin solids task t first.legal hs he middle tour xs) ∙ sym (after-append port xs (u ∷ [])) in
            inl (subst (λ q. Any (λ s. SharesSideTo (held_to u v) (run_line q d (suc n)) s.rect) solids) there
            (inner_run solids task t first (stub first.legal.start ++ xs) (ys ++ stub_back first.legal.end) u d v n hu hv part)))
        | inr holds ↦ inr holds
      ]

  -- between two steps where it doubles back a leg ends
  pub tour_tip : (xs : List Dir) (u d : Dir) (ys : List Dir) → middle ≡ xs ++ u ∷ d ∷ ys → turn u d ≡ 2 → Contains task.via (after port (xs ++ u ∷ []))
  tour_tip xs u d ys whole back = by_cut (cut [] d ys leg.behind leg.back leg.last)
    where
      leg : Leg port task.via xs u (d ∷ ys)
      leg = leg_of port task.via middle xs u (d ∷ ys) tour.comes whole

      by_cut : Cut [] d ys leg.behind leg.back → Contains task.via (after port (xs ++ u ∷ []))
      by_cut (in_front zs f g) =
          let part : IsPart solids task t (stub first.legal.start ++ leg.front) (leg.before ++ ((u ∷ d ∷ []) ++ zs)) (leg.back ++ stub_back first.legal.end) =
          subst (λ ds. IsPart solids task t (stub first.legal.start ++ leg.front) (leg.before ++ u ∷ ds) (leg.back ++ stub_back first.legal.end)) f
          (leg_part solids task t first.legal hs he middle tour xs u (d ∷ ys) whole leg) in
          let two = part_of_part solids task t (stub first.legal.start ++ leg.front) leg.before (u ∷ d ∷ []) zs (leg.back ++ stub_back first.legal.end) part in
          let once = no_doubling solids task t first ((stub first.legal.start ++ leg.front) ++ leg.before) (zs ++ (leg.back ++ stub_back first.legal.end)) u d two (omega (arith, back)) in
          absurd (omega (arith, back, once))
      by_cut (behind zs f g) = elim leg.ends as (λ _. Contains task.via (after port (xs ++ u ∷ []))) [
        | inl none ↦ absurd (omega (arith, ap length none, ap length g, length-append zs (d ∷ ys)))
        | inr some ↦ (
            let none : leg.behind ≡ [] = front_equal 0 u leg.behind zs f ∙ ap (λ k. replicate k u) (let k : length leg.behind ≡ 0 = omega (arith, ap length f, length-append leg.behind zs) in k) in
            subst (Contains task.via) (leg_end port task.via xs u (d ∷ ys) leg ∙ ap (after (after port (xs ++ u ∷ []))) none) some)
      ]
