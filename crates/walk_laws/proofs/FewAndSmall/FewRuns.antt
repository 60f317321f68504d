-- A first walk has at most one run on each kept line for each leg, and those of the two stubs.
use Rattle.std.proofs.Common.{◌≡◌, ℕ, suc, ◌+◌, ◌*◌, ◌<◌, ◌≤◌, List, [], ◌∷◌, ◌++◌, length, All, Contains, refl, sym, ap, subst, ◌∙◌, arith, append_assoc, append-nil}
use Rattle.std.proofs.lemmas.List.Elements.{All-contains}
use Rattle.plane_geom.specs.declared.point.Point.{Point}
use Rattle.plane_geom.specs.declared.point.Dir.{Dir}
use Rattle.plane_geom.specs.declared.point.Way.{Way}
use Rattle.plane_geom.specs.declared.floor.Line.{Line}
use Rattle.plane_geom.specs.declared.floor.Floor.{Floor}
use Rattle.plane_geom.specs.Point.{opposite, distance, heading}
use Rattle.plane_geom.specs.Along.{way_of}
use Rattle.plane_geom.specs.Floor.{Holds, IsFreePiece, IsKept}
use Rattle.walk_model.specs.declared.task.Choice.{Choice}
use Rattle.walk_model.specs.declared.task.Task.{Task}
use Rattle.walk_model.specs.Walk.{after}
use Rattle.walk_model.specs.Choice.{stub_length}
use Rattle.walk_model.specs.Cost.{runs}
use Rattle.walk_model.specs.Legal.{IsTask}
use Rattle.walk_model.specs.Floors.{IsFloorOf}
use Rattle.walk_model.specs.Order.{Triple, IsFirst}
use Rattle.walk_model.proofs.CornerByCorner.Scan.{after-append}
use Rattle.walk_laws.specs.Runs.{share_of_way, runs_of_way}
use Rattle.walk_laws.proofs.Steps.Clear.{ComesBy}
use Rattle.walk_laws.proofs.Replacing.Tours.{IsTour, stub, stub_back, tour_from_legal}
use Rattle.walk_laws.proofs.Replacing.Parts.{IsPart, part_of_part}
use Rattle.walk_laws.proofs.Replacing.Legs.{tour_part, part_begin, comes_around, comes-append}
use Rattle.walk_laws.proofs.OnKeptLines.Lines.{chosen_start, chosen_end, tour_step}
use Rattle.walk_laws.proofs.FewAndSmall.CountedRuns.{counted, counted_stretch, counted_together, all_counted, way_counted, one_share, way_of_share}
use Rattle.walk_laws.proofs.FewAndSmall.OnLines.{few_on_lines}
use Rattle.walk_laws.proofs.OnKeptLines.OneRun.{straight_on_piece}

one_more : (n : ℕ) (cs : List Point) → n + (length cs + 1) * n ≤ (suc (length cs) + 1) * n
one_more n cs = grind arith

-- where each kept line of a direction that counts has a name, and two points of one name lie on one free piece
module _ (floor : Floor) (task : Task) (t : Triple) (is_task : IsTask task) (on : IsFloorOf floor task) (first : IsFirst floor.solids task t)
    {A : Type 0} (share : Dir → ℕ) (one : (d : Dir) → share d ≤ 1) (names : List A) (On : A → Point → Type 0)
    (named : (l : Line) (d : Dir) → IsKept floor l → l.way ≡ way_of d → 0 < share d → (a : A) × Contains names a × ((p : Point) → Holds l p → On a p))
    (joined : (a : A) (p q : Point) → Contains names a → On a p → On a q → (m : Line) × IsFreePiece floor m × Holds m p × Holds m q) where
  abbrev s : Choice
  s = first.legal.start

  abbrev e : Choice
  e = first.legal.end

  module _ (middle : List Dir) (tour : IsTour floor.solids task.via s t.walk e middle) where
    -- a part that serves no checkpoint has at most one run of each name
    part_runs : (front part back : List Dir) → middle ≡ front ++ (part ++ back) → IsPart floor.solids task t (stub s ++ front) part (back ++ stub_back e) → counted share part ≤ length names
    part_runs front part back cut h =
        let q = after s.port front in
        let begin : after t.walk.start (stub s ++ front) ≡ q = part_begin floor.solids task t first.legal (chosen_start floor.solids task t is_task first.legal) (chosen_end floor.solids task t is_task first.legal) middle tour front in
        few_on_lines share one On part names q (record {
          on = λ xs d ys split some.
              let whole : middle ≡ (front ++ xs) ++ d ∷ (ys ++ back) =
              cut ∙ ap (λ ds. front ++ (ds ++ back)) split ∙ ap (λ ds. front ++ ds) (append_assoc xs (d ∷ ys) back) ∙ sym (append_assoc front xs (d ∷ (ys ++ back))) in
              let step = tour_step floor task t is_task on first middle tour (front ++ xs) d (ys ++ back) whole in
              let name = named step.line d step.kept step.way some in
              let here : after s.port (front ++ xs) ≡ after q xs = after-append s.port front xs in
              let there : after (after s.port (front ++ xs)) (d ∷ []) ≡ after q (xs ++ d ∷ []) = ap (λ x. after x (d ∷ [])) here ∙ sym (after-append q xs (d ∷ [])) in
              (name.0, name.1, name.2 (after q xs) (subst (Holds step.line) here step.begin), name.2 (after q (xs ++ d ∷ [])) (subst (Holds step.line) there step.end));
          once = λ xs zs ys split a has begins ends.
              let m = joined a (after q xs) (after q (xs ++ zs)) has begins ends in
              let inner = part_of_part floor.solids task t (stub s ++ front) xs zs ys (back ++ stub_back e) (subst (λ ds. IsPart floor.solids task t (stub s ++ front) ds (back ++ stub_back e)) split h) in
              let p = after t.walk.start ((stub s ++ front) ++ xs) in
              let there : p ≡ after q xs = after-append t.walk.start (stub s ++ front) xs ∙ ap (λ x. after x xs) begin in
              let straight = straight_on_piece floor task t first ((stub s ++ front) ++ xs) zs (ys ++ (back ++ stub_back e)) inner m.0 m.1
              (subst (Holds m.0) (sym there) m.2) (subst (Holds m.0) (after-append q xs zs ∙ ap (λ x. after x zs) (sym there)) m.3) in
              let few = counted_stretch (λ _. 1) (heading p (after p zs)) (distance p (after p zs)) in
              omega (arith, few, ap (counted (λ _. 1)) straight, all_counted zs);
        })

    few_from : (cs ds : List Point) (front rest : List Dir) → middle ≡ front ++ rest → task.via ≡ ds ++ cs → ComesBy s.port front ds → ComesBy (after s.port front) rest cs →
        counted share rest ≤ (length cs + 1) * length names
    few_from [] ds front rest cut via h k =
        let p = tour_part floor.solids task t first.legal (chosen_start floor.solids task t is_task first.legal) (chosen_end floor.solids task t is_task first.legal) middle tour front rest []
        (cut ∙ ap (λ xs. front ++ xs) (sym (append-nil rest)))
        (λ other same. subst (ComesBy s.port (front ++ (other ++ []))) (sym via) (comes_around s.port front rest [] ds [] h tt other same)) in
        omega (arith, part_runs front rest [] (cut ∙ ap (λ xs. front ++ xs) (sym (append-nil rest))) p)
    few_from (c ∷ cs) ds front rest cut via h (ps, qs, split, there, more) =
        let cut' : middle ≡ front ++ (ps ++ qs) = cut ∙ ap (λ xs. front ++ xs) split in
        let behind : ComesBy (after (after s.port front) ps) qs (c ∷ cs) = ([], qs, refl, there, more) in
        let p = tour_part floor.solids task t first.legal (chosen_start floor.solids task t is_task first.legal) (chosen_end floor.solids task t is_task first.legal) middle tour front ps qs cut'
        (λ other same. subst (ComesBy s.port (front ++ (other ++ qs))) (sym via) (comes_around s.port front ps qs ds (c ∷ cs) h behind other same)) in
        let further : ComesBy s.port (front ++ ps) (ds ++ c ∷ []) = comes-append s.port front ps ds (c ∷ []) h (ps, [], sym (append-nil ps), there, tt) in
        let there' : after s.port (front ++ ps) ≡ c = after-append s.port front ps ∙ there in
        let rest_runs = few_from cs (ds ++ c ∷ []) (front ++ ps) qs (cut' ∙ sym (append_assoc front ps qs)) (via ∙ sym (append_assoc ds (c ∷ []) cs)) further (subst (λ x. ComesBy x qs cs) (sym there') more) in
        omega (arith, ap (counted share) split, counted_together share ps qs, part_runs front ps qs cut' p, rest_runs, one_more (length names) cs)

    few_of_tour : counted share t.walk.steps ≤ share s.dir + share (opposite e.dir) + (length task.via + 1) * length names
    few_of_tour = omega (
      arith,
      ap (counted share) tour.steps,
      counted_together share (stub s) (middle ++ stub_back e),
      counted_together share middle (stub_back e),
      counted_stretch share s.dir (stub_length s),
      counted_stretch share (opposite e.dir) (stub_length e),
      few_from task.via [] [] middle refl refl tt tour.comes,
    )

  -- a first walk has at most one run of each name for each leg, and those of the two stubs that count
  pub few_runs : counted share t.walk.steps ≤ share s.dir + share (opposite e.dir) + (length task.via + 1) * length names
  few_runs = let tour = tour_from_legal floor.solids task.via s t.walk e (chosen_start floor.solids task t is_task first.legal) (chosen_end floor.solids task t is_task first.legal) first.legal.legal in few_of_tour tour.0 tour.1

module _ (floor : Floor) (task : Task) (t : Triple) (is_task : IsTask task) (on : IsFloorOf floor task) (first : IsFirst floor.solids task t) (lines : List Line) (kept : All (IsKept floor) lines) where
  on_kept : (m : Line) (p q : Point) → Contains lines m → Holds m p → Holds m q → (l : Line) × IsFreePiece floor l × Holds l p × Holds l q
  on_kept m p q has h k = (m, (All-contains (IsKept floor) lines m kept has).longest.piece, h, k)

  -- with the kept lines by themselves: all of them, or those of one way
  pub few_on_all : ((l : Line) → IsKept floor l → Contains lines l) → runs t.walk.steps ≤ 2 + (length task.via + 1) * length lines
  few_on_all all =
      let few = few_runs floor task t is_task on first (λ _. 1) (λ d. omega arith) lines Holds (λ l d k way some. (l, all l k, λ p h. h)) on_kept in
      omega (arith, few, all_counted t.walk.steps)

  pub few_of_way : (way : Way) → ((l : Line) → IsKept floor l → l.way ≡ way → Contains lines l) → runs_of_way way t.walk.steps ≤ 2 + (length task.via + 1) * length lines
  few_of_way way all =
      let few = few_runs floor task t is_task on first (share_of_way way) (one_share way) lines Holds (λ l d k along some. (l, all l k (along ∙ way_of_share way d some), λ p h. h)) on_kept in
      omega (arith, few, way_counted way t.walk.steps, one_share way first.legal.start.dir, one_share way (opposite first.legal.end.dir))
