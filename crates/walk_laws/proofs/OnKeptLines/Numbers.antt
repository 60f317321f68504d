-- The steps of a walk between its ports by their numbers.
use Rattle.std.proofs.Common.{◌≡◌, ℕ, ◌+◌, ◌-◌, ◌<◌, ◌≤◌, List, [], ◌∷◌, ◌++◌, length, take, drop, replicate, sym, ap, subst, ◌∙◌, arith, append_assoc, length-append}
use Rattle.std.proofs.lemmas.List.{drop_at, take-append-drop, take-append-le, length-take-le, length-replicate}
use Rattle.plane_geom.specs.declared.point.Point.{Point}
use Rattle.plane_geom.specs.declared.point.Dir.{Dir}
use Rattle.plane_geom.specs.declared.rect.Solid.{Solid}
use Rattle.plane_geom.specs.Point.{opposite}
use Rattle.walk_model.specs.declared.task.Task.{Task}
use Rattle.walk_model.specs.Walk.{after, point_at, step_at}
use Rattle.walk_model.specs.Choice.{stub_length}
use Rattle.walk_model.specs.Legal.{IsTask, Passes}
use Rattle.walk_model.specs.Order.{Triple, IsLegalTriple}
use Rattle.walk_laws.proofs.Steps.Clear.{ComesBy, point_after, step_after, comes_from_passes}
use Rattle.walk_laws.proofs.Replacing.Tours.{IsTour, stub, stub_back, to_port}
use Rattle.walk_laws.proofs.Replacing.Legs.{part_begin}
use Rattle.walk_laws.proofs.OnKeptLines.Lines.{chosen_start, chosen_end}

-- steps of which the first are equal
pub equal_front : (n : ℕ) (d : Dir) (rest back : List Dir) → n ≤ length rest → take n (rest ++ back) ≡ replicate n d → rest ≡ replicate n d ++ drop n rest
equal_front n d rest back h equal = sym (take-append-drop n rest) ∙ ap (λ ds. ds ++ drop n rest) (sym (take-append-le n rest back h) ∙ equal)

-- the numbers of a walk's points between its ports, and the steps themselves
module _ (solids : List Solid) (task : Task) (t : Triple) (is_task : IsTask task) (l : IsLegalTriple solids task t) (middle : List Dir) (tour : IsTour solids task.via l.start t.walk l.end middle) where
  abbrev pub from : ℕ
  from = stub_length l.start

  abbrev pub to : ℕ
  to = length t.walk.steps - stub_length l.end

  ends_at : to ≡ from + length middle
  ends_at = omega (arith, ap length tour.steps, length-append (stub l.start) (middle ++ stub_back l.end), length-append middle (stub_back l.end), length-replicate (stub_length l.start) l.start.dir, length-replicate (stub_length l.end) (opposite l.end.dir))

  -- the steps between the ports, cut at the number of a point
  pub record CutAt (k : ℕ) : Type 0 where
    pub front : List Dir
    pub behind : List Dir
    pub cut : middle ≡ front ++ behind
    pub number : k ≡ from + length front

  pub cut_at : (k : ℕ) → from ≤ k → k ≤ to → CutAt k
  cut_at k low high = record {
    front = take (k - from) middle;
    behind = drop (k - from) middle;
    cut = sym (take-append-drop (k - from) middle);
    number = omega (arith, length-take-le (k - from) middle (omega (arith, ends_at)));
  }

  -- how many steps are left
  pub left_of : (xs ys : List Dir) (k : ℕ) → middle ≡ xs ++ ys → k ≡ from + length xs → to ≡ k + length ys
  left_of xs ys k cut is = omega (arith, is, ends_at, ap length cut, length-append xs ys)

  -- the steps of the walk, where some of those between the ports are in front
  pub cut_walk : (xs ys : List Dir) → middle ≡ xs ++ ys → t.walk.steps ≡ (stub l.start ++ xs) ++ (ys ++ stub_back l.end)
  cut_walk xs ys cut = tour.steps ∙ ap (λ ds. stub l.start ++ (ds ++ stub_back l.end)) cut ∙ ap (λ ds. stub l.start ++ ds) (append_assoc xs ys (stub_back l.end)) ∙ sym (append_assoc (stub l.start) xs (ys ++ stub_back l.end))

  pub place_of : (xs : List Dir) → length (stub l.start ++ xs) ≡ from + length xs
  place_of xs = omega (arith, length-append (stub l.start) xs, length-replicate (stub_length l.start) l.start.dir)

  pub rest_of : (xs ys : List Dir) (k : ℕ) → middle ≡ xs ++ ys → k ≡ from + length xs → drop k t.walk.steps ≡ ys ++ stub_back l.end
  rest_of xs ys k cut is = ap (drop k) (cut_walk xs ys cut) ∙ drop_at (stub l.start ++ xs) (ys ++ stub_back l.end) k (place_of xs ∙ sym is)

  -- the point and the step after them
  pub point_of : (xs ys : List Dir) (k : ℕ) → middle ≡ xs ++ ys → k ≡ from + length xs → point_at t.walk k ≡ after l.start.port xs
  point_of xs ys k cut is =
      let here : k ≡ length (stub l.start ++ xs) = is ∙ sym (place_of xs) in
      ap (point_at t.walk) here ∙ point_after t.walk (stub l.start ++ xs) (ys ++ stub_back l.end) (cut_walk xs ys cut)
      ∙ part_begin solids task t l (chosen_start solids task t is_task l) (chosen_end solids task t is_task l) middle tour xs

  pub step_of : (xs : List Dir) (d : Dir) (ys : List Dir) (k : ℕ) → middle ≡ xs ++ d ∷ ys → k ≡ from + length xs → step_at t.walk k ≡ d
  step_of xs d ys k cut is =
      let here : k ≡ length (stub l.start ++ xs) = is ∙ sym (place_of xs) in
      ap (step_at t.walk) here ∙ step_after t.walk (stub l.start ++ xs) d (ys ++ stub_back l.end) (cut_walk xs (d ∷ ys) cut)

  -- two steps between the ports, one after the other
  pub record TwoSteps (k : ℕ) : Type 0 where
    pub before : List Dir
    pub one : Dir
    pub two : Dir
    pub behind : List Dir
    pub cut : middle ≡ before ++ one ∷ two ∷ behind
    pub is_one : step_at t.walk k ≡ one
    pub is_two : step_at t.walk (k + 1) ≡ two
    pub there : point_at t.walk (k + 1) ≡ after l.start.port (before ++ one ∷ [])

  pub two_steps : (k : ℕ) → from ≤ k → k + 1 < to → TwoSteps k
  two_steps k low high = let c = cut_at k low (omega arith) in two_in c.front c.behind c.cut c.number (omega (arith, left_of c.front c.behind k c.cut c.number))
    where
      two_in : (xs rest : List Dir) → middle ≡ xs ++ rest → k ≡ from + length xs → 1 < length rest → TwoSteps k
      two_in xs [] cut is some = absurd (omega (arith, some))
      two_in xs (d ∷ []) cut is some = absurd (omega (arith, some))
      two_in xs (d ∷ e ∷ ys) cut is some =
          let next : middle ≡ (xs ++ d ∷ []) ++ e ∷ ys = cut ∙ sym (append_assoc xs (d ∷ []) (e ∷ ys)) in
          let place : k + 1 ≡ from + length (xs ++ d ∷ []) = omega (arith, is, length-append xs (d ∷ [])) in
          record {
            before = xs;
            one = d;
            two = e;
            behind = ys;
            cut = cut;
            is_one = step_of xs d (e ∷ ys) k cut is;
            is_two = step_of (xs ++ d ∷ []) e ys (k + 1) next place;
            there = point_of (xs ++ d ∷ []) (e ∷ ys) (k + 1) next place;
          }

  -- what is passed up to a point, and from a point on
  pub passed_before : (xs ys : List Dir) (k : ℕ) (cs : List Point) → middle ≡ xs ++ ys → k ≡ from + length xs → Passes t.walk from k cs → ComesBy l.start.port xs cs
  passed_before xs ys k cs cut is h =
      let port : after t.walk.start (stub l.start) ≡ l.start.port = ap (λ q. after q (stub l.start)) tour.start ∙ to_port l.start (chosen_start solids task t is_task l) in
      let long : length (stub l.start) ≡ from = length-replicate (stub_length l.start) l.start.dir in
      let whole : t.walk.steps ≡ stub l.start ++ (xs ++ (ys ++ stub_back l.end)) = cut_walk xs ys cut ∙ append_assoc (stub l.start) xs (ys ++ stub_back l.end) in
      let end : k ≡ length (stub l.start) + length xs = omega (arith, is, long) in
      let there : Passes t.walk (length (stub l.start)) (length (stub l.start) + length xs) cs =
      subst (λ i. Passes t.walk i (length (stub l.start) + length xs) cs) (sym long) (subst (λ j. Passes t.walk from j cs) end h) in
      subst (λ q. ComesBy q xs cs) port (comes_from_passes t.walk (stub l.start) xs (ys ++ stub_back l.end) cs whole there)

  pub passed_behind : (xs ys : List Dir) (k : ℕ) (cs : List Point) → middle ≡ xs ++ ys → k ≡ from + length xs → Passes t.walk k to cs → ComesBy (after l.start.port xs) ys cs
  passed_behind xs ys k cs cut is h =
      let here : k ≡ length (stub l.start ++ xs) = is ∙ sym (place_of xs) in
      let end : to ≡ length (stub l.start ++ xs) + length ys = omega (arith, here, left_of xs ys k cut is) in
      let there : Passes t.walk (length (stub l.start ++ xs)) (length (stub l.start ++ xs) + length ys) cs =
      subst (λ i. Passes t.walk i (length (stub l.start ++ xs) + length ys) cs) here (subst (λ j. Passes t.walk k j cs) end h) in
      subst (λ q. ComesBy q ys cs) (part_begin solids task t l (chosen_start solids task t is_task l) (chosen_end solids task t is_task l) middle tour xs)
      (comes_from_passes t.walk (stub l.start ++ xs) ys (stub_back l.end) cs (cut_walk xs ys cut) there)
