-- A legal walk is a stub, steps between the ports, and a stub reversed.
use Rattle.std.proofs.Common.{◌≡◌, ℕ, ◌+◌, ◌-◌, ℤ, Some, None, List, [], ◌++◌, length, take, drop, replicate, sym, ap, subst, ◌∙◌, arith, append_assoc, length-append, append-nil}
use Rattle.std.proofs.lemmas.Int.{ints}
use Rattle.std.proofs.lemmas.List.{take_at, drop_at, take-append-drop, drop-drop, length-take-le, length-drop, length-replicate}
use Rattle.plane_geom.specs.declared.point.Point.{Point}
use Rattle.plane_geom.specs.declared.point.Dir.{Dir}
use Rattle.plane_geom.specs.declared.point.Dir.TheVariants.{East, South, West, North}
use Rattle.plane_geom.specs.declared.rect.Solid.{Solid}
use Rattle.plane_geom.specs.Point.{forward, opposite}
use Rattle.walk_model.specs.declared.task.Choice.{Choice}
use Rattle.walk_model.specs.Walk.{Walk, after}
use Rattle.walk_model.specs.Choice.{stub_length, IsChoice}
use Rattle.walk_model.specs.Legal.{IsLegal, Passes}
use Rattle.walk_model.proofs.CornerByCorner.Scan.{after-append, after-replicate}
use Rattle.walk_laws.proofs.Steps.Clear.{IsClear, ComesBy, clear_from_free, free_from_clear, comes_from_passes, passes_from_comes}

-- the steps of the stub, from the pin, and from the port back to the pin
abbrev pub stub : Choice → List Dir
stub c = replicate (stub_length c) c.dir

abbrev pub stub_back : Choice → List Dir
stub_back c = replicate (stub_length c) (opposite c.dir)

-- a legal walk in three parts: the first stub, the steps between the ports, and the other stub reversed
pub record IsTour (solids : List Solid) (via : List Point) (s : Choice) (w : Walk) (e : Choice) (middle : List Dir) : Type 0 where
  pub start : w.start ≡ s.pin
  pub steps : w.steps ≡ stub s ++ (middle ++ stub_back e)
  pub start_stub : IsClear solids (Some s.node) s.pin (stub s)
  pub clear : IsClear solids None s.port middle
  pub reaches : after s.port middle ≡ e.port
  pub end_stub : IsClear solids (Some e.node) e.port (stub_back e)
  pub comes : ComesBy s.port middle via

there_and_back : (d : Dir) (n : ℕ) (p : Point) → forward d n (forward (opposite d) n p) ≡ p
there_and_back East n p = ap (λ (x : ℤ). record { x = x; y = p.y }) (omega (arith, ints))
there_and_back South n p = ap (λ (y : ℤ). record { x = p.x; y = y }) (omega (arith, ints))
there_and_back West n p = ap (λ (x : ℤ). record { x = x; y = p.y }) (omega (arith, ints))
there_and_back North n p = ap (λ (y : ℤ). record { x = p.x; y = y }) (omega (arith, ints))

pub back_and_there : (d : Dir) (n : ℕ) (p : Point) → forward (opposite d) n (forward d n p) ≡ p
back_and_there East n p = ap (λ (x : ℤ). record { x = x; y = p.y }) (omega (arith, ints))
back_and_there South n p = ap (λ (y : ℤ). record { x = p.x; y = y }) (omega (arith, ints))
back_and_there West n p = ap (λ (x : ℤ). record { x = x; y = p.y }) (omega (arith, ints))
back_and_there North n p = ap (λ (y : ℤ). record { x = p.x; y = y }) (omega (arith, ints))

-- the stub leads to the port, and from the port the stub reversed leads to the pin
pub to_port : (c : Choice) → IsChoice c → after c.pin (stub c) ≡ c.port
to_port c h = after-replicate c.pin (stub_length c) c.dir ∙ sym h.straight

pub to_pin : (c : Choice) → IsChoice c → after c.port (stub_back c) ≡ c.pin
to_pin c h = after-replicate c.port (stub_length c) (opposite c.dir) ∙ ap (forward (opposite c.dir) (stub_length c)) h.straight ∙ back_and_there c.dir (stub_length c) c.pin

-- only from the port
from_port : (c : Choice) (p : Point) → IsChoice c → after p (stub_back c) ≡ c.pin → p ≡ c.port
from_port c p h e =
    sym (there_and_back c.dir (stub_length c) p) ∙ ap (forward c.dir (stub_length c)) (sym (after-replicate p (stub_length c) (opposite c.dir)) ∙ e) ∙ sym h.straight

module _ (solids : List Solid) (via : List Point) (s : Choice) (w : Walk) (e : Choice) (hs : IsChoice s) (he : IsChoice e) where
  -- each legal walk is such a tour
  pub tour_from_legal : IsLegal solids via s w e → (middle : List Dir) × IsTour solids via s w e middle
  tour_from_legal l =
      let a = stub_length s in
      let b = stub_length e in
      let n = length w.steps in
      let middle = take (n - b - a) (drop a w.steps) in
      let behind : drop (n - b - a) (drop a w.steps) ≡ stub_back e = drop-drop (n - b - a) a w.steps ∙ ap (λ k. drop k w.steps) (let k : a + (n - b - a) ≡ n - b = omega (arith, l.stubs_fit) in k) ∙ l.arrives.stub in
      let steps : w.steps ≡ stub s ++ (middle ++ stub_back e) =
      sym (take-append-drop a w.steps) ∙ ap (λ ds. ds ++ drop a w.steps) l.leaves.stub
      ∙ ap (λ ds. stub s ++ ds) (sym (take-append-drop (n - b - a) (drop a w.steps)) ∙ ap (λ ds. middle ++ ds) behind) in
      let first : length (stub s) ≡ a = length-replicate a s.dir in
      let inner : length middle ≡ n - b - a = length-take-le (n - b - a) (drop a w.steps) (omega (arith, length-drop a w.steps)) in
      let last : length (stub_back e) ≡ b = length-replicate b (opposite e.dir) in
      let two : length (stub s ++ middle) ≡ n - b = omega (arith, length-append (stub s) middle, first, inner, l.stubs_fit) in
      let whole : w.steps ≡ (stub s ++ middle) ++ stub_back e = steps ∙ sym (append_assoc (stub s) middle (stub_back e)) in
      let port : after w.start (stub s) ≡ s.port = ap (λ p. after p (stub s)) l.leaves.pin ∙ to_port s hs in
      let there : after s.port middle ≡ e.port =
      from_port e (after s.port middle) he
      (sym (ap (λ ds. after w.start ds) whole ∙ after-append w.start (stub s ++ middle) (stub_back e) ∙ ap (λ p. after p (stub_back e)) (after-append w.start (stub s) middle ∙ ap (λ p. after p middle) port)) ∙ l.arrives.pin) in (
        middle,
        record {
          start = l.leaves.pin;
          steps = steps;
          start_stub = subst (λ p. IsClear solids (Some s.node) p (stub s)) l.leaves.pin
              (clear_from_free solids (Some s.node) w [] (stub s) (middle ++ stub_back e) steps (λ k low high. l.start_stub k low (omega (arith, first))));
          clear = subst (λ p. IsClear solids None p middle) port
              (clear_from_free solids None w (stub s) middle (stub_back e) steps (λ k low high. l.between k (omega (arith, first)) (omega (arith, first, inner))));
          reaches = there;
          end_stub = subst (λ p. IsClear solids (Some e.node) p (stub_back e)) (after-append w.start (stub s) middle ∙ ap (λ p. after p middle) port ∙ there)
              (clear_from_free solids (Some e.node) w (stub s ++ middle) (stub_back e) [] (whole ∙ sym (ap (λ ds. (stub s ++ middle) ++ ds) (append-nil (stub_back e))))
              (λ k low high. l.end_stub k (omega (arith, two)) (omega (arith, two, last, l.stubs_fit))));
          comes = subst (λ p. ComesBy p middle via) port
              (comes_from_passes w (stub s) middle (stub_back e) via steps
              (subst (λ i. Passes w i (length (stub s) + length middle) via) (sym first) (subst (λ j. Passes w a j via) (omega (arith, first, inner, l.stubs_fit)) l.checkpoints)));
        },
      )

  -- and each such tour a legal walk
  pub legal_from_tour : (middle : List Dir) → IsTour solids via s w e middle → IsLegal solids via s w e
  legal_from_tour middle t =
      let a = stub_length s in
      let b = stub_length e in
      let first : length (stub s) ≡ a = length-replicate a s.dir in
      let last : length (stub_back e) ≡ b = length-replicate b (opposite e.dir) in
      let whole : w.steps ≡ (stub s ++ middle) ++ stub_back e = t.steps ∙ sym (append_assoc (stub s) middle (stub_back e)) in
      let long : length w.steps ≡ a + length middle + b = omega (arith, ap length t.steps, length-append (stub s) (middle ++ stub_back e), length-append middle (stub_back e), first, last) in
      let two : length (stub s ++ middle) ≡ length w.steps - b = omega (arith, length-append (stub s) middle, first, long) in
      let port : after w.start (stub s) ≡ s.port = ap (λ p. after p (stub s)) t.start ∙ to_port s hs in
      let there : after w.start (stub s ++ middle) ≡ e.port = after-append w.start (stub s) middle ∙ ap (λ p. after p middle) port ∙ t.reaches in
      record {
        leaves = record { pin = t.start; stub = ap (take a) t.steps ∙ take_at (stub s) (middle ++ stub_back e) a first };
        arrives = record {
          pin = ap (λ ds. after w.start ds) whole ∙ after-append w.start (stub s ++ middle) (stub_back e) ∙ ap (λ p. after p (stub_back e)) there ∙ to_pin e he;
          stub = ap (drop (length w.steps - b)) whole ∙ drop_at (stub s ++ middle) (stub_back e) (length w.steps - b) two;
        };
        stubs_fit = omega (arith, long);
        start_stub = λ k low high. free_from_clear solids (Some s.node) w [] (stub s) (middle ++ stub_back e) t.steps
            (subst (λ p. IsClear solids (Some s.node) p (stub s)) (sym t.start) t.start_stub) k low (omega (arith, first));
        between = λ k low high. free_from_clear solids None w (stub s) middle (stub_back e) t.steps
            (subst (λ p. IsClear solids None p middle) (sym port) t.clear) k (omega (arith, first)) (omega (arith, first, long));
        end_stub = λ k low high. free_from_clear solids (Some e.node) w (stub s ++ middle) (stub_back e) [] (whole ∙ sym (ap (λ ds. (stub s ++ middle) ++ ds) (append-nil (stub_back e))))
            (subst (λ p. IsClear solids (Some e.node) p (stub_back e)) (sym there) t.end_stub) k (omega (arith, two)) (omega (arith, two, last, long));
        checkpoints =
            subst (λ i. Passes w i (length w.steps - b) via) first (subst (λ j. Passes w (length (stub s)) j via) (omega (arith, first, long))
            (passes_from_comes w (stub s) middle (stub_back e) via t.steps (subst (λ p. ComesBy p middle via) (sym port) t.comes)));
      }
