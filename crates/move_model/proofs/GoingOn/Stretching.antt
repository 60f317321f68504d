-- A stretch in front of what is ahead, and its order.
use Rattle.std.proofs.Common.{◌≡◌, ℕ, suc, zero, ◌+◌, ◌*◌, ◌<◌, ◌==◌, if◌then◌else◌, ℤ, pos, ◌+ℤ◌, ◌<ℤ◌, List, [], ◌++◌, None, length, replicate, refl, sym, ap, ◌∙◌, arith, length-append, append-nil}
use Rattle.std.specs.declared.cmp.Ordering.{Ordering}
use Rattle.std.specs.declared.cmp.Ordering.TheVariants.{Less, Equal, Greater}
use Rattle.std.specs.Ordering.{nat_cmp, int_cmp, ordering_then}
use Rattle.std.specs.Cmp.{int_cmp_is, nat_cmp_is}
use Rattle.std.proofs.Math.Nat.{mul-add}
use Rattle.std.proofs.lemmas.Cmp.{int_ranked, ranked}
use Rattle.std.proofs.lemmas.Int.{ints}
use Rattle.std.proofs.lemmas.List.{length-replicate}
use Rattle.plane_geom.specs.declared.point.Point.{Point}
use Rattle.plane_geom.specs.declared.point.Dir.{Dir}
use Rattle.plane_geom.specs.Along.{across, way_of}
use Rattle.plane_geom.specs.Point.{forward}
use Rattle.walk_model.specs.declared.task.Choice.{Choice}
use Rattle.walk_model.specs.declared.task.Task.{Task}
use Rattle.walk_model.specs.Choice.{IsChoice, stub_length}
use Rattle.walk_model.specs.Cost.{bends, bends_after, runs, runs_after, turn}
use Rattle.walk_model.specs.Lean.{lean, lean_after}
use Rattle.walk_model.specs.Order.{Triple, pin_cost}
use Rattle.walk_model.proofs.CornerByCorner.Bends.{bends_after-stretch, bends_from-stretch, runs_after-stretch}
use Rattle.walk_model.proofs.CornerByCorner.Scan.{forward-forward}
use Rattle.walk_model.proofs.CornerByCorner.Shapes.{lean_after-stretch, new_lean, new_runs}
use Rattle.move_model.specs.declared.ahead.Ahead.{Ahead}
use Rattle.move_model.specs.declared.ahead.Stretch.{Stretch}
use Rattle.move_model.specs.Ahead.{ahead, ahead_cmp, nothing, whole, with_start, with_stretch}

pub same_ahead : (v w : Ahead) → v.cost ≡ w.cost → v.runs ≡ w.runs → v.lean ≡ w.lean → v ≡ w
same_ahead v w c r l = λ i. record { cost = c i; runs = r i; lean = l i }

-- equal steps in front of others: a bend, a run and a coordinate across where they begin
module _ (heading d : Dir) (n : ℕ) (ds : List Dir) where
  bends_in_front : 0 < n → bends_after heading (replicate n d ++ ds) ≡ turn heading d + bends_after d ds
  bends_in_front some = by_number n some
    where
      by_number : (n : ℕ) → 0 < n → bends_after heading (replicate n d ++ ds) ≡ turn heading d + bends_after d ds
      by_number zero some = absurd (omega (arith, some))
      by_number (suc k) some = ap (λ b. turn heading d + b) (bends_after-stretch d k ds)

  runs_in_front : 0 < n → runs_after heading (replicate n d ++ ds) ≡ (if turn heading d == 0 then 0 else 1) + runs_after d ds
  runs_in_front some = by_number n some
    where
      by_number : (n : ℕ) → 0 < n → runs_after heading (replicate n d ++ ds) ≡ (if turn heading d == 0 then 0 else 1) + runs_after d ds
      by_number zero some = absurd (omega (arith, some))
      by_number (suc k) some = ap (λ b. (if turn heading d == 0 then 0 else 1) + b) (runs_after-stretch d k ds)

  lean_in_front : (p : Point) → 0 < n → lean_after heading p (replicate n d ++ ds) ≡ (if turn heading d == 0 then pos 0 else across (way_of d) p) +ℤ lean_after d (forward d n p) ds
  lean_in_front p some = by_number n some
    where
      by_number : (n : ℕ) → 0 < n → lean_after heading p (replicate n d ++ ds) ≡ (if turn heading d == 0 then pos 0 else across (way_of d) p) +ℤ lean_after d (forward d n p) ds
      by_number zero some = absurd (omega (arith, some))
      by_number (suc k) some =
          ap (λ z. (if turn heading d == 0 then pos 0 else across (way_of d) p) +ℤ z)
          (lean_after-stretch d k (forward d 1 p) ds ∙ ap (λ q. lean_after d q ds) (forward-forward d k 1 p ∙ ap (λ m. forward d m p) (let e : 1 + k ≡ suc k = omega arith in e)))

pub stretch_ahead : (penalty : ℕ) (heading : Dir) (s : Stretch) (ds : List Dir) (more : ℕ) → 0 < s.steps →
    ahead penalty heading s.from (replicate s.steps s.dir ++ ds) more ≡ with_stretch penalty heading s (ahead penalty s.dir (forward s.dir s.steps s.from) ds more)
stretch_ahead penalty heading s ds more some =
    let bent : penalty * bends_after heading (replicate s.steps s.dir ++ ds) ≡ penalty * turn heading s.dir + penalty * bends_after s.dir ds =
    ap (λ (b : ℕ). penalty * b) (bends_in_front heading s.dir s.steps ds some) ∙ mul-add penalty (turn heading s.dir) (bends_after s.dir ds) in
    let long : length (replicate s.steps s.dir ++ ds) ≡ s.steps + length ds = length-append (replicate s.steps s.dir) ds ∙ ap (λ k. k + length ds) (length-replicate s.steps s.dir) in
    same_ahead _ _ (omega (arith, bent, long)) (runs_in_front heading s.dir s.steps ds some) (lean_in_front heading s.dir s.steps ds s.from some)

pub stub_ahead : (penalty : ℕ) (heading d : Dir) (p : Point) (n more : ℕ) → 0 < n →
    ahead penalty heading p (replicate n d) more ≡ with_stretch penalty heading (record { from = p; dir = d; steps = n + more }) nothing
stub_ahead penalty heading d p n more some =
    let alone : replicate n d ≡ replicate n d ++ [] = sym (append-nil (replicate n d)) in
    let bent : bends_after heading (replicate n d) ≡ turn heading d + 0 = ap (bends_after heading) alone ∙ bends_in_front heading d n [] some in
    let cost : penalty * bends_after heading (replicate n d) ≡ penalty * turn heading d =
    ap (λ (b : ℕ). penalty * b) (bent ∙ (let e : turn heading d + 0 ≡ turn heading d = omega arith in e)) in
    same_ahead _ _ (omega (arith, cost, length-replicate n d)) (ap (runs_after heading) alone ∙ runs_in_front heading d n [] some) (ap (lean_after heading p) alone ∙ lean_in_front heading d n [] p some)

-- numbers that both rise by the same amount keep their order
nat_shifted : (k a b a' b' : ℕ) → a' ≡ k + a → b' ≡ k + b → nat_cmp a' b' ≡ nat_cmp a b
nat_shifted k a b a' b' e f = sym (by_order (nat_cmp a b) refl)
  where
    by_order : (o : Ordering) → o ≡ nat_cmp a b → nat_cmp a b ≡ nat_cmp a' b'
    by_order Less h = sym h ∙ nat_cmp_is a' b' Less (let l : a < b = ranked a b Less h in omega (arith, e, f, l))
    by_order Equal h = sym h ∙ nat_cmp_is a' b' Equal (let l : a ≡ b = ranked a b Equal h in omega (arith, e, f, l))
    by_order Greater h = sym h ∙ nat_cmp_is a' b' Greater (let l : b < a = ranked a b Greater h in omega (arith, e, f, l))

int_shifted : (k a b : ℤ) → int_cmp (k +ℤ a) (k +ℤ b) ≡ int_cmp a b
int_shifted k a b = sym (by_order (int_cmp a b) refl)
  where
    by_order : (o : Ordering) → o ≡ int_cmp a b → int_cmp a b ≡ int_cmp (k +ℤ a) (k +ℤ b)
    by_order Less h = sym h ∙ int_cmp_is (k +ℤ a) (k +ℤ b) Less (let l : a <ℤ b = int_ranked a b Less h in omega (arith, ints, l))
    by_order Equal h = sym h ∙ int_cmp_is (k +ℤ a) (k +ℤ b) Equal (let l : a ≡ b = int_ranked a b Equal h in omega (arith, ints, l))
    by_order Greater h = sym h ∙ int_cmp_is (k +ℤ a) (k +ℤ b) Greater (let l : b <ℤ a = int_ranked a b Greater h in omega (arith, ints, l))

three_keys : (o p q o' p' q' : Ordering) → o ≡ o' → p ≡ p' → q ≡ q' → ordering_then o (ordering_then p q) ≡ ordering_then o' (ordering_then p' q')
three_keys o p q o' p' q' e f g = λ i. ordering_then (e i) (ordering_then (f i) (g i))

pub stretch_order : (penalty : ℕ) (heading : Dir) (s : Stretch) (v w : Ahead) → ahead_cmp (with_stretch penalty heading s v) (with_stretch penalty heading s w) ≡ ahead_cmp v w
stretch_order penalty heading s v w =
    let bent = penalty * turn heading s.dir in
    three_keys _ _ _ _ _ _
    (nat_shifted (s.steps + bent) v.cost w.cost (v.cost + s.steps + bent) (w.cost + s.steps + bent) (omega arith) (omega arith))
    (nat_shifted (if turn heading s.dir == 0 then 0 else 1) v.runs w.runs _ _ refl refl)
    (int_shifted (if turn heading s.dir == 0 then pos 0 else across (way_of s.dir) s.from) v.lean w.lean)

pub start_order : (s : Choice) (v w : Ahead) → ahead_cmp (with_start s v) (with_start s w) ≡ ahead_cmp v w
start_order s v w = three_keys _ _ _ _ _ _
    (nat_shifted (stub_length s + s.cost) v.cost w.cost _ _ refl refl)
    (nat_shifted 1 v.runs w.runs _ _ refl refl)
    (int_shifted (across (way_of s.dir) s.pin) v.lean w.lean)

-- a whole walk that leaves by its stub
pub start_ahead : (task : Task) (t : Triple) (s : Choice) (ds : List Dir) → IsChoice s → t.walk.start ≡ s.pin → pin_cost task.starts t.start ≡ s.cost →
    t.walk.steps ≡ replicate (stub_length s) s.dir ++ ds → whole task t ≡ with_start s (ahead task.penalty s.dir s.port ds (pin_cost task.ends t.end))
start_ahead task t s ds h pin cost steps =
    let n = stub_length s in
    let run = replicate n s.dir in
    let bent : bends t.walk.steps ≡ 0 + bends_after s.dir ds = ap bends steps ∙ bends_from-stretch None s.dir n ds h.apart in
    let dear : task.penalty * bends t.walk.steps ≡ task.penalty * bends_after s.dir ds = ap (λ (b : ℕ). task.penalty * b) (bent ∙ (let e : 0 + bends_after s.dir ds ≡ bends_after s.dir ds = omega arith in e)) in
    let long : length t.walk.steps ≡ n + length ds = ap length steps ∙ length-append run ds ∙ ap (λ k. k + length ds) (length-replicate n s.dir) in
    same_ahead _ _ (omega (arith, dear, long, cost))
    (ap runs steps ∙ new_runs None s.dir n ds h.apart (λ e. cc))
    (ap (λ p. lean p t.walk.steps) pin ∙ ap (lean s.pin) steps ∙ new_lean None s.dir n s.pin ds h.apart (λ e. cc) ∙ ap (λ q. across (way_of s.dir) s.pin +ℤ lean_after s.dir q ds) (sym h.straight))
