-- The answers at the places so far are exchanged.
use Rattle.std.proofs.Common.{◌≡◌, ◌≢◌, ℕ, ◌<◌, ◌≤◌, length, get_or}
use Rattle.walk_model.specs.declared.route.Answer.{Answer}
use Rattle.route_book.proofs.exchange.exchange.Given as goal

abbrev pub invariant-loop-k : goal.invariant-loop-k
invariant-loop-k l = record {
  same_length : length l.items ≡ length l.fn.items;
  many : length l.away ≡ length l.fn.away;
  done : (j : ℕ) (d : Answer) → j < l.k → get_or l.items (get_or l.places j 0) d ≡ get_or l.fn.away j d;
  kept : (i : ℕ) (d : Answer) → ((j : ℕ) → j < l.k → get_or l.places j 0 ≢ i) → get_or l.items i d ≡ get_or l.fn.items i d;
  out : (j : ℕ) (d : Answer) → j < l.k → get_or l.away j d ≡ get_or l.fn.items (get_or l.places j 0) d;
  rest : (j : ℕ) (d : Answer) → l.k ≤ j → get_or l.away j d ≡ get_or l.fn.away j d;
}
