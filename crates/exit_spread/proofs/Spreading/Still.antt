-- What was offered is offered still, while lines keep more exits and more candidates are queued.
use Rattle.std.proofs.Common.{◌≡◌, ℕ, ◌≤◌, List, Option, sym, subst, inl, inr, arith}
use Rattle.std.specs.Prelude.{Any, Contains}
use Rattle.std.specs.BinaryHeap.{heap_items}
use Rattle.std.specs.declared.cmp.Reverse.{Reverse}
use Rattle.search_problem.specs.declared.queue.Candidate.{Candidate}
use Rattle.plane_geom.specs.declared.point.Point.{Point}
use Rattle.plane_geom.specs.declared.point.Dir.{Dir}
use Rattle.search_problem.specs.declared.problem.Problem.{Problem}
use Rattle.exit_rows.specs.Exits.{IsLate, StandsFor}
use Rattle.exit_rows.specs.Rows.{kept_in}
use Rattle.exit_rows.specs.declared.exit.Exit.{Exit}
use Rattle.exit_rows.specs.declared.exit.Kept.{Kept}
use Rattle.exit_rows.specs.declared.rows.Rows.{Rows}
use Rattle.exit_spread.specs.declared.spread.Spread.{Spread}
use Rattle.exit_spread.specs.Offers.{IsOffered, kept_of}

pub any_in : {X : Type 0} (P : X → Type 0) (xs ys : List X) → ((x : X) → Contains xs x → Contains ys x) → Any P xs → Any P ys
any_in P xs ys more (k, x, lt, is, h) = let c = more x (k, lt, is) in (c.0, x, c.1, c.2, h)

-- all that lines keep by the one they keep by the other
abbrev pub AllKept : Spread → Spread → Type 0
AllKept old new = (k l : ℕ) (d : Dir) (e : Kept) → Contains (kept_in old.rows k l d) e → Contains (kept_in new.rows k l d) e

pub same_kept : (old new : Spread) → new.rows ≡ old.rows → AllKept old new
same_kept old new same k l d e has = subst (λ (t : Rows). Contains (kept_in t k l d) e) (sym same) has

-- an exit that is late is late still
pub still_late : (old new : Spread) → AllKept old new → (k l : ℕ) (d : Dir) (e : Kept) → IsLate (kept_in old.rows k l d) e → IsLate (kept_in new.rows k l d) e
still_late old new rows k l d e late = any_in (λ o. StandsFor o e) (kept_in old.rows k l d) (kept_in new.rows k l d) (rows k l d) late

-- an exit that was offered has been offered still
pub still_offered : (p : Problem) (old new : Spread) → AllKept old new
    → ((c : Reverse (Candidate Exit)) → Contains (heap_items old.queue.heap) c → Contains (heap_items new.queue.heap) c) → new.best ≤ old.best
    → (hole : Option Exit) (q : Point) (x : Exit) → IsOffered p old hole q x → IsOffered p new hole q x
still_offered p old new rows queue best hole q x (inl (inl dear)) = inl (inl (omega (arith, dear, best)))
still_offered p old new rows queue best hole q x (inl (inr long)) = inl (inr long)
still_offered p old new rows queue best hole q x (inr (inl queued)) = inr (inl (queue _ queued))
still_offered p old new rows queue best hole q x (inr (inr (inl taken))) =
    inr (inr (inl (λ k comes. still_late old new rows k x.line x.place.heading (kept_of p k q x) (taken k comes))))
still_offered p old new rows queue best hole q x (inr (inr (inr same))) = inr (inr (inr same))
