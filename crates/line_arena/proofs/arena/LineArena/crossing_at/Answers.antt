-- A crossing at the point stands on the column through it; without a column none does.
use Rattle.std.proofs.Common.{◌≡◌, ℕ, None, Some, sym, subst}
use Rattle.std.specs.Prelude.{Contains}
use Rattle.line_arena.specs.Lists.{Spot, spot_at}
use Rattle.line_arena.specs.Order.{AreApart}
use Rattle.line_arena.proofs.Arenas.ArenaLemmas.{is_arena}
use Rattle.line_arena.proofs.LineOrder.OrderKept.{apart_in, at_absent, at_found, column_is, none_there}
use Rattle.line_arena.proofs.arena.LineArena.crossing_at.Goals as goal
use Rattle.line_arena.proofs.arena.LineArena.crossing_at.Goals.{After-crossing_on}

pub column_through-requires-clause-apart : goal.column_through-requires-clause-apart
column_through-requires-clause-apart c = subst AreApart (sym c.as_slice.ensures.value) (apart_in c.self.inside.lists c.self.inside.order.items _ _ c.self.invariant)

pub crossing_on-requires-clause-lists : goal.crossing_on-requires-clause-lists
crossing_on-requires-clause-lists c = c.self.invariant.lists

pub crossing_on-requires-clause-runs : goal.crossing_on-requires-clause-runs
crossing_on-requires-clause-runs c =
    let found = (c.in_ok-line.ensures {u = tt}).found in
    record { line = found.0; is = (c.self.invariant.listed found.0 c.in_ok-line.line).0 (subst (λ ls. Contains ls (found.0, c.in_ok-line.line)) c.as_slice.ensures.value found.1); way = found.2 }

-- a crossing at the point is on the column that was found
on_column : (c : After-crossing_on) → (k : ℕ) (s : Spot) → spot_at c.self.inside.lists k ≡ Some s → s.point ≡ c.args.at → s.vertical ≡ c.in_ok-line.line
on_column c k s is at =
    let same : Some c.in_ok-line.line ≡ Some s.vertical = column_is c.self.inside.lists c.self.inside.order.items _ _ c.self.invariant c.args.at (Some c.in_ok-line.line)
    (λ e there. (c.in_ok-line.ensures {u = tt}).only e (subst (λ ls. Contains ls e) (sym c.as_slice.ensures.value) there)) k s is at in
    (let one : s.vertical ≡ c.in_ok-line.line = cc in one)

pub returns-in_err-line-clause-absent : goal.returns-in_err-line-clause-absent
returns-in_err-line-clause-absent c =
    let a = c.self.inside.lists in
    rw c.from_residual.ensures (at_absent a c.self.inside.written c.args.self.now c.self.view_is c.self.invariant.lists c.args.at None tt
    (λ k s is at. absurd (none_there s.vertical (column_is a c.self.inside.order.items _ _ c.self.invariant c.args.at None
    (λ e there. (c.in_err-line.ensures {u = tt}).only e (subst (λ ls. Contains ls e) (sym c.as_slice.ensures.value) there)) k s is at))))

pub returns-in_err-line-clause-arena : goal.returns-in_err-line-clause-arena
returns-in_err-line-clause-arena c = is_arena c.self.inside.lists c.self.inside.written c.args.self.now c.self.view_is c.self.invariant.lists

pub returns-clause-found : goal.returns-clause-found
returns-clause-found c = at_found c.self.inside.lists c.self.inside.written c.args.self.now c.self.view_is c.self.invariant.lists c.args.at c.crossing_on.result c.crossing_on.ensures.found

pub returns-clause-absent : goal.returns-clause-absent
returns-clause-absent c = at_absent c.self.inside.lists c.self.inside.written c.args.self.now c.self.view_is c.self.invariant.lists c.args.at c.crossing_on.result c.crossing_on.ensures.found
    (λ k s is at. c.crossing_on.ensures.only k s is (on_column c k s is at) at)

pub returns-clause-arena : goal.returns-clause-arena
returns-clause-arena c = is_arena c.self.inside.lists c.self.inside.written c.args.self.now c.self.view_is c.self.invariant.lists
