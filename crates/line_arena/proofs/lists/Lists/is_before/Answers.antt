-- A crossing that names the line stands on it.
use Rattle.std.proofs.Common.{◌≡◌, ◌∙◌, ℕ, Some, arith, subst, sym}
use Rattle.line_arena.specs.Entries.{entry_at}
use Rattle.line_arena.specs.Lists.{IsShortOf, spot_at}
use Rattle.line_arena.proofs.Linking.Walk.{is_short_of}
use Rattle.line_arena.proofs.lists.Lists.is_before.Goals as goal

some_is : (i j : ℕ) → Some i ≡ Some j → i ≡ j
some_is i j e = cc

pub returns-then-eq : goal.returns-then-eq
returns-then-eq c = λ further k named.
    let a = c.args.self.now in
    let e = c.get.result.now in
    let is = subst (λ i. entry_at a.crossings i ≡ Some e) c.place.ensures c.get.ensures in
    let same_line : c.line.result ≡ c.args.line = grind (arith, c.eq.ensures, c.if-eq.true) in
    let on = sym c.line.ensures ∙ same_line in
    let same = some_is c.in-Some.crossing k (sym c.in-Some.is ∙ c.crossing.ensures ∙ named) in
    subst (IsShortOf (spot_at a) c.args.line c.args.dir c.args.point) same
    (is_short_of a c.args.line c.args.dir c.args.point c.in-Some.crossing e is on (c.is_further.ensures.0 further))
