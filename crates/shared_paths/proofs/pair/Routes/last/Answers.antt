-- The path ends where the pair does not go on, and reaches the next pair where it does.
use Rattle.std.proofs.Common.{◌≡◌, ◌∙◌, ◌+◌, true, false, sym, ap, subst, rules}
use Rattle.std.specs.Prelude.{IsTrue}
use Rattle.std.proofs.lemmas.Bool.{false≢true}
use Rattle.shared_paths.specs.Pairs.{GoesOn, IsPair, Pair, next_pair}
use Rattle.shared_paths.specs.Views.{view}
use Rattle.shared_paths.proofs.AlongPaths.Ahead.{Reaches, ends, goes_ahead, one_more, reach_more}
use Rattle.shared_paths.proofs.pair.Routes.last.Goals as goal

pub returns-then-not-goes_on-clause-path : goal.returns-then-not-goes_on-clause-path
returns-then-not-goes_on-clause-path c =
    ends c.args.self.a.now c.args.self.b.now (view c.args.first) (view c.loop-run.last) c.loop-run.invariant.reaches
    (λ goes. (let t : IsTrue c.goes_on.result = c.goes_on.ensures.1 goes in let f : c.goes_on.result ≡ false = search rules in absurd (false≢true (sym f ∙ t))))

pub loop-run-preserved : goal.loop-run-preserved
loop-run-preserved c =
    let a = c.args.self.a.now in
    let b = c.args.self.b.now in
    let t : c.goes_on.result ≡ true = search rules in
    let goes : GoesOn a b true (view c.loop-run.last) = c.goes_on.ensures.0 t in
    let is : IsPair a b (next_pair a b true (view c.loop-run.last)) = goes_ahead a b c.requires.a c.requires.b (view c.loop-run.last) c.loop-run.invariant.pair goes in
    let next = c.next-last.ensures in
    record {
      pair = subst (IsPair a b) (sym next) is;
      at = ap (λ (p : Pair). p.a) next ∙ one_more a b (view c.loop-run.last) ∙ ap (λ n. n + 1) c.loop-run.invariant.at;
      reaches = subst (Reaches a b (view c.args.first)) (sym next) (reach_more a b (view c.args.first) (view c.loop-run.last) c.loop-run.invariant.reaches goes is);
    }
