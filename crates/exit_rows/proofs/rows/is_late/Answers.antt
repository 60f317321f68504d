-- One exit more does not stand for it; in the end none does.
use Rattle.std.proofs.Common.{All, List, subst, sym}
use Rattle.std.proofs.lemmas.Bool.{false≢true}
use Rattle.std.proofs.lemmas.List.{take_all}
use Rattle.std.proofs.lemmas.List.Elements.{All-more}
use Rattle.exit_rows.specs.declared.exit.Kept.{Kept}
use Rattle.exit_rows.specs.Exits.{IsLate, StandsFor}
use Rattle.exit_rows.proofs.rows.is_late.Goals as goal

pub loop-other-preserved : goal.loop-other-preserved
loop-other-preserved c =
    All-more (λ (o : Kept). StandsFor o c.args.kept.now → ⊥) c.args.row.now c.loop-other.other-index c.other-item.result c.loop-other-test.true c.loop-other.invariant
    (λ stands. false≢true (c.if-stands_for.ensures.1 (subst (λ (o : Kept). StandsFor o c.args.kept.now) (sym c.other-item.is) stands)))

-- one that stands for it is among the exits
none : (row : List Kept) (e : Kept) → All (λ o. StandsFor o e → ⊥) row → IsLate row e → ⊥
none row e all (k, o, lt, is, stands) = all k o lt (subst (λ x. StandsFor x e) (sym is) stands)

pub returns : goal.returns
returns c = (
  λ t. absurd (false≢true t),
  λ late. absurd (none c.args.row.now c.args.kept.now
      (subst (All (λ (o : Kept). StandsFor o c.args.kept.now → ⊥)) (take_all c.loop-other.other-index c.args.row.now c.loop-other-test.false) c.loop-other.invariant) late),
)
