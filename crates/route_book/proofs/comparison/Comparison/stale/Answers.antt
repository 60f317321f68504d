-- One edge more: a stale connector, a current one, or a loop.
use Rattle.std.proofs.Common.{◌≡◌, ◌≢◌, ◌+◌, List, ◌∷◌, [], ◌++◌, take, not, refl, sym, ap, subst, arith, w64, of_z}
use Rattle.std.specs.Prelude.{filter}
use Rattle.std.proofs.lemmas.Int.{ints}
use Rattle.std.proofs.lemmas.Bool.{OnTrue_at, OnFalse_at}
use Rattle.scene_model.specs.declared.edge.Edge.{Edge}
use Rattle.scene_model.specs.Scene.{is_loop}
use Rattle.scene_model.specs.Stale.{ArePicked, IsCurrent, IsStale}
use Rattle.scene_store.proofs.Items.{all_items, item_at}
use Rattle.route_book.proofs.Answering.Connectors.{next_connector, next_loop, pass_more, pick_more}
use Rattle.route_book.proofs.comparison.Comparison.stale.Goals as goal
use Rattle.route_book.proofs.comparison.Comparison.stale.Goals.{then-edge+then-is_stale+in_ok-push, else-edge, else-edge-via-then-edge+else-is_stale, else-edge-via-else-edge}

pub loop-edge-preserved : goal.loop-edge-preserved
loop-edge-preserved c =
    let old = c.args.self.now.old.now in
    let new = c.args.self.now.new.now in
    let answers = c.args.answers.now in
    let P : Edge → Type 0 = IsStale old answers new in
    let Q : Edge → Type 0 = IsCurrent old answers new in
    let es : List Edge = new.edges in
    let i = c.loop-edge.edge-index in
    let e : Edge = c.edge-item.result in
    let read = c.edges-edge-items in
    let at = item_at read.result.now es i e read.ensures.value c.loop-edge-test.true c.edge-item.is in
    let so : List Edge = filter (λ d. not (is_loop d)) (take i es) in
    let kept = c.loop-edge.invariant in
    elim c.if-edge.branch [
      | then-edge+then-is_stale+in_ok-push w ↦
          let h = w.if-edge.true in
          let apart : e.from ≢ e.to = λ same. h (ap (of_z w64) same) in
          let stale : P e = OnTrue_at w.if-is_stale.true w.is_stale.ensures.stale in
          let numbers : c.if-edge.numbers.items ≡ c.loop-edge.numbers.items ++ e.number ∷ [] = rw w.numbers-is w.in_ok-push.ensures.items in
          subst (λ (ds : List Edge). ArePicked P Q ds c.if-edge.numbers.items) (sym (next_connector es i e at apart))
          (subst (ArePicked P Q (so ++ e ∷ [])) (sym numbers) (pick_more P Q so c.loop-edge.numbers.items e kept stale))
      | else-edge w ↦
          let numbers : c.if-edge.numbers.items ≡ c.loop-edge.numbers.items = rw w.numbers-is refl in
          elim w.else-edge.branch [
            | else-edge-via-then-edge+else-is_stale w' ↦
                let h = w'.if-edge.true in
                let apart : e.from ≢ e.to = λ same. h (ap (of_z w64) same) in
                let current : Q e = OnFalse_at w'.if-is_stale.false w'.is_stale.ensures.current in
                subst (λ (ds : List Edge). ArePicked P Q ds c.if-edge.numbers.items) (sym (next_connector es i e at apart))
                (subst (ArePicked P Q (so ++ e ∷ [])) (sym numbers) (pass_more P Q so c.loop-edge.numbers.items e kept current))
            | else-edge-via-else-edge w' ↦
                let h = w'.if-edge.false in
                let same : e.from ≡ e.to = omega (arith, ints, h) in
                subst (λ (ds : List Edge). ArePicked P Q ds c.if-edge.numbers.items) (sym (next_loop es i e at same))
                (subst (ArePicked P Q so) (sym numbers) kept)
          ]
    ]

pub returns : goal.returns
returns c =
    let old = c.args.self.now.old.now in
    let new = c.args.self.now.new.now in
    let answers = c.args.answers.now in
    let read = c.edges-edge-items in
    let all = all_items read.result.now new.edges c.loop-edge.edge-index read.ensures.value c.loop-edge-test.false in
    subst (λ (ds : List Edge). ArePicked (IsStale old answers new) (IsCurrent old answers new) (filter (λ d. not (is_loop d)) ds) c.loop-edge.numbers.items) all c.loop-edge.invariant
