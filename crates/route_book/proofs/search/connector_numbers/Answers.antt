-- One edge more, a connector or a loop; in the end all of them.
use Rattle.std.proofs.Common.{◌≡◌, ◌≢◌, ◌+◌, ◌≤◌, ℕ, List, ◌∷◌, [], ◌++◌, length, take, map, not, refl, sym, ap, subst, ◌∙◌, arith, w64, of_z}
use Rattle.std.specs.Prelude.{All, filter}
use Rattle.std.proofs.lemmas.Int.{ints}
use Rattle.std.proofs.lemmas.List.{map-append}
use Rattle.scene_model.specs.declared.edge.Edge.{Edge}
use Rattle.scene_model.specs.Scene.{Scene, connectors, is_loop}
use Rattle.scene_model.proofs.Editing.Edges.{number_of}
use Rattle.scene_store.proofs.Items.{all_items, item_at}
use Rattle.route_book.specs.Search.{AreRising, IsConnector}
use Rattle.route_book.proofs.Answering.Connectors.{all_connectors, all_rising, next_connector, next_loop}
use Rattle.route_book.proofs.search.connector_numbers.Goals as goal
use Rattle.route_book.proofs.search.connector_numbers.Goals.{then-edge+in_ok-push, else-edge}

pub loop-edge-preserved : goal.loop-edge-preserved
loop-edge-preserved c =
    let es : List Edge = c.args.scene.now.edges in
    let i = c.loop-edge.edge-index in
    let e : Edge = c.edge-item.result in
    let read = c.edges-edge-items in
    let at = item_at read.result.now es i e read.ensures.value c.loop-edge-test.true c.edge-item.is in
    let so : List Edge = filter (λ d. not (is_loop d)) (take i es) in
    let kept = c.loop-edge.invariant in
    elim c.if-edge.branch [
      | then-edge+in_ok-push w ↦
          let h = w.if-edge.true in
          let apart : e.from ≢ e.to = λ same. h (ap (of_z w64) same) in
          let numbers : c.if-edge.numbers.items ≡ c.loop-edge.numbers.items ++ e.number ∷ [] = rw w.numbers-is w.in_ok-push.ensures.items in
          numbers ∙ ap (λ (l : List ℕ). l ++ e.number ∷ []) kept ∙ sym (map-append number_of so (e ∷ [])) ∙ ap (map number_of) (sym (next_connector es i e at apart))
      | else-edge w ↦
          let h = w.if-edge.false in
          let same : e.from ≡ e.to = omega (arith, ints, h) in
          let numbers : c.if-edge.numbers.items ≡ c.loop-edge.numbers.items = rw w.numbers-is refl in
          numbers ∙ kept ∙ ap (map number_of) (sym (next_loop es i e at same))
    ]

all_numbers : (s : Scene) (edges : List Edge) (i : ℕ) (numbers : List ℕ) → edges ≡ s.edges → length edges ≤ i
    → numbers ≡ map number_of (filter (λ d. not (is_loop d)) (take i s.edges)) → numbers ≡ map number_of (connectors s)
all_numbers s edges i numbers is past so_far = so_far ∙ ap (λ (ds : List Edge). map number_of (filter (λ d. not (is_loop d)) ds)) (all_items edges s.edges i is past)

pub returns-clause-numbers : goal.returns-clause-numbers
returns-clause-numbers c =
    let read = c.edges-edge-items in
    all_numbers c.args.scene.now read.result.now c.loop-edge.edge-index c.loop-edge.numbers.items read.ensures.value c.loop-edge-test.false c.loop-edge.invariant

pub returns-clause-order : goal.returns-clause-order
returns-clause-order c =
    let read = c.edges-edge-items in
    subst AreRising
    (sym (all_numbers c.args.scene.now read.result.now c.loop-edge.edge-index c.loop-edge.numbers.items read.ensures.value c.loop-edge-test.false c.loop-edge.invariant))
    (all_rising c.args.scene.now read.ensures.valid)

pub returns-clause-connectors : goal.returns-clause-connectors
returns-clause-connectors c =
    let read = c.edges-edge-items in
    subst (All (IsConnector c.args.scene.now))
    (sym (all_numbers c.args.scene.now read.result.now c.loop-edge.edge-index c.loop-edge.numbers.items read.ensures.value c.loop-edge-test.false c.loop-edge.invariant))
    (all_connectors c.args.scene.now read.ensures.valid)
