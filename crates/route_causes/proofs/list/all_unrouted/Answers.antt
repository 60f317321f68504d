-- Each answer is that of a connector, and one more comes with its cause if it has no route.
use Rattle.std.proofs.Common.{◌≡◌, ◌+◌, ◌<◌, ℕ, List, [], ◌∷◌, ◌++◌, length, map, get_or, take, All, sym, ap, subst, ◌∙◌}
use Rattle.std.specs.Prelude.{filter, is_none}
use Rattle.std.specs.List.{AllByRecursion as Each, AllZip}
use Rattle.std.proofs.lemmas.List.{map-append, take_all}
use Rattle.std.proofs.lemmas.List.Elements.{All-from_recursion, All-get_or, filter_more}
use Rattle.walk_model.specs.declared.route.Answer.{Answer}
use Rattle.scene_model.specs.declared.edge.Edge.{Edge}
use Rattle.scene_model.specs.Answers.{AreAnswers, IsAnswerOf}
use Rattle.scene_model.specs.Scene.{Scene, connectors}
use Rattle.scene_model.specs.Valid.{IsValid}
use Rattle.route_book.specs.Search.{IsConnector}
use Rattle.route_book.proofs.Answering.Connectors.{IsConnecting, connecting, is_connector}
use Rattle.route_causes.specs.declared.list.Unrouted.{Unrouted}
use Rattle.route_causes.specs.Unrouted.{AreUnrouted, HasCause}
use Rattle.route_causes.proofs.list.all_unrouted.Goals as goal

answered : (s : Scene) (es : List Edge) (answers : List Answer) → AllZip (IsAnswerOf s) es answers → Each (IsConnecting s) es → Each (λ a. IsConnector s a.edge) answers
answered s [] [] is are = tt
answered s [] (a ∷ answers) is are = absurd is
answered s (e ∷ es) [] is are = tt
answered s (e ∷ es) (a ∷ answers) is are = (subst (IsConnector s) (sym is.0.edge) (is_connector s e are.0), answered s es answers is.1 are.1)

all_answered : (s : Scene) (answers : List Answer) → IsValid s → AreAnswers s answers → All (λ a. IsConnector s a.edge) answers
all_answered s answers valid right = All-from_recursion (λ (a : Answer). IsConnector s a.edge) answers (answered s (connectors s) answers right (connecting s valid))

one_more : (s : Scene) (answers : List Answer) (i : ℕ) (a : Answer) (old new : List Unrouted) → i < length answers → a ≡ get_or answers i a → AreUnrouted s (take i answers) old →
    map (λ u. u.edge) new ≡ map (λ u. u.edge) old ++ map (λ b. b.edge) (filter (λ b. is_none b.route) (a ∷ [])) → (All (HasCause s) old → All (HasCause s) new) →
    AreUnrouted s (take (i + 1) answers) new
one_more s answers i a old new within is are edges causes =
    let none = λ (b : Answer). is_none b.route in
    let number = λ (b : Answer). b.edge in
    let more : filter none (take (i + 1) answers) ≡ filter none (take i answers) ++ filter none (a ∷ []) =
    filter_more none answers i a within ∙ ap (λ b. filter none (take i answers) ++ filter none (b ∷ [])) (sym is) in
    record {
      edges = edges ∙ ap (λ ns. ns ++ map number (filter none (a ∷ []))) are.edges
          ∙ sym (ap (map number) more ∙ map-append number (filter none (take i answers)) (filter none (a ∷ [])));
      causes = causes are.causes;
    }

pub push_if_unrouted-requires : goal.push_if_unrouted-requires
push_if_unrouted-requires c =
    let a = c.answer-item.result in
    subst (λ (b : Answer). IsConnector c.args.scene.now b.edge) (sym c.answer-item.is)
    (All-get_or (λ (b : Answer). IsConnector c.args.scene.now b.edge) c.args.answers.now c.loop-answer.answer-index a c.loop-answer-test.true
    (all_answered c.args.scene.now c.args.answers.now c.valid.ensures c.requires))

pub loop-answer-preserved : goal.loop-answer-preserved
loop-answer-preserved c =
    one_more c.args.scene.now c.args.answers.now c.loop-answer.answer-index c.answer-item.result c.loop-answer.found.items c.push_if_unrouted.new.found.items c.loop-answer-test.true
    c.answer-item.is c.loop-answer.invariant c.in_ok-push_if_unrouted.ensures.edges c.in_ok-push_if_unrouted.ensures.causes

pub returns : goal.returns
returns c = subst (λ (answers : List Answer). AreUnrouted c.args.scene.now answers c.loop-answer.found.items) (take_all c.loop-answer.answer-index c.args.answers.now c.loop-answer-test.false) c.loop-answer.invariant
