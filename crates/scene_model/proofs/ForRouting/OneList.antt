-- A scene has one list of right answers at most.
use Rattle.std.proofs.Common.{◌≡◌, List, [], ◌∷◌, refl, sym, ◌∙◌}
use Rattle.std.specs.List.{AllZip}
use Rattle.walk_model.specs.declared.route.Answer.{Answer}
use Rattle.walk_model.proofs.Ranking.OneAnswer as walks
use Rattle.scene_model.specs.declared.edge.Edge.{Edge}
use Rattle.scene_model.specs.Scene.{Scene, connectors}
use Rattle.scene_model.specs.Routing.{solids, task_of}
use Rattle.scene_model.specs.Answers.{IsAnswerOf, HaveOneList}

same_answer : (s : Scene) (e : Edge) (a b : Answer) → IsAnswerOf s e a → IsAnswerOf s e b → a ≡ b
same_answer s e a b h k =
    let edge = h.edge ∙ sym k.edge in
    let route = walks.one_answer (solids s) (task_of s e) a.route b.route h.route k.route in
    λ i. record { edge = edge i; route = route i }

same_list : (s : Scene) (es : List Edge) (these those : List Answer) → AllZip (IsAnswerOf s) es these → AllZip (IsAnswerOf s) es those → these ≡ those
same_list s [] [] [] h k = refl
same_list s [] [] (b ∷ bs) h k = absurd k
same_list s [] (a ∷ these) those h k = absurd h
same_list s (e ∷ es) [] those h k = absurd h
same_list s (e ∷ es) (a ∷ these) [] h k = absurd k
same_list s (e ∷ es) (a ∷ these) (b ∷ those) h k = λ i. same_answer s e a b h.0 k.0 i ∷ same_list s es these those h.1 k.1 i

pub one_list : HaveOneList
one_list s these those h k = same_list s (connectors s) these those h k
