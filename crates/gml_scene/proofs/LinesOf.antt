-- The nudged lines of right answers are of different connectors, in the order of the scene.
use Rattle.std.proofs.Common.{◌≡◌, ◌≢◌, ℕ, ◌<◌, List, [], ◌∷◌, map, sym, subst}
use Rattle.std.specs.Prelude.{IsSomeAnd}
use Rattle.std.specs.List.{AllByRecursion as Each}
use Rattle.std.proofs.lemmas.List.Elements.{All-from_recursion, recursion_from_All}
use Rattle.walk_model.specs.declared.route.Answer.{Answer}
use Rattle.walk_model.specs.declared.route.Route.{Route}
use Rattle.walk_model.specs.declared.route.WrittenRoute.{WrittenRoute}
use Rattle.scene_model.specs.Answers.{AreAnswers}
use Rattle.scene_model.specs.Scene.{Scene, edge_with}
use Rattle.scene_model.specs.Valid.{IsValid}
use Rattle.scene_model.proofs.Editing.Entries.{Pairs, each_weaker, pairs_to}
use Rattle.gml_scene.specs.Origins.{AreRoutesOf}
use Rattle.nudge_phases.specs.Raw.{routed}
use Rattle.nudge_phases.proofs.Answered.{Before, IsAnswered, answered, numbers_rise}

-- the lines have the numbers of the routes, one by one
abbrev HaveNumbersOf : List (ℕ × Route) → List WrittenRoute → Type 0
HaveNumbersOf routes lines = map (λ (l : WrittenRoute). l.edge) lines ≡ map (λ (p : ℕ × Route). p.0) routes

abbrev InOrder : WrittenRoute → WrittenRoute → Type 0
InOrder q r = q.edge < r.edge

abbrev IsOfConnector : Scene → ℕ → Type 0
IsOfConnector s number = IsSomeAnd (edge_with s number) (λ e. e.from ≢ e.to)

each_line : (P : ℕ → Type 0) (routes : List (ℕ × Route)) (lines : List WrittenRoute) → HaveNumbersOf routes lines → Each (λ (p : ℕ × Route). P p.0) routes → Each (λ (l : WrittenRoute). P l.edge) lines
each_line P routes [] same each = tt
each_line P [] (l ∷ lines) same each = cc
each_line P (p ∷ routes) (l ∷ lines) same each =
    let here : p.0 ≡ l.edge = cc in
    let later : HaveNumbersOf routes lines = cc in
    (subst P here each.0, each_line P routes lines later each.1)

lines_rise : (routes : List (ℕ × Route)) (lines : List WrittenRoute) → HaveNumbersOf routes lines → Pairs Before routes → Pairs InOrder lines
lines_rise routes [] same rise = tt
lines_rise [] (l ∷ lines) same rise = cc
lines_rise (p ∷ routes) (l ∷ lines) same rise =
    let here : p.0 ≡ l.edge = cc in
    let later : HaveNumbersOf routes lines = cc in
    (subst (λ n. Each (λ (k : WrittenRoute). n < k.edge) lines) here (each_line (λ n. p.0 < n) routes lines later rise.0), lines_rise routes lines later rise.1)

of_connector : (s : Scene) (p : ℕ × Route) → IsAnswered s p.0 p.1 → IsOfConnector s p.0
of_connector s p is = subst (λ o. IsSomeAnd o (λ e. e.from ≢ e.to)) (sym is.known) is.connector.apart

pub lines_are_routes : (s : Scene) (answers : List Answer) (lines : List WrittenRoute) → IsValid s → AreAnswers s answers → HaveNumbersOf (routed answers) lines → AreRoutesOf s lines
lines_are_routes s answers lines valid right same =
    let known = recursion_from_All (λ (p : ℕ × Route). IsAnswered s p.0 p.1) (routed answers) (answered s answers valid right) in
    let connectors = each_weaker (λ (p : ℕ × Route). IsAnswered s p.0 p.1) (λ p. IsOfConnector s p.0) (of_connector s) (routed answers) known in
    record {
      rising = pairs_to InOrder lines (lines_rise (routed answers) lines same (numbers_rise s answers valid right));
      connectors = All-from_recursion (λ (l : WrittenRoute). IsOfConnector s l.edge) lines (each_line (IsOfConnector s) (routed answers) lines same connectors);
    }
