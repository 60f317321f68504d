-- The tasks of connectors may be searched, and what is found are their right answers.
use Rattle.std.proofs.Common.{◌≡◌, ℕ, suc, eqb, length, Option, Some, None, List, [], ◌∷◌, map, refl, sym, ap, subst, ◌∙◌}
use Rattle.std.specs.Prelude.{All, IsSomeAnd, IfSome, IfOk, OnOk, Result, Ok, Err}
use Rattle.std.specs.List.{AllByRecursion as Each, AllZip}
use Rattle.std.proofs.lemmas.Bool.Decides.{Decides-eqb}
use Rattle.std.proofs.lemmas.List.Elements.{All-from_recursion, recursion_from_All}
use Rattle.plane_geom.specs.declared.floor.Floor.{Floor}
use Rattle.line_arena.specs.Arena.{Arena}
use Rattle.line_arena.specs.Stands.{StandsFor}
use Rattle.walk_model.specs.declared.task.Task.{Task}
use Rattle.walk_model.specs.declared.route.Answer.{Answer}
use Rattle.walk_model.specs.Answers.{IsAnswer}
use Rattle.walk_model.specs.Floors.{IsFloorOf}
use Rattle.walk_model.specs.Legal.{IsTask}
use Rattle.plane_geom.specs.Floor.{IsFloor}
use Rattle.par_route.specs.Routes.{MayBeSearched}
use Rattle.scene_model.specs.declared.edge.Edge.{Edge}
use Rattle.scene_model.specs.Scene.{Scene, connectors, edge_with}
use Rattle.scene_model.specs.Valid.{IsValid}
use Rattle.scene_model.specs.Routing.{floor_of, solids, task_of}
use Rattle.scene_model.specs.Answers.{AreAnswers, IsAnswerOf}
use Rattle.scene_model.proofs.Editing.Entries.{key_found}
use Rattle.scene_model.proofs.Editing.Edges.{number_of}
use Rattle.scene_model.proofs.ForRouting.Floors.{floors_fit, floors_hold_tasks}
use Rattle.scene_store.proofs.Tasks as tasks
use Rattle.route_book.specs.Search.{IsConnector, IsTaskWith, IsAnswerWith}
use Rattle.route_book.proofs.Answering.Connectors.{IsConnecting, connecting}

-- what there is, and what is known of it
pub some_and : {X : Type 0} (o : Option X) (P : X → Type 0) → IsSomeAnd o P → (x : X) × (o ≡ Some x) × P x
some_and None P h = absurd h
some_and (Some x) P h = (x, refl, h)

pub at_some : {X : Type 0} (o : Option X) (P : X → Type 0) (x : X) → o ≡ Some x → IsSomeAnd o P → P x
at_some o P x is h = subst (λ z. IsSomeAnd z P) is h

-- what may be there is, where something is there
pub there_then : {X : Type 0} (o : Option X) (P Q : X → Type 0) → IsSomeAnd o P → IfSome o Q → IsSomeAnd o Q
there_then None P Q h k = absurd h
there_then (Some x) P Q h k = k

pub zip_length : {X Y : Type 0} (R : X → Y → Type 0) (xs : List X) (ys : List Y) → AllZip R xs ys → length ys ≡ length xs
zip_length R [] [] z = refl
zip_length R [] (y ∷ ys) z = absurd z
zip_length R (x ∷ xs) [] z = absurd z
zip_length R (x ∷ xs) (y ∷ ys) z = ap suc (zip_length R xs ys z.1)

pub on_ok : {X E : Type 0} (r : Result X E) (P : Type 0) → P → OnOk r P
on_ok (Ok x) P p = p
on_ok (Err e) P p = tt

pub both_ok : {X E : Type 0} (r : Result X E) (P Q R : X → Type 0) → ((x : X) → P x → Q x → R x) → IfOk r P → IfOk r Q → IfOk r R
both_ok (Ok x) P Q R f p q = f x p q
both_ok (Err e) P Q R f p q = tt

may_be_searched : (s : Scene) (floor : Floor) (arena : Arena) (n : ℕ) (task : Task) → IsValid s → floor ≡ floor_of s → StandsFor floor arena → IsConnector s n → IsTaskWith s n task → MayBeSearched arena floor.solids task
may_be_searched s floor arena n task v is stands connector has =
    let edge = some_and (edge_with s n) (λ e. e.from ≡ e.to → ⊥) connector in
    let same : task ≡ task_of s edge.0 = at_some (edge_with s n) (λ e. task ≡ task_of s e) edge.0 edge.1 has in
    let holds = floors_hold_tasks s edge.0 v (tasks.is_connector s n edge.0 edge.1 edge.2) in (
      floor,
      record {
        same_solids = refl;
        stands = stands;
        is_floor = subst IsFloor (sym is) (floors_fit s v);
        is_task = subst IsTask (sym same) holds.task.is_task;
        is_floor_of = subst (λ f. IsFloorOf f task) (sym is) (subst (IsFloorOf (floor_of s)) (sym same) holds.floor);
      },
    )

each_may : (s : Scene) (floor : Floor) (arena : Arena) → IsValid s → floor ≡ floor_of s → StandsFor floor arena
    → (numbers : List ℕ) (ts : List Task) → Each (IsConnector s) numbers → AllZip (IsTaskWith s) numbers ts → Each (MayBeSearched arena floor.solids) ts
each_may s floor arena v is stands [] [] c z = tt
each_may s floor arena v is stands [] (t ∷ ts) c z = absurd z
each_may s floor arena v is stands (n ∷ ns) [] c z = absurd z
each_may s floor arena v is stands (n ∷ ns) (t ∷ ts) c z = (may_be_searched s floor arena n t v is stands c.0 z.0, each_may s floor arena v is stands ns ts c.1 z.1)

-- the tasks of connectors may be searched on a graph of the scene
pub all_may : (s : Scene) (floor : Floor) (arena : Arena) (numbers : List ℕ) (ts : List Task) → IsValid s → floor ≡ floor_of s → StandsFor floor arena
    → All (IsConnector s) numbers → AllZip (IsTaskWith s) numbers ts → All (MayBeSearched arena floor.solids) ts
all_may s floor arena numbers ts v is stands c z =
    All-from_recursion (MayBeSearched arena floor.solids) ts (each_may s floor arena v is stands numbers ts (recursion_from_All (IsConnector s) numbers c) z)

one_answered : (s : Scene) (n : ℕ) (t : Task) (a : Answer) → IsTaskWith s n t → IsAnswer (solids s) t a.route → a.edge ≡ n → IsAnswerWith s n a
one_answered s n t a has right own =
    let edge = some_and (edge_with s n) (λ e. t ≡ task_of s e) has in
    subst (λ o. IsSomeAnd o (λ e. IsAnswerOf s e a)) (sym edge.1)
    (record { edge = own ∙ sym (key_found number_of eqb Decides-eqb n s.edges edge.0 edge.1); route = subst (λ z. IsAnswer (solids s) z a.route) edge.2 right })

-- routes that are right for the tasks of connectors, under their numbers, are right answers of the connectors
pub answered : (s : Scene) (numbers : List ℕ) (ts : List Task) (answers : List Answer) → AllZip (IsTaskWith s) numbers ts → AllZip (IsAnswer (solids s)) ts (map (λ a. a.route) answers)
    → map (λ a. a.edge) answers ≡ numbers → AllZip (IsAnswerWith s) numbers answers
answered s [] [] [] t r own = tt
answered s [] [] (a ∷ answers) t r own = absurd r
answered s [] (t ∷ ts) answers z r own = absurd z
answered s (n ∷ ns) [] answers z r own = absurd z
answered s (n ∷ ns) (t ∷ ts) [] z r own = absurd r
answered s (n ∷ ns) (t ∷ ts) (a ∷ answers) z r own =
    let first : a.edge ≡ n = cc in
    let rest : map (λ (x : Answer). x.edge) answers ≡ ns = cc in
    (one_answered s n t a z.0 r.0 first, answered s ns ts answers z.1 r.1 rest)

-- and those of all connectors are the right answers of the scene
all_answered : (s : Scene) (es : List Edge) (answers : List Answer) → Each (IsConnecting s) es → AllZip (IsAnswerWith s) (map number_of es) answers → AllZip (IsAnswerOf s) es answers
all_answered s [] [] c z = tt
all_answered s [] (a ∷ answers) c z = absurd z
all_answered s (e ∷ es) [] c z = absurd z
all_answered s (e ∷ es) (a ∷ answers) c z = (at_some (edge_with s e.number) (λ d. IsAnswerOf s d a) e c.0.known z.0, all_answered s es answers c.1 z.1)

-- so are the answers that are found under the numbers of all connectors
pub all_right : (s : Scene) (numbers those : List ℕ) (answers : List Answer) → IsValid s → those ≡ numbers → numbers ≡ map number_of (connectors s) → AllZip (IsAnswerWith s) those answers → AreAnswers s answers
all_right s numbers those answers v same all found =
    all_answered s (connectors s) answers (connecting s v) (subst (λ (ns : List ℕ). AllZip (IsAnswerWith s) ns answers) (same ∙ all) found)
