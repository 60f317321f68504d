-- The consequences of right answers for each route.
use Rattle.std.proofs.Common.{◌≡◌, ◌≢◌, ℕ, suc, zero, ◌+◌, ◌<◌, ◌≤◌, Bool, true, false, not, Option, None, Some, List, [], ◌∷◌, ◌++◌, length, take, get_or, refl, sym, ap, subst, ◌∙◌, arith, cond, true≢false, append_assoc}
use Rattle.std.specs.Prelude.{◌==◌, All, Contains, filter, find, slice_get}
use Rattle.std.specs.List.{AllZip, AllByRecursion as Each}
use Rattle.std.proofs.lemmas.Bool.Decides.{Decides-eqb, Decides-int_eq}
use Rattle.std.proofs.lemmas.List.{append-nil, take_more}
use Rattle.std.proofs.lemmas.List.Elements.{All-cons, All-nil, All-append, All-contains, All-contains_itself, All-filter, All-from_recursion, All-head, All-tail, filter_passes}
use Rattle.std.proofs.lemmas.Option.{slice_get_within, slice_get-get_or}
use Rattle.walk_model.specs.declared.route.Answer.{Answer}
use Rattle.walk_model.specs.declared.route.Route.{Route}
use Rattle.walk_model.specs.Answers.{IsAnswer}
use Rattle.walk_model.specs.Order.{IsFirst, IsRouteOf, Triple}
use Rattle.scene_model.specs.declared.edge.Edge.{Edge}
use Rattle.scene_model.specs.Answers.{AreAnswers, IsAnswerOf}
use Rattle.scene_model.specs.Scene.{Scene, connectors, edge_with, is_loop}
use Rattle.scene_model.specs.Routing.{solids, task_of}
use Rattle.scene_model.specs.Valid.{IsEdge, IsValid}
use Rattle.scene_model.proofs.Editing.Entries.{Pairs, pairs_filter, pairs_from}
use Rattle.nudge_phases.proofs.RouteRuns.{all_read, some_read}
use Rattle.nudge_phases.specs.Raw.{routed, with_number}
use Rattle.nudge_phases.proofs.Zips.{zip_count, zip_read}

-- an edge of the scene that is no loop
pub record IsConnector (s : Scene) (e : Edge) : Type 0 where
  pub known : edge_with s e.number ≡ Some e
  pub edge : IsEdge s e
  pub apart : e.from ≢ e.to
  pub has : Contains (connectors s) e

-- the route is that of a first walk of the connector with the number
pub record IsAnswered (s : Scene) (number : ℕ) (route : Route) : Type 0 where
  pub edge : Edge
  pub known : edge_with s number ≡ Some edge
  pub connector : IsConnector s edge
  pub triple : Triple
  pub first : IsFirst (solids s) (task_of s edge) triple
  pub route_of : IsRouteOf (task_of s edge) route triple

abbrev rising : Edge → Edge → Type 0
rising d e = d.number < e.number

find_at : (es : List Edge) (k : ℕ) (e : Edge) → slice_get es k ≡ Some e → Pairs rising es → find (λ x. x.number == e.number) es ≡ Some e
find_at [] k e at pairs = cc
find_at (x ∷ xs) zero e at pairs =
    let same : x ≡ e = cc in
    let yes : (x.number == e.number) ≡ true = (Decides-eqb x.number e.number).1 (ap (λ (d : Edge). d.number) same) in
    ap (λ b. cond b (Some x) (find (λ (d : Edge). d.number == e.number) xs)) yes ∙ ap Some same
find_at (x ∷ xs) (suc k) e at pairs =
    let in_xs : Contains xs e = (k, slice_get_within xs k e at, (let v = slice_get-get_or xs k e (slice_get_within xs k e at) in cc)) in
    let below = All-contains (rising x) xs e (All-from_recursion (rising x) xs pairs.0) in_xs in
    let no : (x.number == e.number) ≡ false = by (x.number == e.number) (Decides-eqb x.number e.number).0 below in
    ap (λ b. cond b (Some x) (find (λ (d : Edge). d.number == e.number) xs)) no ∙ find_at xs k e at pairs.1
  where
    by : (b : Bool) → (b ≡ true → x.number ≡ e.number) → x.number < e.number → b ≡ false
    by true same below = absurd (let n = same refl in omega (arith, n, below))
    by false same below = refl

not_loop : (e : Edge) → not (is_loop e) ≡ true → e.from ≢ e.to
not_loop e passes same = true≢false (sym passes ∙ ap not ((Decides-int_eq e.from e.to).1 same))

module _ (s : Scene) (v : IsValid s) where
  known_edge : (e : Edge) → Contains s.edges e → edge_with s e.number ≡ Some e
  known_edge e has = find_at s.edges has.0 e (slice_get-get_or s.edges has.0 e has.1 ∙ ap Some has.2) (pairs_from rising s.edges v.numbers_rise)

  pub connectors_are : All (IsConnector s) (connectors s)
  connectors_are k d h =
      let p = λ (e : Edge). not (is_loop e) in
      let e = get_or (connectors s) k d in
      let in_edges = All-filter p (Contains s.edges) s.edges (All-contains_itself s.edges) k d h in
      record {
        known = known_edge e in_edges;
        edge = All-filter p (IsEdge s) s.edges v.edges k d h;
        apart = not_loop e (filter_passes p s.edges k d h);
        has = All-contains_itself (connectors s) k d h;
      }

  pub connectors_rise : Pairs rising (connectors s)
  connectors_rise = pairs_filter rising (λ e. not (is_loop e)) s.edges (pairs_from rising s.edges v.numbers_rise)

no_longer : {X : Type 0} (p : X → Bool) (xs : List X) → length (filter p xs) ≤ length xs
no_longer p [] = omega arith
no_longer p (x ∷ xs) = let rest = no_longer p xs in by (p x) rest
  where
    by : (b : Bool) → length (filter p xs) ≤ length xs → length (cond b (x ∷ filter p xs) (filter p xs)) ≤ suc (length xs)
    by true rest = omega (arith, rest)
    by false rest = omega (arith, rest)

answered_with : (s : Scene) (e : Edge) (number : ℕ) (o : Option Route) → number ≡ e.number → IsConnector s e → IsAnswer (solids s) (task_of s e) o → All (λ (p : ℕ × Route). IsAnswered s p.0 p.1) (with_number number o)
answered_with s e number None same is answer = All-nil (λ (p : ℕ × Route). IsAnswered s p.0 p.1)
answered_with s e number (Some r) same is (t, first, route_of) =
    All-cons (λ (p : ℕ × Route). IsAnswered s p.0 p.1) (number, r) []
    (record { edge = e; known = ap (edge_with s) same ∙ is.known; connector = is; triple = t; first = first; route_of = route_of })
    (All-nil (λ (p : ℕ × Route). IsAnswered s p.0 p.1))

-- each route is answered
all_answered : (s : Scene) (es : List Edge) (answers : List Answer) → AllZip (IsAnswerOf s) es answers → All (IsConnector s) es → All (λ (p : ℕ × Route). IsAnswered s p.0 p.1) (routed answers)
all_answered s [] [] zip are = All-nil (λ (p : ℕ × Route). IsAnswered s p.0 p.1)
all_answered s [] (a ∷ answers) zip are = absurd zip
all_answered s (e ∷ es) [] zip are = absurd zip
all_answered s (e ∷ es) (a ∷ answers) zip are =
    All-append (λ (p : ℕ × Route). IsAnswered s p.0 p.1) (with_number a.edge a.route) (routed answers)
    (answered_with s e a.edge a.route zip.0.edge (All-head (IsConnector s) e es are) zip.0.route)
    (all_answered s es answers zip.1 (All-tail (IsConnector s) e es are))

-- the numbers of their edges rise
abbrev pub Before : ℕ × Route → ℕ × Route → Type 0
Before p q = p.0 < q.0

each_above : (s : Scene) (n : ℕ) (es : List Edge) (answers : List Answer) → AllZip (IsAnswerOf s) es answers → Each (λ (e : Edge). n < e.number) es → Each (λ (p : ℕ × Route). n < p.0) (routed answers)
each_above s n [] [] zip above = tt
each_above s n [] (a ∷ answers) zip above = absurd zip
each_above s n (e ∷ es) [] zip above = absurd zip
each_above s n (e ∷ es) (a ∷ answers) zip above = by a.route (each_above s n es answers zip.1 above.1)
  where
    by : (o : Option Route) → Each (λ (p : ℕ × Route). n < p.0) (routed answers) → Each (λ (p : ℕ × Route). n < p.0) (with_number a.edge o ++ routed answers)
    by None rest = rest
    by (Some r) rest = (let same = zip.0.edge in let h = above.0 in omega (arith, same, h), rest)

routed_rise : (s : Scene) (es : List Edge) (answers : List Answer) → AllZip (IsAnswerOf s) es answers → Pairs rising es → Pairs Before (routed answers)
routed_rise s [] [] zip rise = tt
routed_rise s [] (a ∷ answers) zip rise = absurd zip
routed_rise s (e ∷ es) [] zip rise = absurd zip
routed_rise s (e ∷ es) (a ∷ answers) zip rise = by a.route (routed_rise s es answers zip.1 rise.1) (each_above s e.number es answers zip.1 rise.0)
  where
    by : (o : Option Route) → Pairs Before (routed answers) → Each (λ (p : ℕ × Route). e.number < p.0) (routed answers) → Pairs Before (with_number a.edge o ++ routed answers)
    by None rest above = rest
    by (Some r) rest above = (subst (λ n. Each (λ (p : ℕ × Route). n < p.0) (routed answers)) (sym zip.0.edge) above, rest)

few_routed : (s : Scene) (es : List Edge) (answers : List Answer) → AllZip (IsAnswerOf s) es answers → length (routed answers) ≤ length es
few_routed s [] [] zip = omega arith
few_routed s [] (a ∷ answers) zip = absurd zip
few_routed s (e ∷ es) [] zip = absurd zip
few_routed s (e ∷ es) (a ∷ answers) zip = by a.route (few_routed s es answers zip.1)
  where
    by : (o : Option Route) → length (routed answers) ≤ length es → length (with_number a.edge o ++ routed answers) ≤ suc (length es)
    by None rest = omega (arith, rest)
    by (Some r) rest = omega (arith, rest)

module _ (s : Scene) (answers : List Answer) (v : IsValid s) (are : AreAnswers s answers) where
  pub answered : All (λ (p : ℕ × Route). IsAnswered s p.0 p.1) (routed answers)
  answered = all_answered s (connectors s) answers are (connectors_are s v)

  pub numbers_rise : Pairs Before (routed answers)
  numbers_rise = routed_rise s (connectors s) answers are (connectors_rise s v)

  pub few_answered : length (routed answers) ≤ 512
  few_answered = let a = few_routed s (connectors s) answers are in let b = no_longer (λ (e : Edge). not (is_loop e)) s.edges in let c = v.few_edges in omega (arith, a, b, c)

  -- an answer with a route is answered
  pub answered_at : (i : ℕ) (a : Answer) (r : Route) → slice_get answers i ≡ Some a → a.route ≡ Some r → IsAnswered s a.edge r
  answered_at i a r at is =
      let count = zip_count (IsAnswerOf s) (connectors s) answers are in
      let e = some_read (connectors s) i (let h = slice_get_within answers i a at in omega (arith, h, count)) in
      let of = zip_read (IsAnswerOf s) (connectors s) answers i e.0 a are e.1 at in
      let connector = all_read (IsConnector s) (connectors s) i e.0 (connectors_are s v) e.1 in
      let answer = subst (IsAnswer (solids s) (task_of s e.0)) is of.route in
      record { edge = e.0; known = ap (edge_with s) of.edge ∙ connector.known; connector = connector; triple = answer.0; first = answer.1; route_of = answer.2 }

-- the routes so far, with those of one more answer
routed-append : (xs ys : List Answer) → routed (xs ++ ys) ≡ routed xs ++ routed ys
routed-append [] ys = refl
routed-append (a ∷ xs) ys = ap (λ rs. with_number a.edge a.route ++ rs) (routed-append xs ys) ∙ sym (append_assoc (with_number a.edge a.route) (routed xs) (routed ys))

pub routed_more : (answers : List Answer) (i : ℕ) (a : Answer) → i < length answers → a ≡ get_or answers i a → routed (take (i + 1) answers) ≡ routed (take i answers) ++ with_number a.edge a.route
routed_more answers i a h is =
    ap routed (take_more answers i a h ∙ ap (λ q. take i answers ++ q ∷ []) (sym is)) ∙ routed-append (take i answers) (a ∷ []) ∙ ap (λ rs. routed (take i answers) ++ rs) (append-nil (with_number a.edge a.route))
