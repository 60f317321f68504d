-- What was found for stale connectors and what is kept for the others are the right answers of the new scene.
use Rattle.std.proofs.Common.{◌≡◌, inl, inr, ℕ, zero, suc, ◌<◌, Bool, true, false, eqb, cond, Option, Some, None, List, [], ◌∷◌, map, refl, sym, ap, subst, ◌∙◌, arith, true≢false, le_of_suc-le-suc, is_some}
use Rattle.std.specs.Prelude.{All, Contains, IsSome, ◌==◌}
use Rattle.std.specs.Option.{option_or}
use Rattle.std.specs.List.{AllByRecursion as Each, AllZip}
use Rattle.std.proofs.lemmas.Option.{none-some, same_Some}
use Rattle.std.proofs.lemmas.Bool.Decides.{Decides-eqb}
use Rattle.std.proofs.lemmas.List.Elements.{All-from_recursion}
use Rattle.walk_model.specs.declared.route.Answer.{Answer}
use Rattle.scene_model.specs.declared.edge.Edge.{Edge}
use Rattle.scene_model.specs.Scene.{Scene, edge_with, connectors}
use Rattle.scene_model.specs.Valid.{IsValid}
use Rattle.scene_model.specs.Answers.{IsAnswerOf, AreAnswers}
use Rattle.scene_model.specs.Stale.{IsStale, IsCurrent, AreStale, answer_of}
use Rattle.scene_model.proofs.Editing.Entries.{found_cases, key_found, each_both}
use Rattle.scene_model.proofs.Editing.Edges.{number_of}
use Rattle.route_book.specs.Search.{IsAnswerWith, newer}
use Rattle.route_book.proofs.Answering.Connectors.{IsConnecting, IsPickedOr, connecting, picked_or}
use Rattle.route_book.proofs.Staying.Reuse.{answers_stay}
use Rattle.route_book.proofs.Answering.Searched.{some_and, at_some}

-- a right answer of the connector with the number is of that number
own_number : (s : Scene) (n : ℕ) (a : Answer) → IsAnswerWith s n a → a.edge ≡ n
own_number s n a h = let e = some_and (edge_with s n) (λ e. IsAnswerOf s e a) h in e.2.edge ∙ key_found number_of eqb Decides-eqb n s.edges e.0 e.1

-- what is found by a number is right for it
found_right : (s : Scene) (k : ℕ) (a : Answer) (ns : List ℕ) (xs : List Answer) → AllZip (IsAnswerWith s) ns xs → answer_of xs k ≡ Some a → IsAnswerWith s k a
found_right s k a [] [] z found = absurd (none-some a found)
found_right s k a [] (x ∷ xs) z found = absurd z
found_right s k a (n ∷ ns) [] z found = absurd z
found_right s k a (n ∷ ns) (x ∷ xs) z found = elim (found_cases (x.edge == k) x a (answer_of xs k) found) as (λ _. IsAnswerWith s k a) [
  | inl c ↦ subst (λ m. IsAnswerWith s m a) (sym (own_number s n x z.0) ∙ (Decides-eqb x.edge k).0 c.0) (subst (IsAnswerWith s n) c.1 z.0)
  | inr c ↦ found_right s k a ns xs z.1 c.1
]

first_some : (b : Bool) (x : Answer) (o : Option Answer) → b ≡ true → IsSome (cond b (Some x) o)
first_some b x o h = subst (λ c. IsSome (cond c (Some x) o)) (sym h) refl

later_some : (b : Bool) (x : Answer) (o : Option Answer) → IsSome o → IsSome (cond b (Some x) o)
later_some true x o h = refl
later_some false x o h = h

-- for each of the numbers something is found
found_some : (s : Scene) (k : ℕ) (ns : List ℕ) (xs : List Answer) → AllZip (IsAnswerWith s) ns xs → Contains ns k → IsSome (answer_of xs k)
found_some s k [] xs z (i, l, at) = let within : i < 0 = l in absurd (omega (arith, within))
found_some s k (n ∷ ns) [] z has = absurd z
found_some s k (n ∷ ns) (x ∷ xs) z (zero, l, at) = first_some (x.edge == k) x (answer_of xs k) ((Decides-eqb x.edge k).1 (own_number s n x z.0 ∙ at))
found_some s k (n ∷ ns) (x ∷ xs) z (suc i, l, at) = later_some (x.edge == k) x (answer_of xs k) (found_some s k ns xs z.1 (i, le_of_suc-le-suc l, at))

or_first : (o p : Option Answer) → IsSome o → IsSome (option_or o p)
or_first None p h = absurd (true≢false (sym h))
or_first (Some a) p h = refl

or_second : (o p : Option Answer) (a : Answer) → p ≡ Some a → IsSome (option_or o p)
or_second None p a h = ap is_some h
or_second (Some b) p a h = refl

module _ (old new : Scene) (kept found : List Answer) (numbers : List ℕ) (z : AllZip (IsAnswerWith new) numbers found) where
  abbrev Picked : Edge → Type 0
  Picked e = IsPickedOr (IsStale old kept new) (IsCurrent old kept new) numbers e

  known_one : (e : Edge) → Picked e → IsSome (newer found kept e.number)
  known_one e (inl has) = or_first (answer_of found e.number) (answer_of kept e.number) (found_some new e.number numbers found z has)
  known_one e (inr c) = or_second (answer_of found e.number) (answer_of kept e.number) c.answer c.is_answer

  each_known : (es : List Edge) → Each Picked es → Each (λ n. IsSome (newer found kept n)) (map number_of es)
  each_known [] h = tt
  each_known (e ∷ es) h = (known_one e h.0, each_known es h.1)

  -- there is an answer for each connector
  pub all_known : AreStale old kept new numbers → All (λ n. IsSome (newer found kept n)) (map number_of (connectors new))
  all_known stale = All-from_recursion (λ n. IsSome (newer found kept n)) (map number_of (connectors new)) (each_known (connectors new) (picked_or (IsStale old kept new) (IsCurrent old kept new) (connectors new) numbers stale))

  newer_by : IsValid old → IsValid new → AreAnswers old kept → (e : Edge) (a : Answer) (o : Option Answer) → edge_with new e.number ≡ Some e → Picked e → answer_of found e.number ≡ o → option_or o (answer_of kept e.number) ≡ Some a → IsAnswerOf new e a
  newer_by v w right e a (Some b) known picked at is =
      at_some (edge_with new e.number) (λ d. IsAnswerOf new d a) e known (found_right new e.number a numbers found z (at ∙ is))
  newer_by v w right e a None known (inl has) at is = absurd (true≢false (sym (found_some new e.number numbers found z has) ∙ ap is_some at))
  newer_by v w right e a None known (inr c) at is = subst (IsAnswerOf new e) (same_Some c.answer a (sym c.is_answer ∙ is)) (answers_stay old new kept e v w right c)

  right_by : IsValid old → IsValid new → AreAnswers old kept → (es : List Edge) (merged : List Answer) → Each (λ e. IsConnecting new e × Picked e) es
      → AllZip (λ n a. newer found kept n ≡ Some a) (map number_of es) merged → AllZip (IsAnswerOf new) es merged
  right_by v w right [] [] h m = tt
  right_by v w right [] (a ∷ merged) h m = absurd m
  right_by v w right (e ∷ es) [] h m = absurd m
  right_by v w right (e ∷ es) (a ∷ merged) h m =
      (newer_by v w right e a (answer_of found e.number) h.0.0.known h.0.1 refl m.0, right_by v w right es merged h.1 m.1)

  -- and these answers are right
  pub merged_right : IsValid old → IsValid new → AreAnswers old kept → AreStale old kept new numbers → (merged : List Answer)
      → AllZip (λ n a. newer found kept n ≡ Some a) (map number_of (connectors new)) merged → AreAnswers new merged
  merged_right v w right stale merged m =
      right_by v w right (connectors new) merged
      (each_both (IsConnecting new) Picked (connectors new) (connecting new w) (picked_or (IsStale old kept new) (IsCurrent old kept new) (connectors new) numbers stale)) m
