-- The connectors of a valid scene by their numbers, and those of them that are picked.
use Rattle.std.proofs.Common.{◌≡◌, ◌≢◌, ◌⊎◌, inl, inr, ℕ, ◌+◌, ◌<◌, Bool, true, false, cond, eqb, not, Some, List, [], ◌∷◌, ◌++◌, map, take, get_or, refl, sym, ap, subst, ◌∙◌, arith, int_eq, true≢false}
use Rattle.std.specs.Prelude.{ℤ, All, Contains, IsSomeAnd, filter, slice_get}
use Rattle.std.proofs.lemmas.Option.{slice_get_within, get_or_from_slice_get}
use Rattle.std.proofs.lemmas.List.{append-nil}
use Rattle.std.specs.List.{AllByRecursion as Each}
use Rattle.std.proofs.lemmas.Bool.Decides.{Decides-eqb, Decides-int_eq}
use Rattle.std.proofs.lemmas.List.Elements.{All-from_recursion, recursion_from_All, Contains-append_right, filter_more, filter_passes}
use Rattle.scene_model.specs.declared.edge.Edge.{Edge}
use Rattle.scene_model.specs.Scene.{Scene, edge_with, connectors, is_loop}
use Rattle.scene_model.specs.Valid.{IsValid}
use Rattle.scene_model.specs.Stale.{ArePicked}
use Rattle.scene_model.proofs.Editing.Entries.{Pairs, pairs_from, pairs_to, pairs_filter, each_both, each_filter, each_weaker}
use Rattle.scene_model.proofs.Editing.Edges.{number_of, numbers_differ}
use Rattle.route_book.specs.Search.{AreRising, IsConnector}
use Rattle.route_book.proofs.Answering.Found.{each_found}

-- the edge is found by its number, and is no loop
pub record IsConnecting (s : Scene) (e : Edge) : Type 0 where
  pub known : edge_with s e.number ≡ Some e
  pub apart : e.from ≢ e.to

apart_by : (a b : ℤ) → not (int_eq a b) ≡ true → a ≢ b
apart_by a b h e = true≢false (sym h ∙ ap not ((Decides-int_eq a b).1 e))

pub connecting : (s : Scene) → IsValid s → Each (IsConnecting s) (connectors s)
connecting s v =
    each_weaker (λ e. (edge_with s e.number ≡ Some e) × (not (is_loop e) ≡ true)) (IsConnecting s) (λ e h. record { known = h.0; apart = apart_by e.from e.to h.1 }) (connectors s)
    (each_both (λ e. edge_with s e.number ≡ Some e) (λ e. not (is_loop e) ≡ true) (connectors s)
    (each_filter (λ e. edge_with s e.number ≡ Some e) (λ e. not (is_loop e)) s.edges (each_found number_of eqb Decides-eqb s.edges (numbers_differ s v)))
    (recursion_from_All (λ e. not (is_loop e) ≡ true) (connectors s) (filter_passes (λ e. not (is_loop e)) s.edges)))

pub is_connector : (s : Scene) (e : Edge) → IsConnecting s e → IsConnector s e.number
is_connector s e h = subst (λ o. IsSomeAnd o (λ d. d.from ≢ d.to)) (sym h.known) h.apart

each_number : (P : ℕ → Type 0) (es : List Edge) → Each (λ e. P e.number) es → Each P (map number_of es)
each_number P [] h = tt
each_number P (e ∷ es) h = (h.0, each_number P es h.1)

rising_by : (es : List Edge) → Pairs (λ d e. d.number < e.number) es → Pairs (λ m n. m < n) (map number_of es)
rising_by [] h = tt
rising_by (e ∷ es) h = (each_number (λ m. e.number < m) es h.0, rising_by es h.1)

rising_edges : (s : Scene) → IsValid s → Pairs (λ d e. d.number < e.number) (connectors s)
rising_edges s v = pairs_filter (λ d e. d.number < e.number) (λ e. not (is_loop e)) s.edges (pairs_from (λ d e. d.number < e.number) s.edges v.numbers_rise)

-- the numbers of all connectors
pub all_rising : (s : Scene) → IsValid s → AreRising (map number_of (connectors s))
all_rising s v = pairs_to (λ m n. m < n) (map number_of (connectors s)) (rising_by (connectors s) (rising_edges s v))

pub all_connectors : (s : Scene) → IsValid s → All (IsConnector s) (map number_of (connectors s))
all_connectors s v =
    All-from_recursion (IsConnector s) (map number_of (connectors s))
    (each_number (IsConnector s) (connectors s) (each_weaker (IsConnecting s) (λ e. IsConnector s e.number) (is_connector s) (connectors s) (connecting s v)))

not_eq : (a b : ℤ) (t : Bool) → int_eq a b ≡ t → a ≢ b → not t ≡ true
not_eq a b true e n = absurd (n ((Decides-int_eq a b).0 e))
not_eq a b false e n = refl

next_edge : (es : List Edge) (i : ℕ) (e : Edge) (t : Bool) → slice_get es i ≡ Some e → not (is_loop e) ≡ t
    → filter (λ d. not (is_loop d)) (take (i + 1) es) ≡ filter (λ d. not (is_loop d)) (take i es) ++ cond t (e ∷ []) []
next_edge es i e t at h =
    let same : get_or es i e ≡ e = get_or_from_slice_get es i e e at in
    filter_more (λ d. not (is_loop d)) es i e (slice_get_within es i e at)
    ∙ ap (λ d. filter (λ x. not (is_loop x)) (take i es) ++ cond (not (is_loop d)) (d ∷ []) []) same
    ∙ ap (λ b. filter (λ x. not (is_loop x)) (take i es) ++ cond b (e ∷ []) []) h

-- one edge more, which is a connector, or a loop
pub next_connector : (es : List Edge) (i : ℕ) (e : Edge) → slice_get es i ≡ Some e → e.from ≢ e.to → filter (λ d. not (is_loop d)) (take (i + 1) es) ≡ filter (λ d. not (is_loop d)) (take i es) ++ e ∷ []
next_connector es i e at apart = next_edge es i e true at (not_eq e.from e.to (is_loop e) refl apart)

pub next_loop : (es : List Edge) (i : ℕ) (e : Edge) → slice_get es i ≡ Some e → e.from ≡ e.to → filter (λ d. not (is_loop d)) (take (i + 1) es) ≡ filter (λ d. not (is_loop d)) (take i es)
next_loop es i e at same = next_edge es i e false at (ap not ((Decides-int_eq e.from e.to).1 same)) ∙ append-nil (filter (λ d. not (is_loop d)) (take i es))

module _ (P Q : Edge → Type 0) where
  -- what holds of the numbers of all holds of those that are picked
  each_picked : (R : ℕ → Type 0) (es : List Edge) (numbers : List ℕ) → ArePicked P Q es numbers → Each (λ e. R e.number) es → Each R numbers
  each_picked R [] numbers h e = subst (Each R) (sym h) tt
  each_picked R (x ∷ es) numbers (inl h) e = subst (Each R) (sym h.1.2) (e.0, each_picked R es h.1.0 h.1.1 e.1)
  each_picked R (x ∷ es) numbers (inr h) e = each_picked R es numbers h.1 e.1

  pairs_picked : (es : List Edge) (numbers : List ℕ) → ArePicked P Q es numbers → Pairs (λ d e. d.number < e.number) es → Pairs (λ m n. m < n) numbers
  pairs_picked [] numbers h p = subst (Pairs (λ m n. m < n)) (sym h) tt
  pairs_picked (x ∷ es) numbers (inl h) p = subst (Pairs (λ m n. m < n)) (sym h.1.2) (each_picked (λ m. x.number < m) es h.1.0 h.1.1 p.0, pairs_picked es h.1.0 h.1.1 p.1)
  pairs_picked (x ∷ es) numbers (inr h) p = pairs_picked es numbers h.1 p.1

  -- an edge is picked, or the other fact holds of it
  abbrev pub IsPickedOr : List ℕ → Edge → Type 0
  IsPickedOr numbers e = Contains numbers e.number ⊎ Q e

  one_more : (n : ℕ) (numbers : List ℕ) (e : Edge) → IsPickedOr numbers e → IsPickedOr (n ∷ numbers) e
  one_more n numbers e (inl has) = inl (Contains-append_right (n ∷ []) numbers e.number has)
  one_more n numbers e (inr q) = inr q

  pub picked_or : (es : List Edge) (numbers : List ℕ) → ArePicked P Q es numbers → Each (IsPickedOr numbers) es
  picked_or [] numbers h = tt
  picked_or (x ∷ es) numbers (inl h) =
      subst (λ ns. Each (IsPickedOr ns) (x ∷ es)) (sym h.1.2)
      (inl (0, omega arith, refl), each_weaker (IsPickedOr h.1.0) (IsPickedOr (x.number ∷ h.1.0)) (one_more x.number h.1.0) es (picked_or es h.1.0 h.1.1))
  picked_or (x ∷ es) numbers (inr h) = (inr h.0, picked_or es numbers h.1)

  -- the numbers of connectors that are picked
  pub picked_rising : (s : Scene) (numbers : List ℕ) → IsValid s → ArePicked P Q (connectors s) numbers → AreRising numbers
  picked_rising s numbers v h = pairs_to (λ m n. m < n) numbers (pairs_picked (connectors s) numbers h (rising_edges s v))

  pub picked_connectors : (s : Scene) (numbers : List ℕ) → IsValid s → ArePicked P Q (connectors s) numbers → All (IsConnector s) numbers
  picked_connectors s numbers v h =
      All-from_recursion (IsConnector s) numbers
      (each_picked (IsConnector s) (connectors s) numbers h (each_weaker (IsConnecting s) (λ e. IsConnector s e.number) (is_connector s) (connectors s) (connecting s v)))

  -- one edge more is picked, or the other fact holds of it
  pub pick_more : (es : List Edge) (numbers : List ℕ) (e : Edge) → ArePicked P Q es numbers → P e → ArePicked P Q (es ++ e ∷ []) (numbers ++ e.number ∷ [])
  pick_more [] numbers e h p = inl (p, ([], refl, ap (λ (l : List ℕ). l ++ e.number ∷ []) h))
  pick_more (x ∷ es) numbers e (inl h) p = inl (h.0, (h.1.0 ++ e.number ∷ [], pick_more es h.1.0 e h.1.1 p, ap (λ (l : List ℕ). l ++ e.number ∷ []) h.1.2))
  pick_more (x ∷ es) numbers e (inr h) p = inr (h.0, pick_more es numbers e h.1 p)

  pub pass_more : (es : List Edge) (numbers : List ℕ) (e : Edge) → ArePicked P Q es numbers → Q e → ArePicked P Q (es ++ e ∷ []) numbers
  pass_more [] numbers e h q = inr (q, h)
  pass_more (x ∷ es) numbers e (inl h) q = inl (h.0, (h.1.0, pass_more es h.1.0 e h.1.1 q, h.1.2))
  pass_more (x ∷ es) numbers e (inr h) q = inr (h.0, pass_more es numbers e h.1 q)
