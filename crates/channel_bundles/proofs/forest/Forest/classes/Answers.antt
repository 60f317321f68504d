-- Each number goes to the list of its tree.
use Rattle.std.proofs.Common.{◌≡◌, ◌<◌, ℕ, ◌+◌, List, [], ◌∷◌, ◌++◌, map, length, get_or, set, refl, sym, ap, subst, ◌∙◌, arith, Vec}
use Rattle.std.specs.Prelude.{All}
use Rattle.std.proofs.lemmas.List.{get_or-map, length-map, map-set, length-set}
use Rattle.std.proofs.lemmas.List.Elements.{All-get_or}
use Rattle.separation_model.specs.Arena.{Arena}
use Rattle.channel_bundles.specs.Classes.{AreTreeNumbers, AreClasses, Connected, LeadsUp}
use Rattle.channel_bundles.specs.declared.forest.Seat.{Seat}
use Rattle.channel_bundles.specs.Shares.{AreSeats}
use Rattle.channel_bundles.proofs.Listing.{IsListing, listed_all, listed_more, listed_none, seated_more, seated_none}
use Rattle.channel_bundles.proofs.forest.Forest.classes.Goals as goal

abbrev Lists : Type 0
Lists = List (Vec ℕ Arena)

abbrev items_of : Lists → List (List ℕ)
items_of lists = map (λ list. list.items) lists

no_items : (lists : Lists) (d : Vec ℕ Arena) → All (λ list. list.items ≡ []) lists → (m : ℕ) → m < length (items_of lists) → length (get_or (items_of lists) m []) ≡ 0
no_items lists d empty m h =
    let in_m : m < length lists = omega (arith, h, length-map {B = List ℕ} lists (λ list. list.items)) in
    ap length (get_or-map (λ (list : Vec ℕ Arena). list.items) lists m d [] in_m ∙ All-get_or (λ (list : Vec ℕ Arena). list.items ≡ []) lists m d in_m empty)

-- the numbers before i have their places in the lists
record IsSeated (numbers : List ℕ) (i : ℕ) (lists : Lists) (seats : List Seat) : Type 0 where
  listed : IsListing numbers i (items_of lists)
  seated : AreSeats i (items_of lists) seats

more : (numbers : List ℕ) (i place : ℕ) (lists : Lists) (seats made : List Seat) (was new : Vec ℕ Arena) → IsListing numbers i (items_of lists) → AreSeats i (items_of lists) seats → get_or numbers i 0 < length lists → was ≡ get_or lists (get_or numbers i 0) was →
    place ≡ length was.items → made ≡ seats ++ record { class = get_or numbers i 0; place = place } ∷ [] → new.items ≡ was.items ++ i ∷ [] → IsSeated numbers (i + 1) (set lists (get_or numbers i 0) new) made
more numbers i place lists seats made was new is are in_tree read is_place is_made pushed =
    let tree = get_or numbers i 0 in
    let count = length-map {B = List ℕ} lists (λ list. list.items) in
    let own : get_or (items_of lists) tree [] ≡ was.items = get_or-map (λ (list : Vec ℕ Arena). list.items) lists tree was [] in_tree ∙ ap (λ list. list.items) (sym read) in
    let added : new.items ≡ get_or (items_of lists) tree [] ++ i ∷ [] = pushed ∙ ap (λ xs. xs ++ i ∷ []) (sym own) in
    let same : items_of (set lists tree new) ≡ set (items_of lists) tree (get_or (items_of lists) tree [] ++ i ∷ []) = map-set (λ (list : Vec ℕ Arena). list.items) lists tree new ∙ ap (λ xs. set (items_of lists) tree xs) added in
    record {
      listed = subst (IsListing numbers (i + 1)) (sym same) (listed_more numbers i tree (items_of lists) is refl (omega (arith, in_tree, count)));
      seated = subst (λ xs. AreSeats (i + 1) xs made) (sym same) (subst (AreSeats (i + 1) (set (items_of lists) tree (get_or (items_of lists) tree [] ++ i ∷ []))) (sym is_made)
          (seated_more numbers i tree place (items_of lists) seats is are (omega (arith, in_tree, count)) (is_place ∙ ap length (sym own))));
    }

all : (above roots numbers : List ℕ) (i : ℕ) (lists : Lists) → AreTreeNumbers above (length above) roots numbers → i ≡ length above → length lists ≡ length roots → IsListing numbers i (items_of lists) →
    AreClasses (Connected (LeadsUp above)) (length above) (items_of lists)
all above roots numbers i lists are whole count is =
    listed_all above roots numbers (items_of lists) are (length-map {B = List ℕ} lists (λ list. list.items) ∙ count) (subst (λ n. IsListing numbers n (items_of lists)) whole is)

pub loop-number-init : goal.loop-number-init
loop-number-init c =
    let empty = no_items c.in_ok-lists.lists.items c.in_ok-trees.trees.roots c.in_ok-lists.ensures.empty in
    (refl, listed_none c.deref-tree-items.result.now (items_of c.in_ok-lists.lists.items) empty, seated_none (items_of c.in_ok-lists.lists.items) c.in_ok-seats.seats.items c.in_ok-seats.ensures.items empty)

pub loop-number-preserved : goal.loop-number-preserved
loop-number-preserved c =
    let numbers = c.deref-tree-items.result.now in
    let above = c.args.self.now.above.items in
    let roots = c.in_ok-trees.trees.roots in
    let are = subst (λ xs. AreTreeNumbers above (length above) roots.items xs) (sym c.deref-tree-items.ensures.value) c.in_ok-trees.ensures in
    let at = c.loop-number.number in
    let is = c.loop-number.invariant in
    let was = c.index_mut-list.result.now in
    let in_at : at < length above = omega (arith, c.loop-number-test.true, are.all) in
    let in_tree : get_or numbers at 0 < length c.loop-number.lists.items =
    omega (arith, are.within at in_at, is.0, c.in_ok-lists.ensures.count, c.len.ensures, roots.ok.0) in
    let place : c.len-in-loop-number.result ≡ length was.items = omega (arith, c.len-in-loop-number.ensures, was.ok.0) in
    let both = more numbers at c.len-in-loop-number.result c.loop-number.lists.items c.loop-number.seats.items c.push.new.self.items was c.push-in-loop-number.new.self is.1 is.2 in_tree c.index_mut-list.ensures.value
    place c.in_ok-push.ensures.items c.in_ok-push-2.ensures.items in
    (length-set _ _ _ ∙ is.0, both.listed, both.seated)

pub returns : goal.returns
returns c =
    let numbers = c.deref-tree-items.result.now in
    let above = c.args.self.now.above.items in
    let roots = c.in_ok-trees.trees.roots in
    let are = subst (λ xs. AreTreeNumbers above (length above) roots.items xs) (sym c.deref-tree-items.ensures.value) c.in_ok-trees.ensures in
    let whole : c.loop-number.number ≡ length above = omega (arith, are.all, c.loop-number-test.false, c.loop-number.auto.number-end) in
    record {
      classes = all above roots.items numbers c.loop-number.number c.loop-number.lists.items are whole
          (omega (arith, c.loop-number.invariant.0, c.in_ok-lists.ensures.count, c.len.ensures, roots.ok.0)) c.loop-number.invariant.1;
      seats = subst (λ n. AreSeats n (items_of c.loop-number.lists.items) c.loop-number.seats.items) whole c.loop-number.invariant.2;
    }
