-- Few rules of all runs, shared out among their classes, are few rules of each.
use Rattle.std.proofs.Common.{◌≡◌, ℕ, suc, zero, ◌+◌, ◌<◌, ◌≤◌, ℤ, Bool, true, false, Option, Some, None, List, [], ◌∷◌, ◌++◌, map, length, get_or, set, take, append_assoc, append-nil, cond, inl, inr, refl, sym, ap, subst, ◌∙◌, arith, true≢false}
use Rattle.std.specs.Prelude.{All, AllPairs, Contains, IsSome, filter}
use Rattle.std.proofs.lemmas.Bool.Decides.{Decides-eqb}
use Rattle.std.proofs.lemmas.List.{get_or-map, get_or-set_other, get_or-set_same, get_or_default, get_or_read, length-map, length-set, map-append}
use Rattle.std.proofs.lemmas.List.Elements.{All-contains, All-filter, All-map, Contains-get_or, filter_more, filter_passes}
use Rattle.std.proofs.lemmas.List.Kept.{AllPairs-filter}
use Rattle.separation_model.specs.declared.bundle.Rule.{Rule}
use Rattle.channel_bundles.specs.declared.channel.Listing.{Listing}
use Rattle.channel_bundles.specs.declared.channel.RunBundle.{RunBundle}
use Rattle.channel_bundles.specs.declared.forest.Seat.{Seat}
use Rattle.channel_bundles.specs.declared.member.Member.{Member}
use Rattle.channel_bundles.specs.Bundles.{members_at}
use Rattle.channel_bundles.specs.Classes.{AreClasses, Connected, FollowsLinks, HasRule, IsForest, LeadsUp, LeadsUpOr, Rise}
use Rattle.channel_bundles.specs.Kept.{AreKept, IsBefore, IsKeptOr, IsLinkRule, rule_of}
use Rattle.channel_bundles.specs.Links.{IsLink, link, member_at, no_member}
use Rattle.channel_bundles.specs.Listed.{AreListedOf}
use Rattle.channel_bundles.specs.Shares.{AreSeats, IsBundleWith, IsGiven, is_of_class, own_rule, seat_at, share_of}
use Rattle.channel_bundles.proofs.Bundling.{rise_to}
use Rattle.channel_bundles.proofs.Grouping.{other_number}
use Rattle.channel_bundles.proofs.Listing.{classes_by}
use Rattle.channel_bundles.proofs.Trees.{cases_below, cases_same, connected_by, connected_link, connected_on}

some_of : (o : Option Bool) → IsSome o → (s : Bool) × (o ≡ Some s)
some_of None h = absurd (true≢false (sym h))
some_of (Some s) h = (s, refl)

-- few rules connect the ends of each link that reaches over at most n runs
reach_connected : (nudge : ℤ) (members : List Member) (rules : List Rule) → AreKept nudge members rules → (n i j : ℕ) → j ≤ i + n → IsLink nudge members i j → Connected (HasRule rules) i j
reach_connected nudge members rules kept zero i j near l = absurd (omega (arith, near, l.forward))
reach_connected nudge members rules kept (suc n) i j near l =
    let some = some_of (link nudge (member_at members i) (member_at members j)) l.linked in
    elim (kept.whole (rule_of i j some.0) (record { forward = l.forward; within = l.within; linked = some.1 })) as (λ _. Connected (HasRule rules) i j) [
      | inl has ↦ connected_link i j (record { spaced = some.0; has = has })
      | inr mid ↦
          let m = mid.middle in
          connected_on i m j
          (reach_connected nudge members rules kept n i m (omega (arith, near, mid.right.forward)) (record { forward = mid.left.forward; within = mid.left.within; linked = subst IsSome (sym mid.left.linked) refl }))
          (reach_connected nudge members rules kept n m j (omega (arith, near, mid.left.forward)) (record { forward = mid.right.forward; within = mid.right.within; linked = subst IsSome (sym mid.right.linked) refl }))
    ]

-- few rules join the classes of all links
pub rule_classes : (nudge : ℤ) (members : List Member) (rules : List Rule) (classes : List (List ℕ)) → AreKept nudge members rules → AreClasses (Connected (HasRule rules)) (length members) classes →
    AreClasses (Connected (IsLink nudge members)) (length members) classes
rule_classes nudge members rules classes kept = classes_by (length members) classes
    (λ i j has.
    let is = All-contains (IsLinkRule nudge members) rules (rule_of i j has.spaced) kept.each has.has in
    connected_link i j (record { forward = is.forward; within = is.within; linked = subst IsSome (sym is.linked) refl }))
    (λ i j l. reach_connected nudge members rules kept j i j (omega arith) l)

-- what is known of the seat of a number
pub record IsSeat (classes : List (List ℕ)) (i : ℕ) (s : Seat) : Type 0 where
  pub in_class : s.class < length classes
  pub in_place : s.place < length (get_or classes s.class [])
  pub leads_back : get_or (get_or classes s.class []) s.place 0 ≡ i

pub seat_of : {connected : ℕ → ℕ → Type 0} (count : ℕ) (classes : List (List ℕ)) (seats : List Seat) → AreClasses connected count classes → AreSeats count classes seats → (i : ℕ) → i < count → IsSeat classes i (seat_at seats i)
seat_of count classes seats are seated i h =
    let w = are.whole i h in
    let places = w.0 in
    let k = w.1.0 in
    let p = w.2.0 in
    let same : get_or classes k [] ≡ places = get_or_default classes k [] places w.1.1 ∙ w.1.2 in
    let here : get_or (get_or classes k []) p 0 ≡ i = ap (λ xs. get_or xs p 0) same ∙ get_or_default places p 0 i w.2.1 ∙ w.2.2 in
    let in_p : p < length (get_or classes k []) = omega (arith, w.2.1, ap length same) in
    subst (IsSeat classes i) (sym (seated.own k p w.1.1 in_p) ∙ ap (seat_at seats) here) (record { in_class = w.1.1; in_place = in_p; leads_back = here })

keeps_head : {X : Type 0} (pass : Bool) (x y : X) (xs : List X) → y ≡ x → pass ≡ true → Contains (cond pass (y ∷ xs) xs) x
keeps_head true x y xs is e = (0, omega arith, is)
keeps_head false x y xs is e = absurd (true≢false (sym e))

keeps_rest : {X : Type 0} (pass : Bool) (x y : X) (xs : List X) → Contains xs x → Contains (cond pass (y ∷ xs) xs) x
keeps_rest true x y xs (k, h, e) = (suc k, omega (arith, h), e)
keeps_rest false x y xs c = c

-- an element that passes is among those that do
pub passed : {X : Type 0} (test : X → Bool) (xs : List X) (x : X) → Contains xs x → test x ≡ true → Contains (filter test xs) x
passed test [] x (k, h, e) pass = absurd (omega (arith, h))
passed test (y ∷ ys) x (zero, h, e) pass = keeps_head (test y) x y (filter test ys) e (ap test e ∙ pass)
passed test (y ∷ ys) x (suc k, h, e) pass = keeps_rest (test y) x y (filter test ys) (passed test ys x (k, omega (arith, h), e) pass)

pub mapped : {X Y : Type 0} (f : X → Y) (xs : List X) (x : X) → Contains xs x → Contains (map f xs) (f x)
mapped f xs x (k, h, e) = (k, omega (arith, h, length-map xs f), get_or-map f xs k x (f x) h ∙ ap f e)

-- the rules so far of a class, with the next one where it is of the class
share_more : (seats : List Seat) (k : ℕ) (rules : List Rule) (i : ℕ) (d : Rule) → i < length rules → is_of_class seats k (get_or rules i d) ≡ true →
    share_of seats k (take (i + 1) rules) ≡ share_of seats k (take i rules) ++ own_rule seats (get_or rules i d) ∷ []
share_more seats k rules i d h of =
    let front = filter (is_of_class seats k) (take i rules) in
    let r = get_or rules i d in
    ap (map (own_rule seats)) (filter_more (is_of_class seats k) rules i d h ∙ ap (λ b. front ++ cond b (r ∷ []) []) of) ∙ map-append (own_rule seats) front (r ∷ [])

share_same : (seats : List Seat) (k : ℕ) (rules : List Rule) (i : ℕ) (d : Rule) → i < length rules → is_of_class seats k (get_or rules i d) ≡ false → share_of seats k (take (i + 1) rules) ≡ share_of seats k (take i rules)
share_same seats k rules i d h of =
    let front = filter (is_of_class seats k) (take i rules) in
    let r = get_or rules i d in
    ap (map (own_rule seats)) (filter_more (is_of_class seats k) rules i d h ∙ ap (λ b. front ++ cond b (r ∷ []) []) of ∙ append-nil front)

-- the rules before i are given to the bundles of their classes
pub record AreGiven (seats : List Seat) (rules : List Rule) (i : ℕ) (old new : List RunBundle) : Type 0 where
  pub count : length new ≡ length old
  pub each : (k : ℕ) (d : RunBundle) → k < length old → IsGiven (share_of seats k (take i rules)) (get_or old k d) (get_or new k d)

pub given_none : (seats : List Seat) (rules : List Rule) (found : List RunBundle) → AreGiven seats rules 0 found found
given_none seats rules found = record {
  count = refl;
  each = λ k d h. record { items = refl; rules = sym (append-nil (get_or found k d).bundle.rules.items); wanted = refl; runs = refl };
}

pub given_more : (seats : List Seat) (rules : List Rule) (i class : ℕ) (r : Rule) (old found : List RunBundle) (was new : RunBundle) → AreGiven seats rules i old found → i < length rules → r ≡ get_or rules i r →
    class ≡ (seat_at seats r.left).class → class < length found → was ≡ get_or found class was → IsGiven (own_rule seats r ∷ []) was new → AreGiven seats rules (i + 1) old (set found class new)
given_more seats rules i class r old found was new is h reads is_class in_class read given = record {
  count = length-set found class new ∙ is.count;
  each = λ k d in_k. cases_same k class
      (λ e.
      let of : is_of_class seats k (get_or rules i r) ≡ true = ap (is_of_class seats k) (sym reads) ∙ (Decides-eqb (seat_at seats r.left).class k).1 (sym is_class ∙ sym e) in
      let before = is.each k d in_k in
      let same : get_or found k d ≡ was = ap (λ n. get_or found n d) e ∙ sym (get_or_read found class was in_class read d) in
      let here : get_or (set found class new) k d ≡ new = ap (λ n. get_or (set found class new) n d) e ∙ get_or-set_same found class new d in_class in
      let made : IsGiven (share_of seats k (take (i + 1) rules)) (get_or old k d) new = record {
        items = given.items ∙ ap (λ (b : RunBundle). b.bundle.items.items) (sym same) ∙ before.items;
        rules = given.rules ∙ ap (λ xs. xs ++ own_rule seats r ∷ []) (ap (λ (b : RunBundle). b.bundle.rules.items) (sym same) ∙ before.rules)
            ∙ append_assoc (get_or old k d).bundle.rules.items (share_of seats k (take i rules)) (own_rule seats r ∷ [])
            ∙ ap (λ xs. (get_or old k d).bundle.rules.items ++ xs) (ap (λ x. share_of seats k (take i rules) ++ own_rule seats x ∷ []) reads ∙ sym (share_more seats k rules i r h of));
        wanted = given.wanted ∙ ap (λ (b : RunBundle). b.bundle.wanted) (sym same) ∙ before.wanted;
        runs = given.runs ∙ ap (λ (b : RunBundle). b.runs.items) (sym same) ∙ before.runs;
      } in
      subst (IsGiven (share_of seats k (take (i + 1) rules)) (get_or old k d)) (sym here) made)
      (λ ne.
      let of : is_of_class seats k (get_or rules i r) ≡ false = ap (is_of_class seats k) (sym reads) ∙ other_number (seat_at seats r.left).class k (λ e. ne (sym e ∙ sym is_class)) in
      subst (λ b. IsGiven (share_of seats k (take (i + 1) rules)) (get_or old k d) b) (sym (get_or-set_other found class k new d ne))
      (subst (λ rs. IsGiven rs (get_or old k d) (get_or found k d)) (sym (share_same seats k rules i r h of)) (is.each k d in_k)));
}

-- the rules before i are joined
pub record AreJoined (rules : List Rule) (count : ℕ) (above : List ℕ) (i : ℕ) : Type 0 where
  pub forest : IsForest above
  pub all : length above ≡ count
  pub joined : (k : ℕ) (d : Rule) → k < i → Connected (LeadsUp above) (get_or rules k d).left (get_or rules k d).right
  pub only : FollowsLinks (HasRule rules) above

pub joined_none : (rules : List Rule) (count : ℕ) (above : List ℕ) → length above ≡ count → ((k : ℕ) → k < length above → get_or above k 0 ≡ k) → AreJoined rules count above 0
joined_none rules count above all own = record {
  forest = λ k h. omega (arith, own k h);
  all = all;
  joined = λ k d h. absurd (omega arith);
  only = λ i j up. subst (λ n. Connected (HasRule rules) i n) (sym (own i up.0) ∙ up.1) (Connected.same i);
}

pub joined_more : (rules : List Rule) (count : ℕ) (above made : List ℕ) (i : ℕ) (r : Rule) → AreJoined rules count above i → i < length rules → r ≡ get_or rules i r → IsForest made → length made ≡ length above →
    ((a b : ℕ) → LeadsUp above a b → Connected (LeadsUp made) a b) → Connected (LeadsUp made) r.left r.right →
    ((a b : ℕ) → LeadsUp made a b → Connected (LeadsUpOr above r.left r.right) a b) → AreJoined rules count made (i + 1)
joined_more rules count above made i r is h reads forest all kept ends only =
    let has : HasRule rules r.left r.right = record { spaced = r.spaced; has = subst (Contains rules) (sym reads) (Contains-get_or rules i r h) } in
    record {
      forest = forest;
      all = all ∙ is.all;
      joined = λ k d before. cases_same k i
          (λ e. subst (λ x. Connected (LeadsUp made) x.left x.right) (get_or_read rules i r h reads d ∙ ap (λ n. get_or rules n d) (sym e)) ends)
          (λ ne. connected_by kept (get_or rules k d).left (get_or rules k d).right (is.joined k d (omega arith)));
      only = λ a b up. connected_by (λ x y either. elim either as (λ _. Connected (HasRule rules) x y) [
        | inl one ↦ is.only x y one
        | inr pair ↦ subst (λ n. Connected (HasRule rules) n y) (sym pair.0) (subst (λ n. Connected (HasRule rules) r.left n) (sym pair.1) (connected_link r.left r.right has))
      ]) a b (only a b up);
    }

pub joined_all : (rules : List Rule) (count : ℕ) (above : List ℕ) (i : ℕ) (classes : List (List ℕ)) → AreJoined rules count above i → length rules ≤ i → AreClasses (Connected (LeadsUp above)) (length above) classes →
    AreClasses (Connected (HasRule rules)) count classes
joined_all rules count above i classes is whole are =
    classes_by count classes is.only
    (λ a b has. subst (λ x. Connected (LeadsUp above) x.left x.right) has.has.2 (is.joined has.has.0 (rule_of a b has.spaced) (omega (arith, has.has.1, whole))))
    (subst (λ n. AreClasses (Connected (LeadsUp above)) n classes) is.all are)

-- the rules of one class, between its places
module _ (nudge : ℤ) (members : List Member) (rules : List Rule) (kept : AreKept nudge members rules) (classes : List (List ℕ)) (are : AreClasses (Connected (IsLink nudge members)) (length members) classes)
    (seats : List Seat) (seated : AreSeats (length members) classes seats) (k : ℕ) (in_k : k < length classes) where
  abbrev places : List ℕ
  places = get_or classes k []

  abbrev ms : List Member
  ms = members_at members places

  abbrev place : ℕ → ℕ
  place p = get_or places p 0

  abbrev number : ℕ → ℕ
  number i = (seat_at seats i).place

  at : (p : ℕ) → p < length places → member_at ms p ≡ member_at members (place p)
  at p h = get_or-map (member_at members) places p 0 no_member h

  rise : Rise places
  rise = are.rising k [] in_k

  below : (p : ℕ) → p < length places → place p < length members
  below p h = are.within k [] in_k p 0 h

  -- the order of two places is that of their runs
  before : (a b : ℕ) → a < length places → place a < place b → a < b
  before a b h less = cases_below a b (λ l. l) (λ from. absurd (omega (arith, less, rise_to places b a rise from h)))

  inward : (a b : ℕ) (s : Bool) → a < length places → b < length places → IsLinkRule nudge members (rule_of (place a) (place b) s) → IsLinkRule nudge ms (rule_of a b s)
  inward a b s in_a in_b is = record {
    forward = before a b in_a is.forward;
    within = omega (arith, in_b, length-map {B = Member} places (member_at members));
    linked = subst (λ m. link nudge m (member_at ms b) ≡ Some s) (sym (at a in_a)) (subst (λ m. link nudge (member_at members (place a)) m ≡ Some s) (sym (at b in_b)) is.linked);
  }

  outward : (a b : ℕ) (s : Bool) → b < length places → IsLinkRule nudge ms (rule_of a b s) → IsLinkRule nudge members (rule_of (place a) (place b) s)
  outward a b s in_b is = record {
    forward = rise a b is.forward in_b;
    within = below b in_b;
    linked = subst (λ m. link nudge m (member_at members (place b)) ≡ Some s) (at a (omega (arith, is.forward, in_b))) (subst (λ m. link nudge (member_at ms a) m ≡ Some s) (at b in_b) is.linked);
  }

  -- the number is in the class
  abbrev IsIn : ℕ → Type 0
  IsIn i = (number i < length places) × (place (number i) ≡ i)

  own_seat : (p : ℕ) → p < length places → seat_at seats (place p) ≡ record { class = k; place = p }
  own_seat p h = seated.own k p in_k h

  contained : (i : ℕ) → Contains places i → IsIn i
  contained i (p, h, e) =
      let here : place p ≡ i = get_or_default places p 0 i h ∙ e in
      let same : number i ≡ p = ap number (sym here) ∙ ap (λ (s : Seat). s.place) (own_seat p h) in
      (omega (arith, same, h), ap place same ∙ here)

  of_class : (i : ℕ) → i < length members → (seat_at seats i).class ≡ k → IsIn i
  of_class i h e =
      let is = seat_of (length members) classes seats are seated i h in
      let same : get_or classes (seat_at seats i).class [] ≡ places = ap (λ n. get_or classes n []) e in
      (omega (arith, is.in_place, ap length same), ap (λ xs. get_or xs (number i) 0) (sym same) ∙ is.leads_back)

  -- a link leads from the class into it
  linked_in : (i j : ℕ) (s : Bool) → IsIn i → IsLinkRule nudge members (rule_of i j s) → IsIn j
  linked_in i j s has is =
      contained j ((are.linked places i j (Contains-get_or classes k [] in_k) (subst (Contains places) has.1 (Contains-get_or places (number i) 0 has.0)) is.within).1
      (connected_link i j (record { forward = is.forward; within = is.within; linked = subst IsSome (sym is.linked) refl })))

  -- both ends of a rule of the class
  ends_in : (r : Rule) → IsLinkRule nudge members r → is_of_class seats k r ≡ true → IsIn r.left × IsIn r.right
  ends_in r is of =
      let left = of_class r.left (omega (arith, is.forward, is.within)) ((Decides-eqb (seat_at seats r.left).class k).0 of) in
      (left, linked_in r.left r.right r.spaced left is)

  own_link : (r : Rule) → IsLinkRule nudge members r → is_of_class seats k r ≡ true → IsLinkRule nudge ms (own_rule seats r)
  own_link r is of =
      let ends = ends_in r is of in
      inward (number r.left) (number r.right) r.spaced ends.0.0 ends.1.0
      (subst (λ i. IsLinkRule nudge members (rule_of i (place (number r.right)) r.spaced)) (sym ends.0.1) (subst (λ j. IsLinkRule nudge members (rule_of r.left j r.spaced)) (sym ends.1.1) is))

  own_before : (r s : Rule) → IsLinkRule nudge members r → IsLinkRule nudge members s → is_of_class seats k r ≡ true → is_of_class seats k s ≡ true → IsBefore r s → IsBefore (own_rule seats r) (own_rule seats s)
  own_before r s is_r is_s of_r of_s (inl less) =
      let one = ends_in r is_r of_r in
      let other = ends_in s is_s of_s in
      inl (before (number r.left) (number s.left) one.0.0 (omega (arith, less, one.0.1, other.0.1)))
  own_before r s is_r is_s of_r of_s (inr both) =
      let one = ends_in r is_r of_r in
      let other = ends_in s is_s of_s in
      inr (ap number both.0, before (number r.right) (number s.right) one.1.0 (omega (arith, both.1, one.1.1, other.1.1)))

  abbrev passing : List Rule
  passing = filter (is_of_class seats k) rules

  links : All (IsLinkRule nudge members) passing
  links = All-filter (is_of_class seats k) (IsLinkRule nudge members) rules kept.each

  of : All (λ r. is_of_class seats k r ≡ true) passing
  of = filter_passes (is_of_class seats k) rules

  own_rise : AllPairs IsBefore (share_of seats k rules)
  own_rise i j d less h =
      let in_j : j < length passing = omega (arith, h, length-map passing (own_rule seats)) in
      let in_i : i < length passing = omega (arith, less, in_j) in
      subst (λ r. IsBefore r (get_or (share_of seats k rules) j d)) (sym (get_or-map (own_rule seats) passing i d d in_i))
      (subst (λ s. IsBefore (own_rule seats (get_or passing i d)) s) (sym (get_or-map (own_rule seats) passing j d d in_j))
      (own_before (get_or passing i d) (get_or passing j d) (links i d in_i) (links j d in_j) (of i d in_i) (of j d in_j) (AllPairs-filter IsBefore (is_of_class seats k) rules kept.rise i j d less in_j)))

  own_whole : (r : Rule) → IsLinkRule nudge ms r → IsKeptOr nudge ms (share_of seats k rules) r
  own_whole r is =
      let in_right : r.right < length places = omega (arith, is.within, length-map {B = Member} places (member_at members)) in
      let in_left : r.left < length places = omega (arith, is.forward, in_right) in
      let out = rule_of (place r.left) (place r.right) r.spaced in
      let is_left = own_seat r.left in_left in
      let has_left : IsIn (place r.left) = contained (place r.left) (Contains-get_or places r.left 0 in_left) in
      elim (kept.whole out (outward r.left r.right r.spaced in_right is)) as (λ _. IsKeptOr nudge ms (share_of seats k rules) r) [
        | inl has ↦
            let same : own_rule seats out ≡ r = ap (λ a. rule_of a (number (place r.right)) r.spaced) (ap (λ (s : Seat). s.place) is_left) ∙ ap (λ b. rule_of r.left b r.spaced) (ap (λ (s : Seat). s.place) (own_seat r.right in_right)) in
            inl (subst (Contains (share_of seats k rules)) same (mapped (own_rule seats) passing out (passed (is_of_class seats k) rules out has ((Decides-eqb (seat_at seats (place r.left)).class k).1 (ap (λ (s : Seat). s.class) is_left)))))
        | inr mid ↦
            let m = mid.middle in
            let has : IsIn m = linked_in (place r.left) m true has_left mid.left in
            inr (record {
              middle = number m;
              left = inward r.left (number m) true in_left has.0 (subst (λ i. IsLinkRule nudge members (rule_of (place r.left) i true)) (sym has.1) mid.left);
              right = inward (number m) r.right true has.0 in_right (subst (λ i. IsLinkRule nudge members (rule_of i (place r.right) true)) (sym has.1) mid.right);
            })
      ]

  pub shared_kept : AreKept nudge ms (share_of seats k rules)
  shared_kept = record {
    each = All-map (IsLinkRule nudge ms) (own_rule seats) passing (λ i d h. own_link (get_or passing i d) (links i d h) (of i d h));
    rise = own_rise;
    whole = own_whole;
  }

-- the bundles of the classes with their rules
pub few_listed : (nudge : ℤ) (members : List Member) (rules : List Rule) (classes : List (List ℕ)) (seats : List Seat) (bare found : List RunBundle) → AreKept nudge members rules →
    AreClasses (Connected (HasRule rules)) (length members) classes → AreSeats (length members) classes seats → length bare ≡ length classes → length found ≡ length bare →
    ((k : ℕ) (d : RunBundle) → k < length classes → IsBundleWith nudge (members_at members (get_or classes k [])) [] (get_or bare k d)) →
    ((k : ℕ) (d : RunBundle) → k < length bare → IsGiven (share_of seats k rules) (get_or bare k d) (get_or found k d)) → AreListedOf Listing.Few nudge members found
few_listed nudge members rules classes seats bare found kept joined seated count same are given =
    let are_classes = rule_classes nudge members rules classes kept joined in
    record {
      classes = classes;
      are_classes = are_classes;
      count = same ∙ count;
      each = λ k d h.
          let in_k : k < length classes = omega (arith, h, count, same) in
          let b = are k d in_k in
          let more = given k d (omega (arith, h, same)) in
          record {
            items = more.items ∙ b.items;
            rules = subst (AreKept nudge (members_at members (get_or classes k []))) (sym (more.rules ∙ ap (λ xs. xs ++ share_of seats k rules) b.rules))
                (shared_kept nudge members rules kept classes are_classes seats seated k in_k);
            wanted = more.wanted ∙ b.wanted;
            runs = more.runs ∙ b.runs;
          };
    }
