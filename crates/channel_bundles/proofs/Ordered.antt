-- Rules of links in their order: all of them, and few among them.
use Rattle.std.proofs.Common.{◌≡◌, ℕ, zero, suc, ◌+◌, ◌*◌, ◌<◌, ◌≤◌, ◌^◌, ℤ, Bool, Option, Some, None, List, [], ◌∷◌, ◌++◌, length, slice_get, inl, inr, refl, sym, ap, subst, ◌∙◌, arith, length-append}
use Rattle.std.specs.Prelude.{All, AllPairs, Contains}
use Rattle.std.proofs.lemmas.List.Elements.{All-append, All-cons, All-contains, All-head, All-nil, All-tail, All-weaker, Contains-append_left, Contains-append_right}
use Rattle.std.proofs.lemmas.List.Kept.{AllPairs-cons}
use Rattle.std.proofs.lemmas.Option.{slice_get-get_or}
use Rattle.separation_model.specs.declared.bundle.Rule.{Rule}
use Rattle.channel_bundles.specs.declared.member.Member.{Member}
use Rattle.channel_bundles.specs.Few.{AreAmong}
use Rattle.channel_bundles.specs.Kept.{IsBefore, IsLinkRule, rule_of}
use Rattle.channel_bundles.specs.Links.{link, member_at, no_member, rule_if, rules_after, rules_from}

-- ---- few among all

not_before_itself : (r : Rule) → IsBefore r r → ⊥
not_before_itself r (inl l) = omega (arith, l)
not_before_itself r (inr e) = omega (arith, e.1)

before_both : (r s t : Rule) → IsBefore r s → IsBefore s t → IsBefore r t
before_both r s t (inl l) (inl m) = inl (omega (arith, l, m))
before_both r s t (inl l) (inr m) = inl (omega (arith, l, m.0))
before_both r s t (inr l) (inl m) = inl (omega (arith, l.0, m))
before_both r s t (inr l) (inr m) = inr (l.0 ∙ m.0, omega (arith, l.1, m.1))

-- what is behind the first is among the others
behind_first : (a r : Rule) (all : List Rule) → IsBefore a r → Contains (a ∷ all) r → Contains all r
behind_first a r all before (zero, h, e) = absurd (not_before_itself a (subst (IsBefore a) (sym e) before))
behind_first a r all before (suc k, h, e) = (k, omega (arith, h), e)

all_behind : (a : Rule) (few all : List Rule) → All (IsBefore a) few → All (Contains (a ∷ all)) few → All (Contains all) few
all_behind a few all before there k d h = behind_first a _ all (before k d h) (there k d h)

rising_first : (r : Rule) (rules : List Rule) → AllPairs IsBefore (r ∷ rules) → All (IsBefore r) rules
rising_first r rules rise k d h = rise 0 (suc k) d (omega arith) (omega (arith, h))

rising_rest : (r : Rule) (rules : List Rule) → AllPairs IsBefore (r ∷ rules) → AllPairs IsBefore rules
rising_rest r rules rise i j d less h = rise (suc i) (suc j) d (omega (arith, less)) (omega (arith, h))

among_first : (a r : Rule) (few all : List Rule) → AllPairs IsBefore (r ∷ few) → All (IsBefore a) all → All (Contains (a ∷ all)) (r ∷ few) →
    ((rules : List Rule) → AllPairs IsBefore rules → All (Contains all) rules → AreAmong rules all) → Contains (a ∷ all) r → AreAmong (r ∷ few) (a ∷ all)
among_first a r few all rise up there others (zero, h, e) =
    let behind = subst (λ s. All (IsBefore s) few) (sym e) (rising_first r few rise) in
    subst (λ s. AreAmong (s ∷ few) (a ∷ all)) e (AreAmong.kept a few all (others few (rising_rest r few rise) (all_behind a few all behind (All-tail (Contains (a ∷ all)) r few there))))
among_first a r few all rise up there others (suc k, h, e) =
    let before : IsBefore a r = subst (IsBefore a) e (up k r (omega (arith, h))) in
    let behind = All-cons (IsBefore a) r few before (All-weaker (IsBefore r) (IsBefore a) (λ s m. before_both a r s before m) few (rising_first r few rise)) in
    AreAmong.left_out a (r ∷ few) all (others (r ∷ few) rise (all_behind a (r ∷ few) all behind there))

-- rising rules that are all among rising rules are among them in their order
pub among_rising : (few all : List Rule) → AllPairs IsBefore few → AllPairs IsBefore all → All (Contains all) few → AreAmong few all
among_rising [] [] rise up there = AreAmong.none
among_rising [] (a ∷ all) rise up there = AreAmong.left_out a [] all (among_rising [] all rise (rising_rest a all up) (All-nil (Contains all)))
among_rising (r ∷ few) [] rise up there = (let h = (there 0 r (omega arith)).1 in absurd (omega (arith, h)))
among_rising (r ∷ few) (a ∷ all) rise up there =
    among_first a r few all rise (rising_first a all up) there (λ rules rising in_all. among_rising rules all rising (rising_rest a all up) in_all) (there 0 r (omega arith))

-- ---- each link has a rule

-- a link between two members of a list is one of its rules
rule_from : (nudge : ℤ) (i j n : ℕ) (m s : Member) (rest : List Member) (spaced : Bool) → slice_get rest n ≡ Some s → link nudge m s ≡ Some spaced → Contains (rules_from nudge i m j rest) (rule_of i (j + n) spaced)
rule_from nudge i j n m s [] spaced at e = cc
rule_from nudge i j zero m s (t ∷ rest) spaced at e =
    let same : t ≡ s = cc in
    let rule = rule_of i (j + 0) spaced in
    let here : rule_if i j (link nudge m t) ≡ rule ∷ [] = ap (λ u. rule_if i j (link nudge m u)) same ∙ ap (rule_if i j) e ∙ ap (λ k. rule_of i k spaced ∷ []) (let k : j ≡ j + 0 = omega arith in k) in
    Contains-append_left (rule_if i j (link nudge m t)) (rules_from nudge i m (suc j) rest) rule (subst (λ rules. Contains rules rule) (sym here) (0, omega arith, refl))
rule_from nudge i j (suc n) m s (t ∷ rest) spaced at e =
    Contains-append_right (rule_if i j (link nudge m t)) (rules_from nudge i m (suc j) rest) _
    (subst (λ k. Contains (rules_from nudge i m (suc j) rest) (rule_of i k spaced)) (omega arith) (rule_from nudge i (suc j) n m s rest spaced at e))

pub rule_after : (nudge : ℤ) (base i j : ℕ) (m s : Member) (ms : List Member) (spaced : Bool) → slice_get ms i ≡ Some m → slice_get ms j ≡ Some s → i < j → link nudge m s ≡ Some spaced →
    Contains (rules_after nudge base ms) (rule_of (base + i) (base + j) spaced)
rule_after nudge base i j m s [] spaced at to h e = cc
rule_after nudge base i zero m s (t ∷ rest) spaced at to h e = absurd (omega arith)
rule_after nudge base zero (suc j) m s (t ∷ rest) spaced at to h e =
    let same : t ≡ m = cc in
    Contains-append_left (rules_from nudge base t (suc base) rest) (rules_after nudge (suc base) rest) _
    (subst (λ k. Contains (rules_from nudge base t (suc base) rest) (rule_of k (base + suc j) spaced)) (omega arith)
    (subst (λ k. Contains (rules_from nudge base t (suc base) rest) (rule_of base k spaced)) (omega arith)
    (rule_from nudge base (suc base) j t s rest spaced to (ap (λ u. link nudge u s) same ∙ e))))
rule_after nudge base (suc i) (suc j) m s (t ∷ rest) spaced at to h e =
    Contains-append_right (rules_from nudge base t (suc base) rest) (rules_after nudge (suc base) rest) _
    (subst (λ k. Contains (rules_after nudge (suc base) rest) (rule_of k (base + suc j) spaced)) (omega arith)
    (subst (λ k. Contains (rules_after nudge (suc base) rest) (rule_of (suc base + i) k spaced)) (omega arith)
    (rule_after nudge (suc base) i j m s rest spaced at to (omega arith) e)))

-- each link is found in the rules after
pub link_is_rule : (nudge : ℤ) (ms : List Member) (r : Rule) → IsLinkRule nudge ms r → Contains (rules_after nudge 0 ms) r
link_is_rule nudge ms r is =
    subst (λ k. Contains (rules_after nudge 0 ms) (rule_of k r.right r.spaced)) (omega arith)
    (subst (λ k. Contains (rules_after nudge 0 ms) (rule_of (0 + r.left) k r.spaced)) (omega arith)
    (rule_after nudge 0 r.left r.right (member_at ms r.left) (member_at ms r.right) ms r.spaced
    (slice_get-get_or ms r.left no_member (let f = is.forward in let w = is.within in omega (arith, f, w))) (slice_get-get_or ms r.right no_member is.within) is.forward is.linked))

-- ---- each rule is of a link

-- the rule is of a link from the run to one of those from j on
record IsRuleFrom (nudge : ℤ) (i : ℕ) (m : Member) (j : ℕ) (ms : List Member) (r : Rule) : Type 0 where
  place : ℕ
  left : r.left ≡ i
  right : r.right ≡ j + place
  within : place < length ms
  linked : link nudge m (member_at ms place) ≡ Some r.spaced

first_rule : (nudge : ℤ) (i : ℕ) (m : Member) (j : ℕ) (s : Member) (rest : List Member) (o : Option Bool) → link nudge m s ≡ o → All (IsRuleFrom nudge i m j (s ∷ rest)) (rule_if i j o)
first_rule nudge i m j s rest None e = All-nil (IsRuleFrom nudge i m j (s ∷ rest))
first_rule nudge i m j s rest (Some spaced) e =
    let P = IsRuleFrom nudge i m j (s ∷ rest) in
    All-cons P (rule_of i j spaced) [] (record { place = 0; left = refl; right = omega arith; within = omega arith; linked = e }) (All-nil P)

rules_are_from : (nudge : ℤ) (i : ℕ) (m : Member) (j : ℕ) (ms : List Member) → All (IsRuleFrom nudge i m j ms) (rules_from nudge i m j ms)
rules_are_from nudge i m j [] = All-nil (IsRuleFrom nudge i m j [])
rules_are_from nudge i m j (s ∷ rest) =
    let P = IsRuleFrom nudge i m j (s ∷ rest) in
    let others = rules_from nudge i m (suc j) rest in
    All-append P (rule_if i j (link nudge m s)) others (first_rule nudge i m j s rest (link nudge m s) refl)
    (All-weaker (IsRuleFrom nudge i m (suc j) rest) P
    (λ r is. record { place = suc is.place; left = is.left; right = omega (arith, is.right); within = omega (arith, is.within); linked = is.linked })
    others (rules_are_from nudge i m (suc j) rest))

-- the rule is of a link between two runs, which are counted from i on
record IsRuleAfter (nudge : ℤ) (i : ℕ) (ms : List Member) (r : Rule) : Type 0 where
  first : ℕ
  second : ℕ
  left : r.left ≡ i + first
  right : r.right ≡ i + second
  forward : first < second
  within : second < length ms
  linked : link nudge (member_at ms first) (member_at ms second) ≡ Some r.spaced

rules_are_after : (nudge : ℤ) (i : ℕ) (ms : List Member) → All (IsRuleAfter nudge i ms) (rules_after nudge i ms)
rules_are_after nudge i [] = All-nil (IsRuleAfter nudge i [])
rules_are_after nudge i (m ∷ rest) =
    let P = IsRuleAfter nudge i (m ∷ rest) in
    let own = rules_from nudge i m (suc i) rest in
    let others = rules_after nudge (suc i) rest in
    All-append P own others
    (All-weaker (IsRuleFrom nudge i m (suc i) rest) P
    (λ r is. record { first = 0; second = suc is.place; left = omega (arith, is.left); right = omega (arith, is.right); forward = omega arith; within = omega (arith, is.within); linked = is.linked })
    own (rules_are_from nudge i m (suc i) rest))
    (All-weaker (IsRuleAfter nudge (suc i) rest) P
    (λ r is. record {
      first = suc is.first;
      second = suc is.second;
      left = omega (arith, is.left);
      right = omega (arith, is.right);
      forward = omega (arith, is.forward);
      within = omega (arith, is.within);
      linked = is.linked;
    }) others (rules_are_after nudge (suc i) rest))

-- what is found in the rules after is a link
pub rule_is_link : (nudge : ℤ) (ms : List Member) (r : Rule) → Contains (rules_after nudge 0 ms) r → IsLinkRule nudge ms r
rule_is_link nudge ms r has =
    let is = All-contains (IsRuleAfter nudge 0 ms) (rules_after nudge 0 ms) r (rules_are_after nudge 0 ms) has in
    let left : is.first ≡ r.left = omega (arith, is.left) in
    let right : is.second ≡ r.right = omega (arith, is.right) in
    record {
      forward = omega (arith, left, right, is.forward);
      within = omega (arith, right, is.within);
      linked = ap (λ k. link nudge (member_at ms k) (member_at ms r.right)) (sym left) ∙ ap (λ k. link nudge (member_at ms is.first) (member_at ms k)) (sym right) ∙ is.linked;
    }

-- ---- all rules rise

rising_append : (own others : List Rule) → AllPairs IsBefore own → AllPairs IsBefore others → All (λ r. All (IsBefore r) others) own → AllPairs IsBefore (own ++ others)
rising_append [] others rise up before = up
rising_append (r ∷ own) others rise up before =
    let P = λ (s : Rule). All (IsBefore s) others in
    AllPairs-cons IsBefore r (own ++ others) (All-append (IsBefore r) own others (rising_first r own rise) (All-head P r own before))
    (rising_append own others (rising_rest r own rise) up (All-tail P r own before))

one_rises : (i j : ℕ) (o : Option Bool) → AllPairs IsBefore (rule_if i j o)
one_rises i j None a b d less h = absurd (omega (arith, h))
one_rises i j (Some spaced) a b d less h = absurd (omega (arith, less, h))

rules_from_rise : (nudge : ℤ) (i : ℕ) (m : Member) (j : ℕ) (ms : List Member) → AllPairs IsBefore (rules_from nudge i m j ms)
rules_from_rise nudge i m j [] = λ a b d less h. absurd (omega (arith, h))
rules_from_rise nudge i m j (s ∷ rest) =
    let others = rules_from nudge i m (suc j) rest in
    let R = IsRuleFrom nudge i m j (s ∷ []) in
    rising_append (rule_if i j (link nudge m s)) others (one_rises i j (link nudge m s)) (rules_from_rise nudge i m (suc j) rest)
    (All-weaker R (λ r. All (IsBefore r) others)
    (λ r is. All-weaker (IsRuleFrom nudge i m (suc j) rest) (IsBefore r)
    (λ t of. inr (is.left ∙ sym of.left, omega (arith, is.right, is.within, of.right))) others (rules_are_from nudge i m (suc j) rest))
    (rule_if i j (link nudge m s)) (first_rule nudge i m j s [] (link nudge m s) refl))

rules_after_rise : (nudge : ℤ) (i : ℕ) (ms : List Member) → AllPairs IsBefore (rules_after nudge i ms)
rules_after_rise nudge i [] = λ a b d less h. absurd (omega (arith, h))
rules_after_rise nudge i (m ∷ rest) =
    let own = rules_from nudge i m (suc i) rest in
    let others = rules_after nudge (suc i) rest in
    rising_append own others (rules_from_rise nudge i m (suc i) rest) (rules_after_rise nudge (suc i) rest)
    (All-weaker (IsRuleFrom nudge i m (suc i) rest) (λ r. All (IsBefore r) others)
    (λ r is. All-weaker (IsRuleAfter nudge (suc i) rest) (IsBefore r) (λ t of. inl (omega (arith, is.left, of.left))) others (rules_are_after nudge (suc i) rest))
    own (rules_are_from nudge i m (suc i) rest))

pub rules_rise : (nudge : ℤ) (ms : List Member) → AllPairs IsBefore (rules_after nudge 0 ms)
rules_rise nudge ms = rules_after_rise nudge 0 ms

-- ---- there are not too many

few_if : (i j : ℕ) (o : Option Bool) → length (rule_if i j o) ≤ 1
few_if i j None = omega arith
few_if i j (Some spaced) = omega arith

few_from : (nudge : ℤ) (i : ℕ) (m : Member) (j : ℕ) (ms : List Member) → length (rules_from nudge i m j ms) ≤ length ms
few_from nudge i m j [] = omega arith
few_from nudge i m j (s ∷ rest) =
    omega (arith, length-append (rule_if i j (link nudge m s)) (rules_from nudge i m (suc j) rest), few_if i j (link nudge m s), few_from nudge i m (suc j) rest)

few_after : (nudge : ℤ) (i : ℕ) (ms : List Member) → length ms ≤ 850000000 → length (rules_after nudge i ms) ≤ length ms * 850000000
few_after nudge i [] few = omega arith
few_after nudge i (m ∷ rest) few =
    omega (arith, few, length-append (rules_from nudge i m (suc i) rest) (rules_after nudge (suc i) rest), few_from nudge i m (suc i) rest, few_after nudge (suc i) rest (omega (arith, few)))

pub few_rules_after : (nudge : ℤ) (ms : List Member) → length ms ≤ 850000000 → length (rules_after nudge 0 ms) < 2 ^ 63
few_rules_after nudge ms few = omega (arith, few, few_after nudge 0 ms few)
