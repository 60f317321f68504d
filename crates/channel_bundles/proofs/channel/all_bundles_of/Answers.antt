-- The bundle of one class after another.
use Rattle.std.proofs.Common.{◌≡◌, ◌<◌, ℕ, ℤ, List, [], map, length, get_or, sym, ap, subst, ◌∙◌, arith, w64, FitsSigned, rules, Vec}
use Rattle.std.specs.Prelude.{All}
use Rattle.std.proofs.lemmas.Int.{to_z-of_z}
use Rattle.std.proofs.lemmas.List.{get_or-map, length-map}
use Rattle.std.proofs.lemmas.List.Elements.{All-get_or}
use Rattle.separation_model.specs.Arena.{Arena}
use Rattle.channel_bundles.specs.declared.member.Member.{Member}
use Rattle.channel_bundles.specs.Classes.{AreClasses, Connected, Rise}
use Rattle.channel_bundles.specs.Links.{IsLink}
use Rattle.channel_bundles.specs.Listed.{IsListed}
use Rattle.channel_bundles.specs.declared.channel.Listing.{Listing}
use Rattle.channel_bundles.proofs.Bundling.{bundling_begins, bundling_ends, bundling_more}
use Rattle.channel_bundles.proofs.channel.all_bundles_of.Goals as goal
use Rattle.channel_bundles.proofs.channel.all_bundles_of.Goals.{After-deref-class-items, After-deref}

abbrev Lists : Type 0
Lists = List (Vec ℕ Arena)

abbrev items_of : Lists → List (List ℕ)
items_of lists = map (λ list. list.items) lists

-- a class of the list of classes
record IsClass (members : List Member) (places : List ℕ) : Type 0 where
  within : All (λ i. i < length members) places
  rising : Rise places

class_at : (connected : ℕ → ℕ → Type 0) (members : List Member) (lists : Lists) (i : ℕ) (list : Vec ℕ Arena) (places : List ℕ) → AreClasses connected (length members) (items_of lists) → i < length lists → list ≡ get_or lists i list → places ≡ list.items →
    (places ≡ get_or (items_of lists) i []) × IsClass members places
class_at connected members lists i list places are h is e =
    let count = length-map {B = List ℕ} lists (λ l. l.items) in
    let same : places ≡ get_or (items_of lists) i [] = e ∙ ap (λ (l : Vec ℕ Arena). l.items) is ∙ sym (get_or-map (λ (l : Vec ℕ Arena). l.items) lists i list [] h) in (
      same,
      subst (IsClass members) (sym same) (record {
        within = All-get_or (All (λ k. k < length members)) (items_of lists) i [] (omega (arith, h, count)) are.within;
        rising = All-get_or Rise (items_of lists) i [] (omega (arith, h, count)) are.rising;
      }),
    )

abbrev linked : ℤ → List Member → ℕ → ℕ → Type 0
linked nudge members = Connected (IsLink nudge members)

-- the classes that the loop goes through
classes_here : (c : After-deref-class-items) → AreClasses (linked c.args.nudge c.args.members.now) (length c.args.members.now) (items_of c.deref-class-items.result.now)
classes_here c =
    let fits : FitsSigned w64 c.args.nudge = search rules in
    let found = simp to_z-of_z at c.in_ok-classes.ensures in
    subst (λ xs. AreClasses (linked c.args.nudge c.args.members.now) (length c.args.members.now) (items_of xs)) (sym c.deref-class-items.ensures.value) found

-- the class of one turn
class_here : (c : After-deref) → (c.deref.result.now ≡ get_or (items_of c.deref-class-items.result.now) c.loop-class.class-index []) × IsClass c.args.members.now c.deref.result.now
class_here c = class_at (linked c.args.nudge c.args.members.now) c.args.members.now c.deref-class-items.result.now c.loop-class.class-index c.class-item.result c.deref.result.now
    (classes_here (goal.at.After-deref c).After-deref-class-items) c.loop-class-test.true c.class-item.is c.deref.ensures.value

pub class_bundle-requires-clause-within : goal.class_bundle-requires-clause-within
class_bundle-requires-clause-within c = (class_here (goal.at.class_bundle-requires-clause-within c).After-deref).1.within

pub class_bundle-requires-clause-places : goal.class_bundle-requires-clause-places
class_bundle-requires-clause-places c = (class_here (goal.at.class_bundle-requires-clause-places c).After-deref).1.rising

pub loop-class-init : goal.loop-class-init
loop-class-init c =
    let fits : FitsSigned w64 c.args.nudge = search rules in
    simp to_z-of_z (bundling_begins (IsListed Listing.All c.args.nudge) c.args.members.now (items_of c.deref-class-items.result.now) c.in_ok-found.found.items c.in_ok-found.ensures.items)

pub loop-class-preserved : goal.loop-class-preserved
loop-class-preserved c =
    let members = c.args.members.now in
    let same = (class_here (goal.at.loop-class-preserved c).After-deref).0 in
    let fits : FitsSigned w64 c.args.nudge = search rules in
    let is = simp to_z-of_z at c.loop-class.invariant in
    let of = simp to_z-of_z at c.in_ok-class_bundle.ensures in
    simp to_z-of_z (bundling_more (IsListed Listing.All c.args.nudge) members (items_of c.deref-class-items.result.now) c.loop-class.found.items _ c.loop-class.class-index c.in_ok-class_bundle.field-0 c.deref.result.now
    is same of c.in_ok-push.ensures.items)

pub returns : goal.returns
returns c =
    let fits : FitsSigned w64 c.args.nudge = search rules in
    let is = simp to_z-of_z at c.loop-class.invariant in
    bundling_ends Listing.All c.args.nudge c.args.members.now (items_of c.deref-class-items.result.now) c.loop-class.found.items c.loop-class.class-index is
    (omega (arith, length-map {B = List ℕ} c.deref-class-items.result.now (λ l. l.items), c.loop-class-test.false, c.loop-class.auto.class-index-end)) (classes_here (goal.at.returns c).After-deref-class-items)
