-- One exchange more; in the end the list is the other one, at the places and elsewhere.
use Rattle.std.proofs.Common.{◌≡◌, ◌≢◌, ℕ, ◌+◌, ◌<◌, ◌≤◌, inl, inr, List, length, get_or, set, refl, sym, ap, ◌∙◌, arith}
use Rattle.std.proofs.lemmas.List.{get_or_default, get_or-set_other, length-set, same_lists}
use Rattle.walk_model.specs.declared.route.Answer.{Answer}
use Rattle.route_book.proofs.Exchanging.{IsApart, IsAmong, apart_or_among, before_apart, one_more, one_out}
use Rattle.route_book.proofs.exchange.exchange.Goals as goal

pub loop-k-preserved : goal.loop-k-preserved
loop-k-preserved c =
    let here : List Answer = c.args.items.now in
    let given : List Answer = c.args.away.now in
    let places : List ℕ = c.args.places.now in
    let items : List Answer = c.loop-k.items in
    let away : List Answer = c.loop-k.away in
    let k : ℕ = c.loop-k.k in
    let p : ℕ = get_or places k 0 in
    let x : Answer = c.swap.new.x in
    let y : Answer = c.swap.new.y in
    let kept = c.loop-k.invariant in
    let lt : k < length places = c.loop-k-test.true in
    let in_here : p < length here = c.requires.within k lt in
    let same_items : length items ≡ length here = kept.same_length in
    let in_items : p < length items = omega (arith, in_here, same_items) in
    let many : length given ≡ length places = c.requires.many in
    let in_given : k < length given = omega (arith, lt, many) in
    let same_away : length away ≡ length given = kept.many in
    let in_away : k < length away = omega (arith, in_given, same_away) in
    let apart : IsApart places p k = before_apart places k c.requires.rising lt in
    let x_is : x ≡ get_or away k x = (let a = c.index-away-k.result in c.swap.ensures.x_after ∙ get_or_default away k a x in_away) in
    let y_is : y ≡ get_or items p y = (let b = c.index-items-places.result in c.swap.ensures.y_after ∙ get_or_default items p b y in_items) in
    let x_new : (d : Answer) → x ≡ get_or given k d = λ d. x_is ∙ kept.rest k x (omega arith) ∙ get_or_default given k x d in_given in
    let y_new : (d : Answer) → y ≡ get_or here p d = λ d. y_is ∙ kept.kept p y apart ∙ get_or_default here p y d in_here in
    record {
      same_length = length-set items p x ∙ same_items;
      many = length-set away k y ∙ same_away;
      done = one_more items given places k x apart in_items kept.done x_new;
      kept = λ i d none. get_or-set_other items p i x d (λ e. none k (omega arith) (sym e)) ∙ kept.kept i d (λ j l. none j (omega (arith, l)));
      out = one_out away here places k y in_away kept.out y_new;
      rest = λ j d l. get_or-set_other away k j y d (λ e. absurd (omega (arith, l, e))) ∙ kept.rest j d (omega (arith, l));
    }

pub returns-clause-items : goal.returns-clause-items
returns-clause-items c =
    let here : List Answer = c.args.items.now in
    let there : List Answer = c.args._there.now.value in
    let given : List Answer = c.args.away.now in
    let places : List ℕ = c.args.places.now in
    let items : List Answer = c.loop-k.items in
    let n : ℕ = length places in
    let kept = c.loop-k.invariant in
    let all : n ≤ c.loop-k.k = c.loop-k-test.false in
    let end : c.loop-k.k ≤ n = c.loop-k.auto.k-end in
    let is : c.loop-k.k ≡ n = omega (arith, all, end) in
    same_lists items there (kept.same_length ∙ sym c.requires.same_length) (λ i d l.
    elim (apart_or_among places i n) as (λ _. get_or items i d ≡ get_or there i d) [
      | inl none ↦ kept.kept i d (λ j m. none j (omega (arith, m, is))) ∙ sym (c.requires.others i d none)
      | inr h ↦
          let less = h.1 in
          ap (λ m. get_or items m d) (sym h.2) ∙ kept.done h.0 d (omega (arith, less, is)) ∙ sym (c.requires.at h.0 d h.1) ∙ ap (λ m. get_or there m d) h.2
    ])
