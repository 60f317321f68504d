-- What lies between two checkpoints that are passed one after another may be replaced.
use Rattle.std.proofs.Common.{◌≡◌, ◌⊎◌, suc, None, List, [], ◌∷◌, ◌++◌, Contains, refl, sym, ap, subst, ◌∙◌, inl, inr, arith, append_assoc, append-nil}
use Rattle.plane_geom.specs.declared.point.Point.{Point}
use Rattle.plane_geom.specs.declared.point.Dir.{Dir}
use Rattle.plane_geom.specs.declared.rect.Solid.{Solid}
use Rattle.walk_model.specs.declared.task.Task.{Task}
use Rattle.walk_model.specs.Walk.{after}
use Rattle.walk_model.specs.Choice.{IsChoice}
use Rattle.walk_model.specs.Order.{Triple, IsLegalTriple}
use Rattle.walk_model.proofs.CornerByCorner.Scan.{after-append}
use Rattle.walk_laws.specs.Shifts.{with_steps}
use Rattle.walk_laws.proofs.Steps.Clear.{IsClear, ComesBy, clear-append, clear_front, clear_back}
use Rattle.walk_laws.proofs.Replacing.Tours.{IsTour, stub, stub_back, to_port, legal_from_tour}
use Rattle.walk_laws.proofs.Replacing.Parts.{IsPart}

-- of two ways to cut a list, where an element of the one lies in the other
pub data Cut (xs : List Dir) (d : Dir) (ys ps qs : List Dir) : Type 0 where
  in_front : (zs : List Dir) → ps ≡ xs ++ d ∷ zs → ys ≡ zs ++ qs → Cut xs d ys ps qs
  behind : (zs : List Dir) → xs ≡ ps ++ zs → qs ≡ zs ++ d ∷ ys → Cut xs d ys ps qs

pub cut : (xs : List Dir) (d : Dir) (ys ps qs : List Dir) → xs ++ d ∷ ys ≡ ps ++ qs → Cut xs d ys ps qs
cut xs d ys [] qs e = behind xs refl (sym e)
cut [] d ys (p ∷ ps) qs e = in_front ps (let same : p ≡ d = cc in ap (λ (f : Dir). f ∷ ps) same) (let rest : ys ≡ ps ++ qs = cc in rest)
cut (x ∷ xs) d ys (p ∷ ps) qs e = more (cut xs d ys ps qs (let rest : xs ++ d ∷ ys ≡ ps ++ qs = cc in rest))
  where
    same : x ≡ p
    same = cc

    more : Cut xs d ys ps qs → Cut (x ∷ xs) d ys (p ∷ ps) qs
    more (in_front zs f g) = in_front zs (ap (λ (y : Dir). y ∷ ps) (sym same) ∙ ap (λ ds. x ∷ ds) f) g
    more (behind zs f g) = behind zs (ap (λ (y : Dir). y ∷ xs) same ∙ ap (λ ds. p ∷ ds) f) g

-- a step lies between two checkpoints that are passed one after another, or an end of the steps and a checkpoint
pub record Leg (p : Point) (via : List Point) (xs : List Dir) (d : Dir) (ys : List Dir) : Type 0 where
  pub front : List Dir
  pub before : List Dir
  pub behind : List Dir
  pub back : List Dir
  pub first : xs ≡ front ++ before
  pub last : ys ≡ behind ++ back
  pub begins : (front ≡ []) ⊎ Contains via (after p front)
  pub ends : (back ≡ []) ⊎ Contains via (after (after p front) (before ++ d ∷ behind))
  -- between these two points other steps pass the checkpoints as well
  pub swap : (other : List Dir) → after (after p front) other ≡ after (after p front) (before ++ d ∷ behind) → ComesBy p (front ++ (other ++ back)) via

contains_more : (c q : Point) (cs : List Point) → Contains cs q → Contains (c ∷ cs) q
contains_more c q cs h = (suc h.0, omega (arith, h.1), h.2)

contains_first : (c q : Point) (cs : List Point) → q ≡ c → Contains (c ∷ cs) q
contains_first c q cs e = (0, omega arith, sym e)

pub leg_of : (p : Point) (via : List Point) (middle xs : List Dir) (d : Dir) (ys : List Dir) → ComesBy p middle via → middle ≡ xs ++ d ∷ ys → Leg p via xs d ys
leg_of p [] middle xs d ys h e = record {
  front = [];
  before = xs;
  behind = ys;
  back = [];
  first = refl;
  last = sym (append-nil ys);
  begins = inl refl;
  ends = inl refl;
  swap = λ other same. tt;
}
leg_of p (c ∷ cs) middle xs d ys (ps, qs, whole, there, rest) e = by_cut (λ zs g. leg_of c cs qs zs d ys rest g) (cut xs d ys ps qs (sym e ∙ whole))
  where
    by_cut : ((zs : List Dir) → qs ≡ zs ++ d ∷ ys → Leg c cs zs d ys) → Cut xs d ys ps qs → Leg p (c ∷ cs) xs d ys
    by_cut further (in_front zs f g) = record {
      front = [];
      before = xs;
      behind = zs;
      back = qs;
      first = refl;
      last = g;
      begins = inl refl;
      ends = inr (contains_first c (after p (xs ++ d ∷ zs)) cs (sym (ap (after p) f) ∙ there));
      swap = λ other same. (other, qs, refl, same ∙ sym (ap (after p) f) ∙ there, rest);
    }
    by_cut further (behind zs f g) =
        let leg = further zs g in
        let moved : (ds : List Dir) → after p (ps ++ ds) ≡ after c ds = λ ds. after-append p ps ds ∙ ap (λ x. after x ds) there in
        record {
          front = ps ++ leg.front;
          before = leg.before;
          behind = leg.behind;
          back = leg.back;
          first = f ∙ ap (λ ds. ps ++ ds) leg.first ∙ sym (append_assoc ps leg.front leg.before);
          last = leg.last;
          begins = elim leg.begins as (λ _. (ps ++ leg.front ≡ []) ⊎ Contains (c ∷ cs) (after p (ps ++ leg.front))) [
            | inl none ↦ inr (contains_first c (after p (ps ++ leg.front)) cs (moved leg.front ∙ ap (after c) none))
            | inr some ↦ inr (contains_more c (after p (ps ++ leg.front)) cs (subst (Contains cs) (sym (moved leg.front)) some))
          ];
          ends = elim leg.ends as (λ _. (leg.back ≡ []) ⊎ Contains (c ∷ cs) (after (after p (ps ++ leg.front)) (leg.before ++ d ∷ leg.behind))) [
            | inl none ↦ inl none
            | inr some ↦ inr (contains_more c (after (after p (ps ++ leg.front)) (leg.before ++ d ∷ leg.behind)) cs
                (subst (λ x. Contains cs (after x (leg.before ++ d ∷ leg.behind))) (sym (moved leg.front)) some))
          ];
          swap = λ other same. (
            ps,
            leg.front ++ (other ++ leg.back),
            append_assoc ps leg.front (other ++ leg.back),
            there,
            leg.swap other (ap (λ x. after x other) (sym (moved leg.front)) ∙ same ∙ ap (λ x. after x (leg.before ++ d ∷ leg.behind)) (moved leg.front)),
          );
        }

-- a part of the tour whose steps serve no checkpoint may be replaced
module _ (solids : List Solid) (task : Task) (t : Triple) (l : IsLegalTriple solids task t) (hs : IsChoice l.start) (he : IsChoice l.end) (middle : List Dir)
    (tour : IsTour solids task.via l.start t.walk l.end middle) where
  -- where a part of the tour begins
  pub part_begin : (front : List Dir) → after t.walk.start (stub l.start ++ front) ≡ after l.start.port front
  part_begin front = after-append t.walk.start (stub l.start) front ∙ ap (λ x. after x front) (ap (λ x. after x (stub l.start)) tour.start ∙ to_port l.start hs)

  pub tour_part : (front part back : List Dir) → middle ≡ front ++ (part ++ back) →
      ((other : List Dir) → after (after l.start.port front) other ≡ after (after l.start.port front) part → ComesBy l.start.port (front ++ (other ++ back)) task.via) →
      IsPart solids task t (stub l.start ++ front) part (back ++ stub_back l.end)
  tour_part front part back cut comes =
      let p = l.start.port in
      let q = after p front in
      let around : (other : List Dir) → stub l.start ++ ((front ++ (other ++ back)) ++ stub_back l.end) ≡ (stub l.start ++ front) ++ (other ++ (back ++ stub_back l.end)) =
      λ other. ap (λ ds. stub l.start ++ ds) (append_assoc front (other ++ back) (stub_back l.end) ∙ ap (λ ds. front ++ ds) (append_assoc other back (stub_back l.end)))
      ∙ sym (append_assoc (stub l.start) front (other ++ (back ++ stub_back l.end))) in
      let inner : IsClear solids None p (front ++ (part ++ back)) = subst (IsClear solids None p) cut tour.clear in
      let rest : IsClear solids None q (part ++ back) = clear_back solids None p front (part ++ back) inner in
      record {
        steps = tour.steps ∙ ap (λ ds. stub l.start ++ (ds ++ stub_back l.end)) cut ∙ around part;
        clear = subst (λ x. IsClear solids None x part) (sym (part_begin front)) (clear_front solids None q part back rest);
        swap = λ other same clear.
            let same' : after q other ≡ after q part = ap (λ x. after x other) (sym (part_begin front)) ∙ same ∙ ap (λ x. after x part) (part_begin front) in
            let tail : IsClear solids None (after q other) back = subst (λ x. IsClear solids None x back) (sym same') (clear_back solids None q part back rest) in
            let there : (ds : List Dir) → after p (front ++ (ds ++ back)) ≡ after (after q ds) back = λ ds. after-append p front (ds ++ back) ∙ after-append q ds back in
            record {
              start = l.start;
              end = l.end;
              is_start = l.is_start;
              is_end = l.is_end;
              legal = legal_from_tour solids task.via l.start (with_steps t ((stub l.start ++ front) ++ (other ++ (back ++ stub_back l.end)))).walk l.end hs he (front ++ (other ++ back)) (record {
                start = tour.start;
                steps = sym (around other);
                start_stub = tour.start_stub;
                clear = clear-append solids None p front (other ++ back) (clear_front solids None p front (part ++ back) inner)
                    (clear-append solids None q other back (subst (λ x. IsClear solids None x other) (part_begin front) clear) tail);
                reaches = there other ∙ ap (λ x. after x back) same' ∙ sym (there part) ∙ ap (after p) (sym cut) ∙ tour.reaches;
                end_stub = tour.end_stub;
                comes = comes other same';
              });
            };
      }

  -- a leg is such a part
  pub leg_part : (xs : List Dir) (d : Dir) (ys : List Dir) → middle ≡ xs ++ d ∷ ys → (leg : Leg l.start.port task.via xs d ys) →
      IsPart solids task t (stub l.start ++ leg.front) (leg.before ++ d ∷ leg.behind) (leg.back ++ stub_back l.end)
  leg_part xs d ys cut leg = tour_part leg.front (leg.before ++ d ∷ leg.behind) leg.back
      (cut ∙ ap (λ ds. ds ++ d ∷ ys) leg.first ∙ append_assoc leg.front leg.before (d ∷ ys) ∙ ap (λ ds. leg.front ++ (leg.before ++ d ∷ ds)) leg.last
      ∙ ap (λ ds. leg.front ++ ds) (sym (append_assoc leg.before (d ∷ leg.behind) leg.back)))
      leg.swap

-- checkpoints passed by the first steps and by those after them
comes_later : (p : Point) (xs ys : List Dir) (cs : List Point) → ComesBy (after p xs) ys cs → ComesBy p (xs ++ ys) cs
comes_later p xs ys [] h = tt
comes_later p xs ys (c ∷ cs) h = (xs ++ h.0, h.1, ap (λ ds. xs ++ ds) h.2 ∙ sym (append_assoc xs h.0 h.1), after-append p xs h.0 ∙ h.3, h.4)

pub comes-append : (p : Point) (xs ys : List Dir) (cs ds : List Point) → ComesBy p xs cs → ComesBy (after p xs) ys ds → ComesBy p (xs ++ ys) (cs ++ ds)
comes-append p xs ys [] ds h k = comes_later p xs ys ds k
comes-append p xs ys (c ∷ cs) ds h k = (
  h.0,
  h.1 ++ ys,
  ap (λ zs. zs ++ ys) h.2 ∙ append_assoc h.0 h.1 ys,
  h.3,
  comes-append c h.1 ys cs ds h.4 (subst (λ x. ComesBy x ys ds) (ap (after p) h.2 ∙ after-append p h.0 h.1 ∙ ap (λ x. after x h.1) h.3) k),
)

-- what lies between the last of some checkpoints and the first of the others serves no checkpoint
pub comes_around : (p : Point) (front part back : List Dir) (cs ds : List Point) → ComesBy p front cs → ComesBy (after (after p front) part) back ds →
    (other : List Dir) → after (after p front) other ≡ after (after p front) part → ComesBy p (front ++ (other ++ back)) (cs ++ ds)
comes_around p front part back cs ds h k other same =
    comes-append p front (other ++ back) cs ds h (comes_later (after p front) other back ds (subst (λ x. ComesBy x back ds) (sym same) k))
