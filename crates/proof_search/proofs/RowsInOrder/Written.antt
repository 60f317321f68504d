-- The rows of a search: what they hold, and in which order.
use Rattle.std.proofs.Common.{
  ◌≡◌,
  ℕ,
  zero,
  suc,
  ◌+◌,
  ◌<◌,
  Bool,
  true,
  false,
  cond,
  if◌then◌else◌,
  Option,
  None,
  Some,
  List,
  [],
  ◌∷◌,
  ◌++◌,
  map,
  filter,
  Contains,
  All,
  AllPairs,
  append_assoc,
  length,
  get_or,
  take,
  refl,
  sym,
  ap,
  subst,
  ◌∙◌,
  inl,
  inr,
  arith,
}
use Rattle.std.specs.Prelude.{IsSome, IsTrue, ◌||◌, is_some}
use Rattle.std.specs.List.{AllByRecursion as Each}
use Rattle.std.proofs.lemmas.Bool.{cases_Bool, cases_lt}
use Rattle.std.proofs.lemmas.List.{append-nil, get_or_default, map-append, take_more}
use Rattle.std.proofs.lemmas.List.Elements.{All-contains, Contains-append_cases, Contains-append_left, Contains-append_right, filter-append, recursion_from_All}
use Rattle.plane_geom.specs.declared.point.Dir.{Dir}
use Rattle.plane_geom.specs.declared.point.Dir.TheVariants.{East, South, West, North}
use Rattle.line_arena.specs.Arena.{Arena, IsArena, StandsAt}
use Rattle.line_arena.proofs.Arenas.ArenaLaws.{one_crossing}
use Rattle.scene_model.proofs.Editing.Entries.{Pairs, pairs_filter, pairs_from, pairs_to}
use Rattle.proof_model.specs.declared.proof.LabelRow.{LabelRow}
use Rattle.proof_model.specs.Labels.{is_before, is_row_of, label_in, label_of}
use Rattle.proof_model.specs.Places.{Place}
use Rattle.proof_model.proofs.LeastLabels.{label_found, place_in}
use Rattle.proof_model.proofs.OneList.{of_place}
use Rattle.proof_search.specs.declared.labels.Labels.{Labels}
use Rattle.proof_search.specs.declared.spots.Spot.{Spot}
use Rattle.proof_search.specs.Rows.{has_label, place_of, row_at, rows_in, rows_upto}
use Rattle.proof_search.specs.Search.{cost_at}
use Rattle.proof_search.specs.Spots.{AreRising, AreSpots, comes_before}
use Rattle.proof_search.proofs.Searching.Least.{standing}

-- ---- lists

each_from : {X : Type 0} (P : X → Type 0) (xs : List X) → ((x : X) → Contains xs x → P x) → Each P xs
each_from P xs all = recursion_from_All P xs (λ k d lt. all (get_or xs k d) (k, lt, get_or_default xs k (get_or xs k d) d lt))

each_append : {X : Type 0} (P : X → Type 0) (xs ys : List X) → Each P xs → Each P ys → Each P (xs ++ ys)
each_append P [] ys e f = f
each_append P (x ∷ xs) ys e f = (e.0, each_append P xs ys e.1 f)

pairs_append : {X : Type 0} (R : X → X → Type 0) (xs ys : List X) → Pairs R xs → Pairs R ys → ((x y : X) → Contains xs x → Contains ys y → R x y)
    → Pairs R (xs ++ ys)
pairs_append R [] ys h g across = g
pairs_append R (x ∷ xs) ys h g across = (
  each_append (R x) xs ys h.0 (each_from (R x) ys (λ y has. across x y (0, omega arith, refl) has)),
  pairs_append R xs ys h.1 g (λ y z first second. across y z (suc first.0, omega (arith, first.1), first.2) second),
)

each_over : {X Y : Type 0} (P : Y → Type 0) (f : X → Y) (xs : List X) → Each (λ x. P (f x)) xs → Each P (map f xs)
each_over P f [] e = tt
each_over P f (x ∷ xs) e = (e.0, each_over P f xs e.1)

pairs_over : {X Y : Type 0} (R : Y → Y → Type 0) (f : X → Y) (xs : List X) → Pairs (λ x y. R (f x) (f y)) xs → Pairs R (map f xs)
pairs_over R f [] h = tt
pairs_over R f (x ∷ xs) h = (each_over (R (f x)) f xs h.0, pairs_over R f xs h.1)

-- where an element of the filtered images comes from
record IsImage {X Y : Type 0} (p : Y → Bool) (f : X → Y) (xs : List X) (y : Y) : Type 0 where
  from : X
  listed : Contains xs from
  image : y ≡ f from
  passes : p y ≡ true

image_later : {X Y : Type 0} (p : Y → Bool) (f : X → Y) (x : X) (xs : List X) (y : Y) → IsImage p f xs y → IsImage p f (x ∷ xs) y
image_later p f x xs y h = record { from = h.from; listed = (suc h.listed.0, omega (arith, h.listed.1), h.listed.2); image = h.image; passes = h.passes }

image_of : {X Y : Type 0} (p : Y → Bool) (f : X → Y) (xs : List X) (y : Y) → Contains (filter p (map f xs)) y → IsImage p f xs y
image_of p f [] y has = absurd (omega (arith, has.1))
image_of p f (x ∷ xs) y has = by_test (p (f x)) refl has (image_of p f xs y)
  where
    by_test : (b : Bool) → b ≡ p (f x) → Contains (cond b (f x ∷ filter p (map f xs)) (filter p (map f xs))) y
        → (Contains (filter p (map f xs)) y → IsImage p f xs y) → IsImage p f (x ∷ xs) y
    by_test true e (zero, lt, is) rest = record { from = x; listed = (0, omega arith, refl); image = sym is; passes = ap p (sym is) ∙ sym e }
    by_test true e (suc k, lt, is) rest = image_later p f x xs y (rest (k, omega (arith, lt), is))
    by_test false e h rest = image_later p f x xs y (rest h)

has_image : {X Y : Type 0} (p : Y → Bool) (f : X → Y) (xs : List X) (x : X) → Contains xs x → p (f x) ≡ true → Contains (filter p (map f xs)) (f x)
has_image p f [] x has passes = absurd (omega (arith, has.1))
has_image p f (y ∷ xs) x (zero, lt, is) passes =
    let same : y ≡ x = is in
    subst (λ z. Contains (filter p (map f (y ∷ xs))) (f z)) same
    (subst (λ b. Contains (cond b (f y ∷ filter p (map f xs)) (filter p (map f xs))) (f y)) (sym (ap (λ z. p (f z)) same ∙ passes)) (0, omega arith, refl))
has_image p f (y ∷ xs) x (suc k, lt, is) passes = later (p (f y)) (has_image p f xs x (k, omega (arith, lt), is) passes)
  where
    later : (b : Bool) → Contains (filter p (map f xs)) (f x) → Contains (cond b (f y ∷ filter p (map f xs)) (filter p (map f xs))) (f x)
    later true h = (suc h.0, omega (arith, h.1), h.2)
    later false h = h

-- ---- rows

-- the label of a row in a heading
pub label_of_row : (l : Labels) (k : ℕ) (s : Spot) (h : Dir) → label_in (row_at l k s) h ≡ cost_at l (place_of k s h)
label_of_row l k s East = refl
label_of_row l k s South = refl
label_of_row l k s West = refl
label_of_row l k s North = refl

-- a row that has a label, in some heading
some_heading : (r : LabelRow) → has_label r ≡ true → (h : Dir) × IsSome (label_in r h)
some_heading r e = by_tests (is_some r.east) (is_some r.south) (is_some r.west) (is_some r.north) refl refl refl refl e
  where
    by_tests : (a b c d : Bool) → a ≡ is_some r.east → b ≡ is_some r.south → c ≡ is_some r.west → d ≡ is_some r.north → (a || (b || (c || d))) ≡ true
        → (h : Dir) × IsSome (label_in r h)
    by_tests true b c d ea eb ec ed all = (East, sym ea)
    by_tests false true c d ea eb ec ed all = (South, sym eb)
    by_tests false false true d ea eb ec ed all = (West, sym ec)
    by_tests false false false d ea eb ec ed all = (North, sym ed ∙ all)

heading_has : (r : LabelRow) (h : Dir) (v : ℕ) → label_in r h ≡ Some v → has_label r ≡ true
heading_has r East v e = ap (λ o. is_some o || (is_some r.south || (is_some r.west || is_some r.north))) e
heading_has r South v e = ap (λ o. is_some r.east || (is_some o || (is_some r.west || is_some r.north))) e ∙ or_true (is_some r.east)
  where
    or_true : (b : Bool) → (b || true) ≡ true
    or_true true = refl
    or_true false = refl
heading_has r West v e = grind (arith, e)
heading_has r North v e = grind (arith, e)

-- where a row comes from
pub record IsRowOfStage (l : Labels) (n : ℕ) (spots : List Spot) (r : LabelRow) : Type 0 where
  pub stage : ℕ
  pub within : stage < n
  pub spot : Spot
  pub listed : Contains spots spot
  pub row : r ≡ row_at l stage spot
  pub labelled : has_label r ≡ true

pub row_comes : (l : Labels) (n : ℕ) (spots : List Spot) (r : LabelRow) → Contains (rows_upto l n spots) r → IsRowOfStage l n spots r
row_comes l zero spots r has = absurd (omega (arith, has.1))
row_comes l (suc n) spots r has = elim (Contains-append_cases (rows_upto l n spots) (rows_in l n spots) r has) as (λ _. IsRowOfStage l (suc n) spots r) [
  | inl before ↦ (let was = row_comes l n spots r before in record {
    stage = was.stage;
    within = omega (arith, was.within);
    spot = was.spot;
    listed =
        was.listed;
    row = was.row;
    labelled = was.labelled;
  })
  | inr here ↦ (
      let is = image_of has_label (row_at l n) spots r here in
      record { stage = n; within = omega arith; spot = is.from; listed = is.listed; row = is.image; labelled = is.passes })
]

pub row_there : (l : Labels) (n : ℕ) (spots : List Spot) (k : ℕ) (s : Spot) → k < n → Contains spots s → has_label (row_at l k s) ≡ true
    → Contains (rows_upto l n spots) (row_at l k s)
row_there l zero spots k s less listed labelled = absurd (omega (arith, less))
row_there l (suc n) spots k s less listed labelled = elim (cases_lt k n) as (λ _. Contains (rows_upto l (suc n) spots) (row_at l k s)) [
  | inl before ↦ Contains-append_left (rows_upto l n spots) (rows_in l n spots) (row_at l k s) (row_there l n spots k s before listed labelled)
  | inr upto ↦ (
      let same : n ≡ k = omega (arith, upto, less) in
      Contains-append_right (rows_upto l n spots) (rows_in l n spots) (row_at l k s)
      (subst (λ j. Contains (rows_in l j spots) (row_at l k s)) (sym same) (has_image has_label (row_at l k) spots s listed labelled)))
]

-- ---- the order of rows

abbrev Before : LabelRow → LabelRow → Type 0
Before a b = IsTrue (is_before a b)

in_stage : (a b : LabelRow) → a.stage ≡ b.stage → comes_before a.at b.at ≡ true → Before a b
in_stage a b same e = grind (arith, same, e)

by_stage : (a b : LabelRow) → a.stage < b.stage → Before a b
by_stage a b less = grind (arith, less)

stage_rises : (l : Labels) (k : ℕ) (spots : List Spot) → AreRising spots → Pairs Before (rows_in l k spots)
stage_rises l k spots rise =
    pairs_filter Before has_label (map (row_at l k) spots)
    (pairs_over Before (row_at l k) spots (pairs_from (λ s t. Before (row_at l k s) (row_at l k t)) spots
    (λ i j d less within. in_stage (row_at l k (get_or spots i d)) (row_at l k (get_or spots j d)) refl (rise i j d less within))))

all_rise : (l : Labels) (n : ℕ) (spots : List Spot) → AreRising spots → Pairs Before (rows_upto l n spots)
all_rise l zero spots rise = tt
all_rise l (suc n) spots rise =
    pairs_append Before (rows_upto l n spots) (rows_in l n spots) (all_rise l n spots rise) (stage_rises l n spots rise)
    (λ a b first second.
    (let was = row_comes l n spots a first in
    let is = image_of has_label (row_at l n) spots b second in
    let sa : a.stage ≡ was.stage = ap (λ (r : LabelRow). r.stage) was.row in
    let sb : b.stage ≡ n = ap (λ (r : LabelRow). r.stage) is.image in
    by_stage a b (omega (arith, sa, sb, was.within))))

pub rows_rise : (l : Labels) (n : ℕ) (spots : List Spot) → AreRising spots → AllPairs (λ a b. IsTrue (is_before a b)) (rows_upto l n spots)
rows_rise l n spots rise = pairs_to Before (rows_upto l n spots) (all_rise l n spots rise)

pub rows_labelled : (l : Labels) (n : ℕ) (spots : List Spot) → All (λ r. (h : Dir) × IsSome (label_in r h)) (rows_upto l n spots)
rows_labelled l n spots k d lt =
    let rows = rows_upto l n spots in
    some_heading (get_or rows k d) (row_comes l n spots (get_or rows k d) (k, lt, get_or_default rows k (get_or rows k d) d lt)).labelled

-- ---- the label of a place

record HasRowOf (rows : List LabelRow) (x : Place) (v : ℕ) : Type 0 where
  row : LabelRow
  listed : Contains rows row
  of : is_row_of row x ≡ true
  label : label_in row x.heading ≡ Some v

row_of_label : (rows : List LabelRow) (x : Place) (v : ℕ) → label_of rows x ≡ Some v → HasRowOf rows x v
row_of_label [] x v e = absurd (let both : ◌≡◌ {A = Option ℕ} None (Some v) = e in cc)
row_of_label (r ∷ rs) x v e = elim (cases_Bool (is_row_of r x)) as (λ _. HasRowOf (r ∷ rs) x v) [
  | inl it ↦ record { row = r; listed = (0, omega arith, refl); of = it; label = sym (ap (λ b. cond b (label_in r x.heading) (label_of rs x)) it) ∙ e }
  | inr other ↦ (
      let h = row_of_label rs x v (sym (ap (λ b. cond b (label_in r x.heading) (label_of rs x)) other) ∙ e) in
      record { row = h.row; listed = (suc h.listed.0, omega (arith, h.listed.1), h.listed.2); of = h.of; label = h.label })
]

module _ (a : Arena) (arena : IsArena a) (l : Labels) (n : ℕ) (spots : List Spot) (are : AreSpots a spots) (x : Place) where
  -- a label of the rows is that of the place on the arena
  pub label_there : (v : ℕ) → label_of (rows_upto l n spots) x ≡ Some v → (c : ℕ) × StandsAt a c x.at × (x.stage < n) × (cost_at l (standing c x) ≡ Some v)
  label_there v e =
      let h = row_of_label (rows_upto l n spots) x v e in
      let from = row_comes l n spots h.row h.listed in
      let s = from.spot in
      let place : place_in (row_at l from.stage s) x.heading ≡ x = ap (λ (r : LabelRow). place_in r x.heading) (sym from.row) ∙ of_place h.row x h.of in
      let stands : StandsAt a s.crossing s.at = All-contains (λ (t : Spot). StandsAt a t.crossing t.at) spots s are.stand from.listed in
      let label : cost_at l (place_of from.stage s x.heading) ≡ Some v = sym (label_of_row l from.stage s x.heading)
      ∙ ap (λ (r : LabelRow). label_in r x.heading) (sym from.row) ∙ h.label in (
        s.crossing,
        subst (λ (y : Place). StandsAt a s.crossing y.at) place stands,
        subst (λ (y : Place). y.stage < n) place from.within,
        subst (λ (y : Place). cost_at l (standing s.crossing y) ≡ Some v) place label,
      )

  -- and the label of the place on the arena is in the rows
  pub there_labelled : (c v : ℕ) → StandsAt a c x.at → x.stage < n → cost_at l (standing c x) ≡ Some v → label_of (rows_upto l n spots) x ≡ Some v
  there_labelled c v here within e =
      let rows = rows_upto l n spots in
      let s : Spot = record { at = x.at; crossing = c } in
      let r = row_at l x.stage s in
      let label : label_in r x.heading ≡ Some v = label_of_row l x.stage s x.heading ∙ e in
      let has = row_there l n spots x.stage s within (are.all c x.at here) (heading_has r x.heading v label) in
      let found = label_found rows (rows_rise l n spots are.rise) has.0 r has.1 x.heading in
      subst (λ (q : LabelRow). label_of rows (place_in q x.heading) ≡ label_in q x.heading) has.2 found ∙ label

  pub one_label : (c : ℕ) → StandsAt a c x.at → x.stage < n → label_of (rows_upto l n spots) x ≡ cost_at l (standing c x)
  one_label c here within = by_cases (label_of (rows_upto l n spots) x) (cost_at l (standing c x)) refl refl
    where
      by_cases : (o p : Option ℕ) → o ≡ label_of (rows_upto l n spots) x → p ≡ cost_at l (standing c x) → o ≡ p
      by_cases None None e f = refl
      by_cases o (Some v) e f = e ∙ there_labelled c v here within (sym f)
      by_cases (Some v) None e f =
          let there = label_there v (sym e) in
          let same : there.0 ≡ c = one_crossing a there.0 c x.at arena there.1 here in
          absurd (let both : ◌≡◌ {A = Option ℕ} None (Some v) = f ∙ sym (ap (λ k. cost_at l (standing k x)) same) ∙ there.3 in cc)

-- ---- one row after another

pub stage_more : (l : Labels) (k : ℕ) (spots : List Spot) (i : ℕ) (s : Spot) → i < length spots → s ≡ get_or spots i s →
    rows_in l k (take (i + 1) spots) ≡ rows_in l k (take i spots) ++ (if has_label (row_at l k s) then row_at l k s ∷ [] else [])
stage_more l k spots i s lt at =
    let cut : take (i + 1) spots ≡ take i spots ++ s ∷ [] = take_more spots i s lt ∙ ap (λ (t : Spot). take i spots ++ t ∷ []) (sym at) in
    ap (rows_in l k) cut ∙ ap (filter has_label) (map-append (row_at l k) (take i spots) (s ∷ []))
    ∙ filter-append has_label (map (row_at l k) (take i spots)) (row_at l k s ∷ [])

module _ (l : Labels) (k : ℕ) (spots : List Spot) (i : ℕ) (s : Spot) (lt : i < length spots) (at : s ≡ get_or spots i s) (row : LabelRow)
    (is : row ≡ row_at l k s) (old now : List LabelRow)
    (so_far : now ≡ old ++ rows_in l k (take i spots)) where
  more : (b : Bool) → has_label row ≡ b → old ++ rows_in l k (take (i + 1) spots) ≡ now ++ (if b then row ∷ [] else [])
  more b e =
      ap (λ rows. old ++ rows) (stage_more l k spots i s lt at)
      ∙ sym (append_assoc old (rows_in l k (take i spots)) (if has_label (row_at l k s) then row_at l k s ∷ [] else []))
      ∙ ap (λ rows. rows ++ (if has_label (row_at l k s) then row_at l k s ∷ [] else [])) (sym so_far)
      ∙ ap (λ (r : LabelRow). now ++ (if has_label r then r ∷ [] else [])) (sym is)
      ∙ ap (λ c. now ++ (if c then row ∷ [] else [])) e

  pub row_comes_in : has_label row ≡ true → (new : List LabelRow) → new ≡ now ++ row ∷ [] → new ≡ old ++ rows_in l k (take (i + 1) spots)
  row_comes_in e new pushed = pushed ∙ sym (more true e)

  pub row_left_out : has_label row ≡ false → now ≡ old ++ rows_in l k (take (i + 1) spots)
  row_left_out e = sym (append-nil now) ∙ sym (more false e)
