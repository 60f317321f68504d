-- Each list of runs has its bundle, with all links as rules.
use Rattle.std.proofs.Common.{◌≡◌, ℕ, zero, suc, ◌<◌, ◌≤◌, ◌^◌, ℤ, List, [], ◌∷◌, map, length, get_or, refl, ap, arith}
use Rattle.std.specs.Prelude.{All, Vec}
use Rattle.separation_model.specs.Arena.{Arena}
use Rattle.std.proofs.lemmas.List.{length-map}
use denote.RawPtr.{null_ptr}
use Rattle.segment_order.specs.declared.run.Run.{Run}
use Rattle.separation_model.specs.Bundle.{most_items}
use Rattle.channel_bundles.specs.declared.member.Member.{Member}
use Rattle.channel_bundles.specs.declared.channel.RunBundle.{RunBundle}
use Rattle.channel_bundles.specs.Links.{item_of, rules_after}
use Rattle.channel_bundles.specs.Bundles.{IsBundleOf, members_at}
use Rattle.channel_bundles.proofs.Ordered.{few_rules_after}

-- an arena in which nothing is yet
abbrev pub some_arena : Arena
some_arena = record {
  ref_ptr = (0, 0);
  now = record {
    alloc = record { memory = record { seal = tt } };
    current = (record { life = 0; tally = 0; chunks = 0 }, record { memory = record { seal = tt } });
    life = record { epoch = record { life = 0; tally = 0; chunks = 0 } };
    allocation_limit = record { value = tt };
    tied = (refl, refl);
  };
}

-- a `Vec` with the elements of the list
abbrev pub vec_of : {X : Type 0} (xs : List X) → length xs < 2 ^ 63 → Vec X Arena
vec_of xs few = record { ptr = null_ptr; len = length xs; cap = length xs; alloc = some_arena; items = xs; ok = (refl, omega arith); small = few }

pub whole_bundle : (nudge : ℤ) (ms : List Member) → length ms ≤ most_items → (b : RunBundle) × IsBundleOf nudge ms b
whole_bundle nudge ms few = (
  record {
    bundle = record {
      items = vec_of (map item_of ms) (omega (arith, few, length-map ms item_of));
      rules = vec_of (rules_after nudge 0 ms) (few_rules_after nudge ms few);
      wanted = nudge;
    };
    runs = vec_of (map (λ m. m.run) ms) (omega (arith, few, length-map {B = Run} ms (λ m. m.run)));
  },
  record { items = refl; rules = refl; wanted = refl; runs = refl },
)

-- each class of a list has its bundle in the other
abbrev pub HaveBundles : ℤ → List Member → List (List ℕ) → List RunBundle → Type 0
HaveBundles nudge members classes found = (k : ℕ) (d : RunBundle) → k < length classes → IsBundleOf nudge (members_at members (get_or classes k [])) (get_or found k d)

one_more : (nudge : ℤ) (members : List Member) (places : List ℕ) (classes : List (List ℕ)) (b : RunBundle) (found : List RunBundle) → IsBundleOf nudge (members_at members places) b → HaveBundles nudge members classes found →
    HaveBundles nudge members (places ∷ classes) (b ∷ found)
one_more nudge members places classes b found is more zero d h = is
one_more nudge members places classes b found is more (suc k) d h = more k d (omega (arith, h))

pub whole_bundles : (nudge : ℤ) (members : List Member) (classes : List (List ℕ)) → All (λ places. length (members_at members places) ≤ most_items) classes →
    (found : List RunBundle) × (length found ≡ length classes) × HaveBundles nudge members classes found
whole_bundles nudge members [] few = ([], refl, λ k d h. absurd (omega (arith, h)))
whole_bundles nudge members (places ∷ classes) few =
    let b = whole_bundle nudge (members_at members places) (few 0 places (omega arith)) in
    let more = whole_bundles nudge members classes (λ k d h. few (suc k) d (omega (arith, h))) in
    (b.0 ∷ more.0, ap suc more.1, one_more nudge members places classes b.0 more.0 b.1 more.2)
