-- What is found of an origin among the first entries.
use Rattle.std.proofs.Common.{◌≡◌, ℕ, ◌+◌, ◌<◌, List, All, Option, Some, None, length, get_or, take, ap, subst, ◌∙◌}
use Rattle.std.specs.Prelude.{IfSome}
use Rattle.std.proofs.lemmas.List.Elements.{All-more}
use Rattle.plane_geom.specs.declared.point.Dir.{Dir}
use Rattle.search_problem.specs.Origins.{Covers, IsOrigin}
use Rattle.search_problem.specs.declared.ends.Entry.{Entry}
use Rattle.search_problem.specs.declared.origin.Origin.{Origin}

-- the origin is one of all entries in its direction
pub record IsOriginOf (o : Origin) (dir : Dir) (entries : List Entry) : Type 0 where
  pub origin : IsOrigin o
  pub same : o.dir ≡ dir
  pub covers : All (λ e. e.place.heading ≡ dir → Covers o e) entries

-- there is an origin of the entries in the direction, or no entry leads there
abbrev pub IsFound : Option Origin → Dir → List Entry → Type 0
IsFound None dir entries = All (λ e. e.place.heading ≡ dir → ⊥) entries
IsFound (Some o) dir entries = IsOriginOf o dir entries

module _ (dir : Dir) (es : List Entry) (i : ℕ) (e : Entry) (lt : i < length es) (is : e ≡ get_or es i e) where
  -- an entry that leads elsewhere changes nothing
  pub found_same : (found : Option Origin) → (e.place.heading ≡ dir → ⊥) → IsFound found dir (take i es) → IsFound found dir (take (i + 1) es)
  found_same None other none = All-more (λ (k : Entry). k.place.heading ≡ dir → ⊥) es i e lt none (λ same. other (ap (λ (k : Entry). k.place.heading) is ∙ same))
  found_same (Some o) other f = record {
    origin = f.origin;
    same = f.same;
    covers = All-more (λ (k : Entry). k.place.heading ≡ dir → Covers o k) es i e lt f.covers (λ same. absurd (other (ap (λ (k : Entry). k.place.heading) is ∙ same)));
  }

  -- one that leads there is joined
  pub found_joined : (found : Option Origin) (o : Origin) → IsFound found dir (take i es) → IsOrigin o → o.dir ≡ dir → Covers o e → IfSome found (λ q. (k : Entry) → Covers q k → Covers o k)
      → IsOriginOf o dir (take (i + 1) es)
  found_joined None o none origin same covers others = record {
    origin = origin;
    same = same;
    covers = All-more (λ (k : Entry). k.place.heading ≡ dir → Covers o k) es i e lt (λ k d less h. absurd (none k d less h)) (λ _. subst (Covers o) is covers);
  }
  found_joined (Some q) o f origin same covers others = record {
    origin = origin;
    same = same;
    covers = All-more (λ (k : Entry). k.place.heading ≡ dir → Covers o k) es i e lt (λ k d less h. others (get_or (take i es) k d) (f.covers k d less h)) (λ _. subst (Covers o) is covers);
  }
