-- The summary of a replay on a generated scene.
use Rattle.std.specs.Prelude.{ℕ, List, [], ◌∷◌, ◌++◌, codes, decimal}
use Rattle.fixed_milli.specs.Milli.{size_text}
use Rattle.form_make.specs.declared.summary.Summary.{Summary}

-- a line of a name and a text
abbrev pub summary_line : List ℕ → List ℕ → List ℕ
summary_line name text = name ++ codes " " ++ text ++ 10 ∷ []

-- the seven lines
abbrev pub summary_text : Summary → List ℕ
summary_text s =
    summary_line (codes "nodes") (decimal 36) ++ summary_line (codes "edges") (decimal 48)
    ++ summary_line (codes "routed") (decimal s.routed) ++ summary_line (codes "no route") (decimal s.unrouted)
    ++ summary_line (codes "cost") (size_text s.cost) ++ summary_line (codes "bends") (decimal s.bends)
    ++ summary_line (codes "searched") (decimal s.searched)
