-- What is said of a certificate.
use Rattle.std.specs.Prelude.{ℕ, List, ◌++◌, codes, decimal}
use Rattle.report_text.specs.Lines.{line}

-- it proves its scene
abbrev pub audit_yes_line : List ℕ
audit_yes_line = line (codes "audit: yes")

-- this is the first line at which the file is not a certificate
abbrev pub audit_line_line : ℕ → List ℕ
audit_line_line number = line (codes "audit: no, line " ++ decimal number)

-- this rule fails of this edge
abbrev pub audit_rule_line : ℕ → ℕ → List ℕ
audit_rule_line edge rule = line (codes "audit: no, edge " ++ decimal edge ++ codes " rule " ++ decimal rule)
