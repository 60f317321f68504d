-- What is found of the edges so far, and the faults of the lines that are left.
use Rattle.std.proofs.Common.{◌≡◌, take, drop}
use Rattle.std.specs.List.{AllZip}
use Rattle.gml_text.specs.View.{tree}
use Rattle.form_check.specs.Checks.{IsFinding, first_line_fault}
use Rattle.form_check.proofs.checking.findings_of.Given as goal

abbrev pub invariant-loop-edge : goal.invariant-loop-edge
invariant-loop-edge l = record {
  found : AllZip (IsFinding (tree l.doc) l.scene) (take l.edge-index l.scene.edges) l.findings.items;
  later : first_line_fault (tree l.doc) l.scene.edges ≡ first_line_fault (tree l.doc) (drop l.edge-index l.scene.edges);
}
