-- To the West and to the North the lesser number is the greater one turned.
use Rattle.std.proofs.Common.{FitsSigned, w64, inl, inr, arith, rules}
use Rattle.std.proofs.lemmas.Int.{ints, clamps}
use Rattle.side_touches.proofs.extent.Extent.end_by.Goals as goal

pub returns-in-West : goal.returns-in-West
returns-in-West c =
    let lo : FitsSigned w64 c.args.self.lo = search rules in
    elim c.in-West.is [ inl e ↦ rw e (omega (arith, ints, clamps)) | inr e ↦ rw e (omega (arith, ints, clamps)) ]
