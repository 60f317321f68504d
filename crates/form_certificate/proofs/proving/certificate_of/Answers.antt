-- Answers at which mutants of this function are refused.
use Rattle.std.proofs.Common.{rules}
use Rattle.form_certificate.proofs.proving.certificate_of.Goals as goal

pub returns : goal.returns
returns c = search rules
