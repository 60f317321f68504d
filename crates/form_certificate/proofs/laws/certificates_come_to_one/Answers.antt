-- The laws of certificates.
use Rattle.form_certificate.proofs.OneAnswer.{one_audit, one_certificate}
use Rattle.form_certificate.proofs.laws.certificates_come_to_one.Goals as goal

pub returns-clause-certificate : goal.returns-clause-certificate
returns-clause-certificate c = one_certificate c.one_answer.ensures c.least_labels_prove.ensures.one

pub returns-clause-audit : goal.returns-clause-audit
returns-clause-audit c =
    one_audit c.read_once.ensures.one_list c.read_once.ensures.not_both c.read_once.ensures.one_line c.one_audit.ensures.never_both c.one_audit.ensures.one
