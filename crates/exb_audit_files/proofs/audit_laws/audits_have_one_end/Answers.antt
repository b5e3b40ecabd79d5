use Rattle.exb_audit_files.proofs.UniqueEnd.{legal_not, stops_once}
use Rattle.exb_audit_files.proofs.audit_laws.audits_have_one_end.Goals as goal

pub returns : goal.returns
returns c = record { once = stops_once; legal = legal_not }
