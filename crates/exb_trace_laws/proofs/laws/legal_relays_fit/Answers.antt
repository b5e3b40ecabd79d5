use Rattle.exb_trace_laws.proofs.HistoryMoments.{legal_relays_fit}
use Rattle.exb_trace_laws.proofs.laws.legal_relays_fit.Goals as goal

pub returns : goal.returns
returns c = legal_relays_fit
