use Rattle.exb_timeline.proofs.NetIds.{agenda_stays, all_kept, all_more, all_read}
use Rattle.exb_timeline.proofs.laws.agendas_stay.Goals as goal

pub returns : goal.returns
returns c =
    record {
      reads = (
          λ ids a is. all_read ids a.seats.items is.each);
      stays = agenda_stays;
      told = (
          λ file files given ids. all_kept given ids file files);
      more = all_more;
    }
