use Rattle.std.proofs.Common.{sym, ap, ◌∙◌, arith}
use Rattle.std.specs.Map.{keys_of}
use Rattle.indexmap.specs.IndexMap.{set_value_at}
use Rattle.indexmap.specs.Layout.{length-set_value_at}
use Rattle.exb_learn.specs.Stations.{same}
use Rattle.exb_learn.proofs.Lookups.{put_over, put_behind, position_some}
use Rattle.exb_learn.proofs.StoreCalls.{once_over}
use Rattle.exb_learn.proofs.entries.put_place.Goals as goal

pub returns-in-Some-clause-entries : goal.returns-in-Some-clause-entries
returns-in-Some-clause-entries c =
    let es = c.args.places.now.entries in
    ap (λ i. set_value_at es i c.args.place.now) (position_some (same c.args.station) (keys_of es) c.in-Some.slot (sym c.in-Some.ensures.index))
    ∙ sym (put_over c.args.station c.in-Some.known.now c.args.place.now es (sym c.in-Some.ensures.value)).entries

pub returns-in-Some-clause-unique : goal.returns-in-Some-clause-unique
returns-in-Some-clause-unique c = once_over c.args.places.now.entries c.in-Some.slot c.args.place.now c.requires.unique

pub returns-in-Some-clause-len : goal.returns-in-Some-clause-len
returns-in-Some-clause-len c = let same_length = length-set_value_at c.args.places.now.entries c.in-Some.slot c.args.place.now in omega (arith, same_length)

pub returns-in-None-clause-slot : goal.returns-in-None-clause-slot
returns-in-None-clause-slot c = c.len-slot.ensures.len ∙ sym (put_behind c.args.station c.args.place.now c.args.places.now.entries (sym c.in-None.ensures.value)).last
