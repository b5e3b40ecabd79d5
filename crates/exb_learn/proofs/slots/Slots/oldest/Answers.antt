use Rattle.std.proofs.Common.{◌≡◌, sym, ◌∙◌, []}
use Rattle.exb_learn.specs.EntryRings.{IsOldest}
use Rattle.exb_learn.proofs.StationRings.{is_oldest, no_oldest, if_some, if_none}
use Rattle.exb_learn.proofs.slots.Slots.oldest.Goals as goal

pub returns-clause-some : goal.returns-clause-some
returns-clause-some c = λ es n h. if_some c.first.result (λ slot. IsOldest es slot) (λ slot is. is_oldest es n c.args.self.now.ages c.args.self.now.ports h slot (sym c.first.ensures ∙ is))

pub returns-clause-none : goal.returns-clause-none
returns-clause-none c = λ es n h. if_none c.first.result (es ≡ []) (λ is. no_oldest es n c.args.self.now.ages c.args.self.now.ports h (sym c.first.ensures ∙ is))
