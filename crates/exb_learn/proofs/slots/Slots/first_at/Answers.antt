use Rattle.std.proofs.Common.{sym, ap, ◌∙◌}
use Rattle.exb_learn.specs.RingLinks.{first_of, links_of}
use Rattle.exb_learn.specs.Stations.{is_elsewhere, AllPass}
use Rattle.exb_learn.specs.EntryRings.{IsSeenAt}
use Rattle.exb_learn.proofs.StationRings.{is_seen_at, none_at, if_some, if_none}
use Rattle.exb_learn.proofs.slots.Slots.first_at.Goals as goal

pub returns-clause-some : goal.returns-clause-some
returns-clause-some c = λ es n h. if_some c.first.result (λ slot. IsSeenAt es c.args.port slot) (λ slot is.
    is_seen_at es n c.args.self.now.ages c.args.self.now.ports h c.args.port slot c.number.ensures.range
    (sym (c.first.ensures ∙ ap (λ r. first_of c.args.self.now.ports.heads (links_of c.args.self.now.ports) r) (c.from.ensures ∙ c.number.ensures.value)) ∙ is))

pub returns-clause-none : goal.returns-clause-none
returns-clause-none c = λ es n h. if_none c.first.result (AllPass (is_elsewhere c.args.port) es) (λ is.
    none_at es n c.args.self.now.ages c.args.self.now.ports h c.args.port
    (sym (c.first.ensures ∙ ap (λ r. first_of c.args.self.now.ports.heads (links_of c.args.self.now.ports) r) (c.from.ensures ∙ c.number.ensures.value)) ∙ is))
