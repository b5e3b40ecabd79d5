use Rattle.std.proofs.Common.{◌≡◌, ℕ, Some, None, true, false, sym, ◌∙◌, ap}
use Rattle.exb_model.specs.Learning.{passes, passes_as}
use Rattle.exb_config.specs.Tables.{bridge_of}
use Rattle.exb_learn.specs.Entries.{look_of}
use Rattle.exb_relay.specs.Spaces.{numbers_of}
use Rattle.exb_relay.specs.Sends.{sends_in}
use Rattle.exb_relay.specs.SendsBySource.{is_let_in}
use Rattle.exb_relay.proofs.IngressSteps.{passes_none, passes_by}
use Rattle.exb_relay.proofs.PortSends.{sends_from}
use Rattle.exb_relay.proofs.forwarding.relay.Goals as goal

pub returns-in_default-clause-sends : goal.returns-in_default-clause-sends
returns-in_default-clause-sends c =
    let b = bridge_of c.args.config.now in
    let p = c.args.port in
    let pass : passes b p c.args.frame.now ≡ None = ap (passes_as b p) (sym c.classify-seen.ensures.kind) ∙ passes_none b p c.classify-seen.result (sym c.claimed.ensures ∙ c.in_default.is) in
    c.clear.ensures ∙ sends_from c.args.tree.now b (look_of c.args.learned.now) (numbers_of c.args.spaces.now) p c.args.frame.now None pass

pub returns-in_default-admit-clause-sends : goal.returns-in_default-admit-clause-sends
returns-in_default-admit-clause-sends c =
    let b = bridge_of c.args.config.now in
    let p = c.args.port in
    let v = c.in-Some.vid in
    let out : is_let_in b p v ≡ false = sym c.in_default-admit.ensures.admitted in
    let pass : passes b p c.args.frame.now ≡ None = ap (passes_as b p) (sym c.classify-seen.ensures.kind) ∙ passes_by b p c.classify-seen.result v false (sym c.claimed.ensures ∙ c.in-Some.is) out in
    c.clear.ensures ∙ sends_from c.args.tree.now b (look_of c.args.learned.now) (numbers_of c.args.spaces.now) p c.args.frame.now None pass

pub returns-clause-sends : goal.returns-clause-sends
returns-clause-sends c =
    let b = bridge_of c.args.config.now in
    let p = c.args.port in
    let v = c.in-Some.vid in
    let let_in : is_let_in b p v ≡ true = sym c.in-Some-admit.ensures.admitted in
    let pass : passes b p c.args.frame.now ≡ Some v = ap (passes_as b p) (sym c.classify-seen.ensures.kind) ∙ passes_by b p c.classify-seen.result v true (sym c.claimed.ensures ∙ c.in-Some.is) let_in in
    c.send_all.ensures ∙
    (ap (λ (x : ℕ). sends_in c.args.tree.now b (look_of c.args.learned.now) (numbers_of c.args.spaces.now) x c.args.frame.now (Some v)) c.source_of.ensures.port ∙
    sends_from c.args.tree.now b (look_of c.args.learned.now) (numbers_of c.args.spaces.now) p c.args.frame.now (Some v) pass)
