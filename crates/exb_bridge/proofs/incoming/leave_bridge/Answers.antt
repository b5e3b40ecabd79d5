use Rattle.std.proofs.Common.{◌≡◌, ℕ, ◌-◌, List, [], ◌∷◌, ◌++◌, refl, ap, ◌∙◌, arith}
use Rattle.std.proofs.lemmas.Result.{on_ok_weaker}
use Rattle.exb_model.specs.Traces.{Out}
use Rattle.exb_outbox.specs.Logs.{if_tracing}
use Rattle.exb_bridge.proofs.PartChanges.{left_one}
use Rattle.exb_bridge.proofs.incoming.leave_bridge.Goals as goal

pub returns : goal.returns
returns c =
    let log = c.args.post.now.log in
    let port = c.args.bridge_port in
    let at : c.at.result ≡ port - 1 = (let own = c.at.ensures in omega (arith, own)) in
    on_ok_weaker c.push.result
    (λ pushed. record {
      left = left_one log.left c.push.new.self c.of.result c.args.moment c.args.frame (port - 1) (c.of.ensures ∙ ap (λ (q : ℕ). q ∷ []) at) pushed;
      outs = c.in_ok-note_out.ensures ∙ ap (λ (bytes : List ℕ). log.outs.items ++ if_tracing log.tracing (Out 0 port bytes ∷ [])) c.as_slice.ensures;
      events = refl;
      passed = refl;
      lines = refl;
      tracing = refl;
    })
    c.push.ensures.ok
