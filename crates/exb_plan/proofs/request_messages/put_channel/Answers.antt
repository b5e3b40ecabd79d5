use Rattle.std.proofs.Common.{◌≡◌, ◌∙◌, ◌++◌, ◌==◌, ◌||◌, ℕ, Bool, true, false, List, take, refl, ap}
use Rattle.std.specs.List.{flat_map}
use Rattle.std.proofs.lemmas.List.{take_all}
use mathlib.Core.Path.{fun_ext}
use Rattle.exb_model.specs.Ports.{port_in}
use Rattle.exb_model.specs.Tree.{device}
use Rattle.exb_control_spec.specs.declared.plan.row.Row.{Row}
use Rattle.exb_control_spec.specs.Plans.Rows.{rows_of}
use Rattle.exb_csp.specs.declared.ask_at.AskAt.{AskAt}
use Rattle.exb_control_spec.specs.Plans.ChangeRequests.{put_above}
use Rattle.exb_plan.proofs.Messages.{above_are}
use Rattle.exb_plan.proofs.request_messages.put_channel.Goals as goal

or_false : (b : Bool) → (b || false) ≡ b
or_false true = refl
or_false false = refl

pub returns : goal.returns
returns c =
    let t = c.args.tree.now in
    let p = c.args.port in
    let step = c.args.step in
    let n = c.args.channel in
    let old = c.args.asks.now in
    let i = c.loop-row.row-index in
    let rows = c.as_slice-rows.result.now in
    let set : ◌≡◌ {A = ℕ → Bool} (port_in c.insert.new.self) (λ q. q == p) = fun_ext (λ q. c.insert.ensures q ∙ (ap (λ b. q == p || b) (c.empty-set.ensures q) ∙ or_false (q == p))) in
    c.loop-row.invariant
    ∙ (ap (λ (m : ℕ). old ++ flat_map (put_above step m n) (take i rows)) c.device-own.ensures.value
    ∙ (ap (λ (l : List Row). old ++ flat_map (put_above step (device p) n) l) (take_all i rows c.loop-row-test.false ∙ (c.as_slice-rows.ensures.value ∙ (c.in_ok-all.ensures ∙ ap (rows_of t) set)))
    ∙ ap (λ (l : List AskAt). old ++ l) (above_are step t p n)))
