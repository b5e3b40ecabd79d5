use Rattle.std.proofs.Common.{◌≡◌, ℕ, List, [], ◌∷◌, ◌++◌, refl, ap, sym, subst, ◌∙◌}
use Rattle.std.specs.Prelude.{Option, None}
use Rattle.std.proofs.lemmas.Result.{on_ok_weaker}
use Rattle.exb_csp.specs.AllTables.{port_of}
use Rattle.exb_extender.specs.declared.sends.Side.TheVariants.{Port}
use Rattle.exb_world_spec.specs.ExtenderSteps.{hung_on, sent_at}
use Rattle.exb_world_spec.specs.Worlds.{Out, moment_of}
use Rattle.exb_model.specs.Traces.{Out as OutText}
use Rattle.exb_model.specs.Tree.{Shape}
use Rattle.exb_outbox.specs.declared.log.Left.{Left}
use Rattle.exb_outbox.specs.declared.log.Log.{Log}
use Rattle.exb_outbox.specs.Logs.{if_tracing}
use Rattle.exb_bridge.specs.BridgeWorlds.{world_in, Does}
use Rattle.exb_bridge.proofs.PartChanges.{leaves}
use Rattle.exb_bridge.proofs.HungExtenders.{hung_numbered}
use Rattle.exb_world.specs.MachineWorlds.{whole_of}
use Rattle.exb_world.proofs.extender_sends.send_at.Goals as goal

pub push-requires : goal.push-requires
push-requires c = hung_numbered c.tree-tree.result.now c.is_tree.ensures c.at-place.result c.in-Some.below (sym c.hung_on.ensures ∙ c.in-Some.is)

pub returns-in-None : goal.returns-in-None
returns-in-None c =
    let s = c.args.site.now in
    let n = c.args.number in
    let k = c.args.port in
    let stamp = c.args.word.stamp in
    let frame : List ℕ = c.args.word.bytes in
    let core = (whole_of c.args.core.now) in
    let log = c.args.post.now.log in
    let new : Log = record log { left = c.push-in-None.new.self; outs = c.note_out.new.outs } in
    let none : hung_on s.tree (port_of n k) ≡ None =
    ap (λ (t : Shape). hung_on t (port_of n k)) (sym c.tree-tree.ensures) ∙ ap (hung_on c.tree-tree.result.now) (sym c.at-place.ensures) ∙ sym c.hung_on.ensures ∙ c.in-None.is in
    let at : ℕ → List ℕ → List Left = λ (moment : ℕ) (f : List ℕ). log.left ++ record { row = c.of.result; moment = moment; bytes = f } ∷ [] in
    let outs = c.in_ok-note_out.ensures ∙ ap (λ (bytes : List ℕ). log.outs.items ++ if_tracing log.tracing (OutText n k bytes ∷ [])) c.bytes.ensures in
    on_ok_weaker c.push-in-None.result
    (λ pushed.
    subst (λ (h : Option ℕ). Does (sent_at n k h stamp frame (world_in core)) s core log new) (sym none)
    (leaves s core log new (Out n (Port k) frame) c.of.result (moment_of stamp) frame (port_of n k) c.requires.at
    (record { outs = outs; events = refl; passed = refl; lines = refl; tracing = refl })
    (c.of.ensures ∙ ap (λ (q : ℕ). q ∷ []) c.at-place.ensures)
    (pushed ∙ ap (λ (m : ℕ). at m c.unboxed-bytes.result) (c.moment_of-moment.ensures ∙ ap moment_of c.stamp.ensures) ∙ ap (at (moment_of stamp)) c.unboxed-bytes.ensures)))
    c.push-in-None.ensures.ok
