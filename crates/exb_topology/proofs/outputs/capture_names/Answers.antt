use Rattle.std.proofs.Common.{◌≡◌, ◌∙◌, ◌++◌, ◌∷◌, [], ℕ, List, cond, sym, ap, arith}
use Rattle.exb_model.specs.Tree.{is_external}
use Rattle.exb_journal.specs.FileNames.{capture_name}
use Rattle.exb_topology.proofs.CommandLists.{names_none, names_more, names_all}
use Rattle.exb_topology.proofs.outputs.capture_names.Goals as goal

pub loop-number-init : goal.loop-number-init
loop-number-init c = c.new-names.ensures ∙ names_none (capture_name c.args.prefix.now) (is_external c.args.tree.now)

pub loop-number-preserved : goal.loop-number-preserved
loop-number-preserved c =
    let f = capture_name c.args.prefix.now in
    let p = is_external c.args.tree.now in
    let n = c.loop-number.number in
    let port : c.unwrap-port.result ≡ n = rw c.unwrap-port.ensures at c.new.ensures.value in
    let pushed : c.add_capture.new.names ≡ c.loop-number.names ++ cond (p c.unwrap-port.result) (f c.unwrap-port.result ∷ []) [] = c.in_ok-add_capture.ensures in
    pushed ∙ ap (λ (k : ℕ). c.loop-number.names ++ cond (p k) (f k ∷ []) []) port ∙ ap (λ (names : List (List ℕ)). names ++ cond (p n) (f n ∷ []) []) c.loop-number.invariant ∙ sym (names_more f p n)

pub returns : goal.returns
returns c = c.loop-number.invariant ∙ names_all (capture_name c.args.prefix.now) c.args.tree.now c.loop-number.number (omega (arith, c.loop-number.auto.number-end, c.loop-number-test.false))
