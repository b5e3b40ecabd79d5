use Rattle.std.proofs.Common.{◌≡◌, ◌∷◌, [], arith}
use Rattle.std.proofs.lemmas.Grind.{common_steps}
use Rattle.std.proofs.lemmas.Result.{err_from_is_err_and}
use Rattle.toml.specs.View.{table_view}
use Rattle.toml.proofs.Views.{Entry}
use Rattle.exb_topology_tables.specs.Elements.{captures}
use Rattle.exb_topology_tables.proofs.CaptureKeys.{goes_on, ends, is_done}
use Rattle.exb_topology_tables.proofs.elements.captures.Goals as goal

pub returns-in_err-file : goal.returns-in_err-file
returns-in_err-file c =
    let p = err_from_is_err_and c.from_residual.result c.from_residual.ensures.1 in
    let (can, finite, so_far) = c.loop-key.invariant in
    let e : Entry = (c.in-Some.key.now, c.in-Some.value.now) in
    let iter : c.loop-key.key-iterator ≡ e ∷ c.next.new.self = grind (arith, common_steps) in
    rw (p.1, p.2) (ends c.in_err-file.field-0.0 c.loop-key.all c.in-Some.key.now c.in-Some.value.now c.loop-key.key-iterator c.next.new.self (captures (table_view c.args.table.now)) iter (rw c.as_str.ensures.value at c.in_err-file.ensures) so_far)

pub loop-key-preserved : goal.loop-key-preserved
loop-key-preserved c =
    let (can, finite, so_far) = c.loop-key.invariant in
    let e : Entry = (c.in-Some.key.now, c.in-Some.value.now) in
    let iter : c.loop-key.key-iterator ≡ e ∷ c.next.new.self = grind (arith, common_steps) in
    (tt, tt, rw c.in_ok-push.ensures.ok (goes_on c.loop-key.all c.in-Some.key.now c.in-Some.value.now c.loop-key.key-iterator c.next.new.self c.in_ok-file.file (captures (table_view c.args.table.now)) iter (rw c.as_str.ensures.value at c.in_ok-file.ensures) so_far))

pub returns : goal.returns
returns c =
    let (can, finite, so_far) = c.loop-key.invariant in
    let none : c.loop-key.key-iterator ≡ [] = grind (arith, common_steps) in
    is_done c.loop-key.all c.loop-key.key-iterator (captures (table_view c.args.table.now)) none so_far
