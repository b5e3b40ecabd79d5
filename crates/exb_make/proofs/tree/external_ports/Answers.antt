use Rattle.std.proofs.Common.{◌∙◌, sym, ap, ◌++◌}
use Rattle.std.specs.List.{range_with_len}
use Rattle.exb_make.proofs.GeneratedTree.{ports-are}
use Rattle.exb_make.proofs.tree.external_ports.Goals as goal

pub returns : goal.returns
returns c =
    let e1 = c.in_ok-add_ports.ensures ∙ ap (λ ps. ps ++ range_with_len 2 2) c.new-ports.ensures.items in
    let e2 = c.in_ok-add_ports-2.ensures ∙ ap (λ ps. ps ++ range_with_len 64 7) e1 in
    let e3 = c.in_ok-add_ports-3.ensures ∙ ap (λ ps. ps ++ range_with_len 128 7) e2 in
    let e4 = c.in_ok-add_ports-4.ensures ∙ ap (λ ps. ps ++ range_with_len 192 7) e3 in
    let e5 = c.in_ok-add_ports-5.ensures ∙ ap (λ ps. ps ++ range_with_len 256 8) e4 in
    let e6 = c.in_ok-add_ports-6.ensures ∙ ap (λ ps. ps ++ range_with_len 320 7) e5 in
    let e7 = c.in_ok-add_ports-7.ensures ∙ ap (λ ps. ps ++ range_with_len 384 8) e6 in
    e7 ∙ sym ports-are
