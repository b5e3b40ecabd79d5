use Rattle.std.proofs.Common.{arith, sym, ◌∙◌}
use Rattle.exb_link.proofs.Interleaving.{found, missing}
use Rattle.exb_link.proofs.link.one_less_behind.Goals as goal

pub index_mut-requires : goal.index_mut-requires
index_mut-requires c =
    let h = (found c.args.frames.now.items c.args.at c.in-Some.place (sym c.place_behind.ensures ∙ c.in-Some.is)).0 in
    let ok = c.args.frames.now.ok.0 in
    omega (arith, h, ok)

pub overflow_sub-index_mut : goal.overflow_sub-index_mut
overflow_sub-index_mut c =
    ((found c.args.frames.now.items c.args.at c.in-Some.place (sym c.place_behind.ensures ∙ c.in-Some.is)).1 c.index_mut.result.now c.index_mut.ensures.value).0

pub returns-in-Some : goal.returns-in-Some
returns-in-Some c =
    ((found c.args.frames.now.items c.args.at c.in-Some.place (sym c.place_behind.ensures ∙ c.in-Some.is)).1 c.index_mut.result.now c.index_mut.ensures.value).1

pub returns-in_default : goal.returns-in_default
returns-in_default c = sym (missing c.args.frames.now.items c.args.at (sym c.place_behind.ensures ∙ c.in_default.is))
