use Rattle.std.proofs.Common.{List, ℕ, ◌≤◌, length, sym, subst, ap, ◌∙◌}
use Rattle.std.proofs.lemmas.Result.{on_ok_weaker}
use Rattle.exb_frame.specs.Egress.{priority, egress_with}
use Rattle.exb_frame.proofs.EgressLemmas.{own_is, put_in_nothing, untagged_is, untagged_short}
use Rattle.exb_frame.proofs.egress.egress_into.Goals as goal

pub returns-in-Tagged-clause-bytes : goal.returns-in-Tagged-clause-bytes
returns-in-Tagged-clause-bytes c =
    let tag = c.args.tag.now in
    on_ok_weaker c.put_egress.result (λ done. done ∙ put_in_nothing (egress_with (priority tag.pcp tag.dei) c.args.frame.now c.args.kind tag.vid)) c.put_egress.ensures.bytes

pub returns-in-Tagged-clause-own : goal.returns-in-Tagged-clause-own
returns-in-Tagged-clause-own c =
    let tag = c.args.tag.now in
    on_ok_weaker c.put_egress.result (λ done same. done ∙ put_in_nothing (egress_with (priority tag.pcp tag.dei) c.args.frame.now c.args.kind tag.vid)
    ∙ own_is c.args.frame.now c.args.kind (priority tag.pcp tag.dei) tag.vid same) c.put_egress.ensures.bytes

pub returns-in-Untagged-clause-bytes : goal.returns-in-Untagged-clause-bytes
returns-in-Untagged-clause-bytes c =
    let tag = c.args.tag.now in
    on_ok_weaker c.put_untagged.result (λ done. done ∙ untagged_is c.args.frame.now (priority tag.pcp tag.dei) tag.vid ∙ ap (λ k. egress_with (priority tag.pcp tag.dei) c.args.frame.now k tag.vid) (sym c.in-Untagged.is))
    c.put_untagged.ensures

pub returns-in-Untagged-clause-own : goal.returns-in-Untagged-clause-own
returns-in-Untagged-clause-own c =
    let tag = c.args.tag.now in
    on_ok_weaker c.put_untagged.result (λ done same. done ∙ untagged_is c.args.frame.now (priority tag.pcp tag.dei) tag.vid ∙ ap (λ k. egress_with (priority tag.pcp tag.dei) c.args.frame.now k tag.vid) (sym c.in-Untagged.is)
    ∙ own_is c.args.frame.now c.args.kind (priority tag.pcp tag.dei) tag.vid same) c.put_untagged.ensures

pub returns-in-Untagged-clause-short : goal.returns-in-Untagged-clause-short
returns-in-Untagged-clause-short c =
    on_ok_weaker c.put_untagged.result (λ done. subst (λ (xs : List ℕ). length xs ≤ 9220) (sym done) (untagged_short c.args.frame.now c.requires.frame)) c.put_untagged.ensures
