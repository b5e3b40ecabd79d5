use Rattle.std.proofs.Common.{ℕ, List, ap, ◌∙◌}
use Rattle.std.proofs.lemmas.Result.{on_ok_weaker}
use Rattle.exb_model.specs.ETags.{tagged}
use Rattle.exb_frame.specs.Egress.{priority, egress_with, put_in}
use Rattle.exb_frame.specs.TagValues.{tag_of}
use Rattle.exb_frame.proofs.EgressLemmas.{own_is}
use Rattle.exb_frame.proofs.egress.tagged_egress_into.Goals as goal

pub returns-clause-bytes : goal.returns-clause-bytes
returns-clause-bytes c =
    let tag = c.args.tag.now in
    on_ok_weaker c.put_egress.result (λ done. done ∙ ap (λ (xs : List ℕ). put_in xs (egress_with (priority tag.pcp tag.dei) c.args.frame.now c.args.kind tag.vid)) c.write.ensures) c.put_egress.ensures.bytes

pub returns-clause-own : goal.returns-clause-own
returns-clause-own c =
    let tag = c.args.tag.now in
    on_ok_weaker c.put_egress.result (λ done same. done ∙ ap (λ (xs : List ℕ). put_in xs (egress_with (priority tag.pcp tag.dei) c.args.frame.now c.args.kind tag.vid)) c.write.ensures
    ∙ ap (λ (f : List ℕ). tagged f (tag_of c.args.etag.now)) (own_is c.args.frame.now c.args.kind (priority tag.pcp tag.dei) tag.vid same)) c.put_egress.ensures.bytes
