use Rattle.std.proofs.Common.{List, [], ℕ, ◌++◌, take, ap, ◌∙◌}
use Rattle.std.proofs.lemmas.List.{append-nil}
use Rattle.std.proofs.lemmas.Result.{on_ok_weaker}
use Rattle.exb_model.specs.Frames.{body_after, kind_of}
use Rattle.exb_frame.proofs.EgressLemmas.{leaves_fit, whole_is}
use Rattle.exb_frame.proofs.egress.put_untagged.Goals as goal

pub put_parts-requires-clause-fits : goal.put_parts-requires-clause-fits
put_parts-requires-clause-fits c = leaves_fit c.args.frame.now c.requires

pub returns-then-has_tag : goal.returns-then-has_tag
returns-then-has_tag c =
    let f = c.args.frame.now in
    on_ok_weaker c.put_parts.result (λ done. done ∙ ap (λ (xs : List ℕ). xs ++ body_after f (kind_of f)) (append-nil (take 12 f ++ []) ∙ append-nil (take 12 f))) c.put_parts.ensures

pub returns : goal.returns
returns c =
    let f = c.args.frame.now in
    on_ok_weaker c.put.result (λ done. done ∙ ap (λ (xs : List ℕ). xs ++ f) c.clear.ensures.items ∙ whole_is f (body_after f (kind_of f)) (c.has_tag.ensures.plain c.if-has_tag.false)) c.put.ensures
