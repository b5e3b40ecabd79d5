use Rattle.std.proofs.Common.{◌≡◌, ◌≤◌, ◌+◌, ◌++◌, ℕ, List, [], length, take, ap, sym, subst, arith, ◌∙◌}
use Rattle.std.proofs.lemmas.List.{append-nil}
use Rattle.std.proofs.lemmas.Result.{on_ok_weaker}
use Rattle.exb_model.specs.Frames.{body_after, kind_of}
use Rattle.exb_frame.specs.Egress.{priority, put_in}
use Rattle.exb_frame.proofs.EgressLemmas.{leaves_fit, leaves_long, tagged_is, untagged_is, parts_are, parts_short}
use Rattle.exb_frame.proofs.egress.put_egress.Goals as goal

pub put_parts-requires-clause-long : goal.put_parts-requires-clause-long
put_parts-requires-clause-long c = leaves_long c.args.frame.now c.requires.frame

pub put_parts-requires-clause-fits : goal.put_parts-requires-clause-fits
put_parts-requires-clause-fits c = leaves_fit c.args.frame.now c.requires.frame

pub put_parts-requires-in-Untagged-clause-long : goal.put_parts-requires-in-Untagged-clause-long
put_parts-requires-in-Untagged-clause-long c = leaves_long c.args.frame.now c.requires.frame

pub put_parts-requires-in-Untagged-clause-fits : goal.put_parts-requires-in-Untagged-clause-fits
put_parts-requires-in-Untagged-clause-fits c = leaves_fit c.args.frame.now c.requires.frame

pub returns-in-Tagged-clause-bytes : goal.returns-in-Tagged-clause-bytes
returns-in-Tagged-clause-bytes c =
    let f = c.args.frame.now in
    let between = c.args.between.now in
    let tag = c.args.tag.now in
    on_ok_weaker c.put_parts.result (λ done.
    rw c.in-Tagged.is (done ∙ parts_are f between c.write.result (body_after f (kind_of f)) (omega (arith, leaves_long f c.requires.frame))
    ∙ ap (put_in between) (ap (λ (xs : List ℕ). take 12 f ++ xs ++ body_after f (kind_of f)) c.write.ensures ∙ tagged_is f (priority tag.pcp tag.dei) tag.vid))) c.put_parts.ensures

pub returns-in-Untagged-clause-bytes : goal.returns-in-Untagged-clause-bytes
returns-in-Untagged-clause-bytes c =
    let f = c.args.frame.now in
    let between = c.args.between.now in
    let tag = c.args.tag.now in
    on_ok_weaker c.put_parts-in-Untagged.result (λ done.
    rw c.in-Untagged.is (done ∙ parts_are f between [] (body_after f (kind_of f)) (omega (arith, leaves_long f c.requires.frame))
    ∙ ap (put_in between) (ap (λ (xs : List ℕ). xs ++ body_after f (kind_of f)) (append-nil (take 12 f)) ∙ untagged_is f (priority tag.pcp tag.dei) tag.vid))) c.put_parts-in-Untagged.ensures

pub returns-in-Tagged-clause-short : goal.returns-in-Tagged-clause-short
returns-in-Tagged-clause-short c =
    let few : length c.write.result ≡ 4 = ap (λ (xs : List ℕ). length xs) c.write.ensures in
    on_ok_weaker c.put_parts.result (λ done.
    subst (λ (xs : List ℕ). length xs ≤ 9220 + length c.args.between.now) (sym done)
    (parts_short c.args.frame.now c.args.between.now c.write.result c.requires.frame (omega (arith, few)))) c.put_parts.ensures

pub returns-in-Untagged-clause-short : goal.returns-in-Untagged-clause-short
returns-in-Untagged-clause-short c =
    on_ok_weaker c.put_parts-in-Untagged.result (λ done.
    subst (λ (xs : List ℕ). length xs ≤ 9220 + length c.args.between.now) (sym done)
    (parts_short c.args.frame.now c.args.between.now [] c.requires.frame (omega arith))) c.put_parts-in-Untagged.ensures
