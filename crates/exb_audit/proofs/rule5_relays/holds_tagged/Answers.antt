use Rattle.std.specs.Str.{bytes_eq}
use Rattle.std.specs.Prelude.{drop, is_some, ◌&&◌}
use Rattle.exb_model.specs.ETags.{read_etag, stripped}
use Rattle.exb_frame.specs.TagValues.{tag_of}
use Rattle.std.proofs.lemmas.List.{take_rest}
use Rattle.exb_audit.proofs.Rule5Relays.{no_tag, some_tag}
use Rattle.std.proofs.Common.{sym, ◌∙◌, ap}
use Rattle.exb_audit.proofs.rule5_relays.holds_tagged.Goals as goal

pub returns-then-is_none : goal.returns-then-is_none
returns-then-is_none c = no_tag (bytes_eq (stripped c.args.frame.now) c.args.bare.now) tag_of c.read.result (read_etag c.args.frame.now) c.read.ensures c.if-is_none.ensures

pub returns-in-Some : goal.returns-in-Some
returns-in-Some c =
    c.eq.ensures ∙ ap (λ z. bytes_eq z c.in-Some.rest.now) (take_rest c.args.frame.now 20) ∙ sym (c.in-Some.ensures (drop 20 c.args.frame.now))
    ∙ sym (some_tag (bytes_eq (stripped c.args.frame.now) c.args.bare.now) tag_of c.read.result (read_etag c.args.frame.now) c.read.ensures c.if-is_none.ensures)

pub returns-in-None : goal.returns-in-None
returns-in-None c = sym (ap (λ b. b && is_some (read_etag c.args.frame.now)) (c.in-None.ensures (drop 20 c.args.frame.now)))
