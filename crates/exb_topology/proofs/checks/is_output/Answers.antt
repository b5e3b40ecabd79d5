use Rattle.std.proofs.Common.{◌≡◌, ◌++◌, sym, ap, ◌∙◌, Some, None}
use Rattle.std.specs.List.{list_any}
use Rattle.std.specs.Str.{bytes_eq}
use Rattle.std.specs.Cmp.{unsigned_Decides}
use Rattle.std.proofs.lemmas.Slice.Eq.{strip_prefix_is}
use Rattle.exb_topology.proofs.NameSuffixes.{with_end, without_end}
use Rattle.exb_topology.proofs.checks.is_output.Goals as goal

pub returns-in-Some : goal.returns-in-Some
returns-in-Some c =
    λ t is.
    let cut = strip_prefix_is unsigned_Decides c.as_bytes.result.now c.as_bytes-2.result.now (Some c.in-Some.end) c.in-Some.ensures.cases in
    let whole : c.args.name.now ≡ c.args.prefix.now ++ c.in-Some.end.now = sym c.as_bytes.ensures.value ∙ cut ∙ ap (λ p. p ++ c.in-Some.end.now) c.as_bytes-2.ensures.value in
    c.is_end.ensures ∙ ap (λ ns. list_any (λ o. bytes_eq c.in-Some.end.now o) ns) is ∙ with_end c.args.name.now c.args.prefix.now c.in-Some.end.now t whole

pub returns-in-None : goal.returns-in-None
returns-in-None c =
    λ t is.
    let other = strip_prefix_is unsigned_Decides c.as_bytes.result.now c.as_bytes-2.result.now None c.in-None.ensures.cases in
    sym (without_end c.args.name.now c.args.prefix.now t (λ end whole. other end (c.as_bytes.ensures.value ∙ whole ∙ ap (λ p. p ++ end) (sym c.as_bytes-2.ensures.value))))
