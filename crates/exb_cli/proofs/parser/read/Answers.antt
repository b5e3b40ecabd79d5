use Rattle.std.proofs.Common.{◌∙◌, sym, ap, ◌∷◌, map, option_map, string_bytes}
use Rattle.exb_cli.specs.ParserSteps.{gathered_of}
use Rattle.exb_cli.proofs.ParserSteps.{texts-first, texts-two, texts-none, read-dashes, read-seed, read-seed_last, read-word, read-end}
use Rattle.exb_cli.proofs.parser.read.Goals as goal

pub returns-then-eq : goal.returns-then-eq
returns-then-eq c =
    c.with_names.ensures
    ∙ read-dashes (map string_bytes c.loop-word.rest.now) (map string_bytes c.in-Some.behind.now) c.as_str-text.result.now (gathered_of c.loop-word.said) _
    (texts-first string_bytes c.loop-word.rest.now c.in-Some.behind.now c.in-Some.word.now c.as_str-text.result.now c.in-Some.ensures.cases.0 c.as_str-text.ensures.value)
    (sym c.eq.ensures ∙ c.if-eq.true) c.loop-word.invariant

pub returns-in_default-split_first : goal.returns-in_default-split_first
returns-in_default-split_first c =
    read-seed_last (map string_bytes c.loop-word.rest.now) c.as_str-text.result.now (gathered_of c.loop-word.said) _
    (texts-first string_bytes c.loop-word.rest.now c.in-Some.behind.now c.in-Some.word.now c.as_str-text.result.now c.in-Some.ensures.cases.0 c.as_str-text.ensures.value
    ∙ ap (λ ws. c.as_str-text.result.now ∷ ws) (texts-none string_bytes c.in-Some.behind.now c.in_default-split_first.ensures.cases))
    (sym c.eq.ensures ∙ c.if-eq.false) (sym c.eq-in-Some.ensures ∙ c.if-eq-2.true) c.loop-word.invariant

pub returns-in_err-said : goal.returns-in_err-said
returns-in_err-said c =
    ap (option_map gathered_of) c.from_residual.ensures
    ∙ read-seed (map string_bytes c.loop-word.rest.now) (map string_bytes c.in-Some-split_first.behind.now) c.as_str-text.result.now c.as_bytes.result.now (gathered_of c.loop-word.said) _ _
    (texts-two string_bytes c.loop-word.rest.now c.in-Some.behind.now c.in-Some-split_first.behind.now c.in-Some.word.now c.in-Some-split_first.number.now c.as_str-text.result.now c.as_bytes.result.now
    c.in-Some.ensures.cases.0 c.as_str-text.ensures.value c.in-Some-split_first.ensures.cases.0 c.as_bytes.ensures.value)
    (sym c.eq.ensures ∙ c.if-eq.false) (sym c.eq-in-Some.ensures ∙ c.if-eq-2.true) c.in_err-said.ensures c.loop-word.invariant

pub loop-word-preserved-then-eq-2 : goal.loop-word-preserved-then-eq-2
loop-word-preserved-then-eq-2 c =
    read-seed (map string_bytes c.loop-word.rest.now) (map string_bytes c.in-Some-split_first.behind.now) c.as_str-text.result.now c.as_bytes.result.now (gathered_of c.loop-word.said) _ _
    (texts-two string_bytes c.loop-word.rest.now c.in-Some.behind.now c.in-Some-split_first.behind.now c.in-Some.word.now c.in-Some-split_first.number.now c.as_str-text.result.now c.as_bytes.result.now
    c.in-Some.ensures.cases.0 c.as_str-text.ensures.value c.in-Some-split_first.ensures.cases.0 c.as_bytes.ensures.value)
    (sym c.eq.ensures ∙ c.if-eq.false) (sym c.eq-in-Some.ensures ∙ c.if-eq-2.true) c.in_ok-said.ensures c.loop-word.invariant

pub returns-in_err-said-2 : goal.returns-in_err-said-2
returns-in_err-said-2 c =
    ap (option_map gathered_of) c.from_residual-in_err-said-2.ensures
    ∙ read-word (map string_bytes c.loop-word.rest.now) (map string_bytes c.in-Some.behind.now) c.as_str-text.result.now (gathered_of c.loop-word.said) _ _
    (texts-first string_bytes c.loop-word.rest.now c.in-Some.behind.now c.in-Some.word.now c.as_str-text.result.now c.in-Some.ensures.cases.0 c.as_str-text.ensures.value)
    (sym c.eq.ensures ∙ c.if-eq.false) (sym c.eq-in-Some.ensures ∙ c.if-eq-2.false) c.in_err-said-2.ensures c.loop-word.invariant

pub loop-word-preserved : goal.loop-word-preserved
loop-word-preserved c =
    read-word (map string_bytes c.loop-word.rest.now) (map string_bytes c.in-Some.behind.now) c.as_str-text.result.now (gathered_of c.loop-word.said) _ _
    (texts-first string_bytes c.loop-word.rest.now c.in-Some.behind.now c.in-Some.word.now c.as_str-text.result.now c.in-Some.ensures.cases.0 c.as_str-text.ensures.value)
    (sym c.eq.ensures ∙ c.if-eq.false) (sym c.eq-in-Some.ensures ∙ c.if-eq-2.false) c.in_ok-said-2.ensures c.loop-word.invariant

pub returns : goal.returns
returns c =
    read-end (map string_bytes c.loop-word.rest.now) (gathered_of c.loop-word.said) _ (texts-none string_bytes c.loop-word.rest.now c.in_default.ensures.cases) c.loop-word.invariant
