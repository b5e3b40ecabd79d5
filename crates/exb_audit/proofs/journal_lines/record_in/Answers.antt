use Rattle.exb_audit.proofs.JournalLines.{goes_on, ends, ends_no, more, none_line, named_is, settled_names, simple_names, long_names, other_names}
use Rattle.std.proofs.Common.{List, ℕ, ◌∷◌, sym, ◌∙◌, ap}
use Rattle.exb_audit.proofs.journal_lines.record_in.Goals as goal

pub returns-in_default : goal.returns-in_default
returns-in_default c = none_line c.args.line.now _ (ends c.args.line.now _ _ c.first_word.ensures c.in_default.is) (λ captures. settled_names captures c.first_word.result.0.now)

pub returns-in_default-rest : goal.returns-in_default-rest
returns-in_default-rest c =
    let first = goes_on c.args.line.now _ _ c.in-Some.rest c.first_word.ensures c.in-Some.is in
    let second = ends c.in-Some.rest.now _ _ c.first_word-2.ensures c.in_default-rest.is in
    none_line c.args.line.now _ (first ∙ ap (λ (zs : List (List ℕ)). c.first_word.result.0.now ∷ zs) second) (λ captures. simple_names captures c.first_word.result.0.now c.first_word-2.result.0.now)

pub returns-then-is_some : goal.returns-then-is_some
returns-then-is_some c =
    let first = goes_on c.args.line.now _ _ c.in-Some.rest c.first_word.ensures c.in-Some.is in
    let second = goes_on c.in-Some.rest.now _ _ c.in-Some-rest.rest c.first_word-2.ensures c.in-Some-rest.is in
    let third = more c.in-Some-rest.rest.now _ _ c.first_word-3.ensures (sym c.is_some.ensures ∙ c.if-is_some.true) in
    none_line c.args.line.now _ (first ∙ ap (λ (zs : List (List ℕ)). c.first_word.result.0.now ∷ zs) (second ∙ ap (λ (zs : List (List ℕ)). c.first_word-2.result.0.now ∷ zs) third.is)) (λ captures. long_names captures c.first_word.result.0.now c.first_word-2.result.0.now c.first_word-3.result.0.now third.next third.rest)

pub returns-then-not-is_of_record : goal.returns-then-not-is_of_record
returns-then-not-is_of_record c =
    let first = goes_on c.args.line.now _ _ c.in-Some.rest c.first_word.ensures c.in-Some.is in
    let second = goes_on c.in-Some.rest.now _ _ c.in-Some-rest.rest c.first_word-2.ensures c.in-Some-rest.is in
    let third = ends_no c.in-Some-rest.rest.now _ _ c.first_word-3.ensures (sym c.is_some.ensures ∙ c.if-is_some.false) in
    none_line c.args.line.now _ (first ∙ ap (λ (zs : List (List ℕ)). c.first_word.result.0.now ∷ zs) (second ∙ ap (λ (zs : List (List ℕ)). c.first_word-2.result.0.now ∷ zs) third))
    (λ captures. other_names captures c.first_word.result.0.now c.first_word-2.result.0.now c.first_word-3.result.0.now (sym c.is_of_record.ensures ∙ c.if-not-is_of_record.true))

pub returns : goal.returns
returns c =
    let first = goes_on c.args.line.now _ _ c.in-Some.rest c.first_word.ensures c.in-Some.is in
    let second = goes_on c.in-Some.rest.now _ _ c.in-Some-rest.rest c.first_word-2.ensures c.in-Some-rest.is in
    let third = ends_no c.in-Some-rest.rest.now _ _ c.first_word-3.ensures (sym c.is_some.ensures ∙ c.if-is_some.false) in
    named_is c.args.line.now c.first_word.result.0.now c.first_word-2.result.0.now c.first_word-3.result.0.now c.named_by.result (first ∙ ap (λ (zs : List (List ℕ)). c.first_word.result.0.now ∷ zs) (second ∙ ap (λ (zs : List (List ℕ)). c.first_word-2.result.0.now ∷ zs) third))
    (sym c.is_of_record.ensures ∙ c.if-not-is_of_record.false) c.named_by.ensures
