use Rattle.exb_audit.proofs.JournalLines.{goes_on, ends, entry_is, settled_is}
use Rattle.std.specs.Prelude.{is_some}
use Rattle.std.specs.Str.{bytes_eq}
use Rattle.std.proofs.Common.{List, ℕ, ◌∷◌, sym, ◌∙◌, ap}
use Rattle.exb_audit.proofs.journal_lines.is_entry.Goals as goal

pub returns-in_default : goal.returns-in_default
returns-in_default c = c.eq.ensures ∙ ap (bytes_eq c.first_word.result.0.now) c.as_slice.ensures ∙ settled_is c.args.line.now c.first_word.result.0.now (ends c.args.line.now _ _ c.first_word.ensures c.in_default.is)

pub returns-in_default-rest : goal.returns-in_default-rest
returns-in_default-rest c =
    let first = goes_on c.args.line.now _ _ c.in-Some.rest c.first_word.ensures c.in-Some.is in
    let second = ends c.in-Some.rest.now _ _ c.first_word-2.ensures c.in_default-rest.is in
    c.is_simple.ensures ∙ sym (ap is_some (entry_is c.args.line.now _ (first ∙ ap (λ (zs : List (List ℕ)). c.first_word.result.0.now ∷ zs) second)))

pub returns-in-Some-rest-2 : goal.returns-in-Some-rest-2
returns-in-Some-rest-2 c =
    let first = goes_on c.args.line.now _ _ c.in-Some.rest c.first_word.ensures c.in-Some.is in
    let second = goes_on c.in-Some.rest.now _ _ c.in-Some-rest.rest c.first_word-2.ensures c.in-Some-rest.is in
    let third = goes_on c.in-Some-rest.rest.now _ _ c.in-Some-rest-2.rest c.first_word-3.ensures c.in-Some-rest-2.is in
    c.is_long.ensures ∙ sym (ap is_some (entry_is c.args.line.now _ (first ∙ ap (λ (zs : List (List ℕ)). c.first_word.result.0.now ∷ zs) (second ∙ ap (λ (zs : List (List ℕ)). c.first_word-2.result.0.now ∷ zs) third))))

pub returns-in-None : goal.returns-in-None
returns-in-None c =
    let first = goes_on c.args.line.now _ _ c.in-Some.rest c.first_word.ensures c.in-Some.is in
    let second = goes_on c.in-Some.rest.now _ _ c.in-Some-rest.rest c.first_word-2.ensures c.in-Some-rest.is in
    let third = ends c.in-Some-rest.rest.now _ _ c.first_word-3.ensures c.in-None.is in
    c.is_arrival.ensures ∙ sym (ap is_some (entry_is c.args.line.now _ (first ∙ ap (λ (zs : List (List ℕ)). c.first_word.result.0.now ∷ zs) (second ∙ ap (λ (zs : List (List ℕ)). c.first_word-2.result.0.now ∷ zs) third))))
