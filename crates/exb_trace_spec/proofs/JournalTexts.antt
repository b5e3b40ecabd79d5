-- A journal's text, line by line.
use Rattle.std.proofs.Common.{◌≡◌, ℕ, true, List, [], ◌∷◌, ap, ◌∙◌}
use Rattle.std.specs.Prelude.{is_some}
use Rattle.exb_model.specs.declared.event.Event.{Event}
use Rattle.exb_model.specs.History.{History}
use Rattle.exb_model.specs.Texts.{line_of}
use Rattle.exb_trace_spec.specs.JournalLines.{entry_of, entry_in, journal_of}
use Rattle.exb_trace_spec.specs.Traversals.{Each}
use Rattle.exb_trace_spec.specs.TextFields.{lines_in}
use Rattle.exb_trace_spec.specs.RoundTrips.{IsOfNumbers, JournalsAreLines}
use Rattle.exb_trace_spec.proofs.JournalLines.{line_is, entry_lacks, entries_read_back, text_is, each_last}
use Rattle.exb_trace_spec.proofs.TextFields.{lacks, lines_back}

line_lacks : (h : History) → Each IsOfNumbers h → Each (λ (x : List ℕ). lacks 10 x ≡ true) (journal_of h)
line_lacks [] all = tt
line_lacks (e ∷ h) all = each_last (λ (x : List ℕ). lacks 10 x ≡ true) (journal_of h) (line_of e) (line_lacks h all.1) (ap (lacks 10) (line_is e) ∙ entry_lacks (entry_of e) all.0)

is_read : (e : Event) → IsOfNumbers e → is_some (entry_in (line_of e)) ≡ true
is_read e k = ap (λ x. is_some (entry_in x)) (line_is e) ∙ ap is_some (entries_read_back (entry_of e) k)

are_read : (h : History) → Each IsOfNumbers h → Each (λ line. is_some (entry_in line) ≡ true) (journal_of h)
are_read [] all = tt
are_read (e ∷ h) all = each_last (λ line. is_some (entry_in line) ≡ true) (journal_of h) (line_of e) (are_read h all.1) (is_read e all.0)

pub journals_are_lines : JournalsAreLines
journals_are_lines h all = record { cut = ap lines_in (text_is h) ∙ lines_back (journal_of h) (line_lacks h all); read = are_read h all }
