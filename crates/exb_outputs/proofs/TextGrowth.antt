-- How the texts of a run grow with its history.
use Rattle.std.proofs.Common.{◌≡◌, List, [], ◌∷◌, ◌++◌, flat_map, ap, sym, ◌∙◌, append_assoc}
use Rattle.std.proofs.lemmas.List.{append-nil}
use Rattle.std.proofs.lemmas.Grind.{flat_map-append}
use Rattle.exb_model.specs.declared.event.Event.{Event}
use Rattle.exb_model.specs.History.{History, ◌then◌}
use Rattle.exb_model.specs.FlatBridge.{Sent}
use Rattle.exb_model.specs.Texts.{capture_header, record_text, capture_text, journal_text}
use Rattle.exb_outputs.specs.WrittenTexts.{lines_of}

pub capture_text-append : (xs ys : List Sent) → capture_text (xs ++ ys) ≡ capture_text xs ++ flat_map record_text ys
unfolding capture_text
capture_text-append xs ys = rw append_assoc (ap (λ ts. capture_header ++ ts) (flat_map-append record_text xs ys))

pub capture_text-nil : capture_text [] ≡ capture_header
unfolding capture_text
capture_text-nil = append-nil capture_header

pub journal_text-then : (h : History) (es : List Event) → journal_text (h then es) ≡ journal_text h ++ lines_of es
unfolding journal_text
journal_text-then h [] = sym (append-nil (journal_text h))
journal_text-then h (e ∷ es) = journal_text-then (e ∷ h) es ∙ simp append_assoc
