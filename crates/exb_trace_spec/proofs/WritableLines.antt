-- The lines of a legal trace can be written.
use Rattle.std.proofs.Common.{◌≡◌, ℕ, ◌&&◌, nat_lt, nat_le, true, List, [], ◌∷◌, sym, subst, arith, inl, inr}
use Rattle.std.specs.Prelude.{slice_index}
use Rattle.std.proofs.lemmas.Bool.{cases_eq, and_parts, eq-eqb, ne_eqb, ltb-true, leb-true}
use Rattle.exb_model.specs.History.{History}
use Rattle.exb_model.specs.Texts.{line_of}
use Rattle.exb_model.specs.Traces.{TraceLine, In, Out, Beat, Journal}
use Rattle.exb_model.specs.Tree.{Shape, is_extender}
use Rattle.exb_trace_spec.specs.CheckerLaws.{IsSized}
use Rattle.exb_trace_spec.specs.JournalLines.{entry_of, journal_of}
use Rattle.exb_trace_spec.specs.TraceTexts.{IsSide, IsEntryText, IsSpelled}
use Rattle.exb_trace_spec.specs.Rule1Places.{journal_in, is_place, NamesPlace}
use Rattle.exb_trace_spec.specs.Traversals.{Each}
use Rattle.exb_trace_spec.specs.WritableLines.{HasBytes, IsSmall, LegalLinesAreSpelled}
use Rattle.exb_trace_spec.specs.RoundTrips.{IsOfNumbers}
use Rattle.exb_trace_spec.proofs.JournalLines.{line_is, each_last}
use Rattle.exb_trace_spec.proofs.NumberedMachines.{extender_below}

side : (t : Shape) → IsSized t → IsSmall t → (n k : ℕ) → is_place t n k ≡ true → IsSide n k
side t sized small n k e =
    elim (cases_eq n 0) [
      | inl z ↦ (
          let here : (nat_lt 0 k && nat_le k (slice_index t.ports 0)) ≡ true = rw (eq-eqb n 0 z) at e in
          let p = and_parts (nat_lt 0 k) (nat_le k (slice_index t.ports 0)) here in
          let most = small 0 in
          let low = leb-true k (slice_index t.ports 0) p.1 in
          let some = ltb-true 0 k p.0 in
          record { device = omega (arith, z); side = omega (arith, most, low); port = λ y. some }
          )
      | inr z ↦ (
          let here : (is_extender t n && nat_le k (slice_index t.ports n)) ≡ true = rw (ne_eqb n 0 z) at e in
          let p = and_parts (is_extender t n) (nat_le k (slice_index t.ports n)) here in
          let most = small n in
          let low = leb-true k (slice_index t.ports n) p.1 in
          let few = extender_below t n sized p.0 in
          record { device = omega (arith, few); side = omega (arith, most, low); port = λ y. absurd (z y) }
          )
    ]

texts : (h : History) → Each IsOfNumbers h → Each IsEntryText (journal_of h)
texts [] all = tt
texts (e ∷ h) all = each_last IsEntryText (journal_of h) (line_of e) (texts h all.1) (record { entry = entry_of e; writable = all.0; is = line_is e })

module _ (t : Shape) (sized : IsSized t) (small : IsSmall t) where
  spelled : (lines : List TraceLine) → Each (NamesPlace t) lines → Each HasBytes lines → Each IsEntryText (journal_in lines) → Each IsSpelled lines
  spelled [] places bytes told = tt
  spelled (In n k f ∷ ls) places bytes told = ((side t sized small n k places.0, bytes.0), spelled ls places.1 bytes.1 told)
  spelled (Out n k f ∷ ls) places bytes told = ((side t sized small n k places.0, bytes.0), spelled ls places.1 bytes.1 told)
  spelled (Beat ∷ ls) places bytes told = (tt, spelled ls places.1 bytes.1 told)
  spelled (Journal text ∷ ls) places bytes told = (told.0, spelled ls places.1 bytes.1 told.1)

pub legal_lines_are_spelled : LegalLinesAreSpelled
legal_lines_are_spelled t h lines sized small has bytes numbers = spelled t sized small lines has.places bytes (subst (Each IsEntryText) (sym has.told) (texts h numbers))
