-- The text of a journal that an input allows, and that input, give the history; and its moments are those of the input.
use Rattle.std.specs.Prelude.{◌≡◌, Some}
use Rattle.exb_model.specs.History.{History}
use Rattle.exb_model.specs.Input.{Input, Mode, arrivals_at}
use Rattle.exb_model.specs.LegalHistory.{EachEvent, Legal}
use Rattle.exb_model.specs.Texts.{journal_text}
use Rattle.exb_trace_spec.specs.Traversals.{Each}
use Rattle.exb_trace_spec.specs.JournalLines.{history_in}
use Rattle.exb_trace_spec.specs.InputFrames.{AreInTime, RelayFits}
use Rattle.exb_trace_spec.specs.RoundTrips.{IsOfNumbers}

-- The text of a history that an input allows, and that input, give the history.
abbrev pub InputsReadBack : Type 0
InputsReadBack = (m : Mode) (i : Input) (h : History) → Legal m i h → Each IsOfNumbers h
    → history_in (arrivals_at i) (journal_text h) ≡ Some h

abbrev pub InputsHaveOneHistory : Type 0
InputsHaveOneHistory = (m : Mode) (i : Input) (g h : History) → Legal m i g → Legal m i h → Each IsOfNumbers g
    → Each IsOfNumbers h → journal_text g ≡ journal_text h → g ≡ h

-- The Relays of a history that an input allows have moments that a capture can hold, where the input's records have.
abbrev pub LegalRelaysFit : Type 0
LegalRelaysFit = (m : Mode) (i : Input) (h : History) → AreInTime i → Legal m i h → EachEvent RelayFits h
