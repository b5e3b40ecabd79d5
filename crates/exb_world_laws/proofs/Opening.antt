-- What the opening tells is the opening of the input.
use Rattle.std.proofs.Common.{◌≡◌, ℕ, List, [], ◌∷◌, Option, Some, None, refl, ap, sym, ◌∙◌}
use Rattle.std.specs.Prelude.{filter_map}
use Rattle.exb_model.specs.declared.command.Command.TheVariants as command
use Rattle.exb_model.specs.declared.event.Cause.{Cause}
use Rattle.exb_model.specs.declared.event.Event.{Event}
use Rattle.exb_model.specs.declared.event.Event.TheVariants as event
use Rattle.exb_model.specs.EagerHistory.{risen, with_ups}
use Rattle.exb_model.specs.History.{Basis, History, ◌then◌, bridge_after}
use Rattle.exb_model.specs.LegalHistory.{EachEvent, number_of, place_of, IsOfSegment}
use Rattle.exb_model.specs.Refusals.{refusal}
use Rattle.exb_model.specs.Setup.{Limits}
use Rattle.exb_model.specs.Tree.{Shape}
use Rattle.exb_flight.specs.Items.{Each}
use Rattle.exb_world_laws.specs.OneBridge.{up_port, IsRisen}
use Rattle.exb_world_laws.proofs.Ticks.{IsNoMark, TellsTime}

abbrev IsRise : Event → Type 0
IsRise (event.Up p) = Unit {0}
IsRise (event.NoUp p x) = Unit {0}
IsRise _ = ⊥

cons_nil : {A : Type 0} {x : A} {xs : List A} → x ∷ xs ≡ [] → ⊥
cons_nil e = cc

-- events of no arrival and of no command, while no time passes
pub only_rises : (es : List Event) → filter_map place_of es ≡ [] → filter_map number_of es ≡ [] → TellsTime [] es → Each IsRise es
only_rises [] places numbers time = tt
only_rises (event.Relay p n t f ∷ es) places numbers time = absurd (cons_nil places)
only_rises (event.Ignored p n ∷ es) places numbers time = absurd (cons_nil places)
only_rises (event.Tick seconds ∷ es) places numbers time = absurd (cons_nil time.ticks)
only_rises (event.Commit n ∷ es) places numbers time = absurd (cons_nil numbers)
only_rises (event.Refuse n x ∷ es) places numbers time = absurd (cons_nil numbers)
only_rises (event.Up p ∷ es) places numbers time = (tt, only_rises es places numbers (record { ticks = time.ticks; unmarked = time.unmarked.1 }))
only_rises (event.NoUp p x ∷ es) places numbers time = (tt, only_rises es places numbers (record { ticks = time.ticks; unmarked = time.unmarked.1 }))
only_rises (event.Settled ∷ es) places numbers time = absurd time.unmarked.0

-- of what happened before
pub each_before : (P : History → Event → Type 0) (es : List Event) (h : History) → EachEvent P (h then es) → EachEvent P h
each_before P [] h k = k
each_before P (e ∷ es) h k = (each_before P es (e ∷ h) k).0

pub ups_are : (t : Shape) (l : Limits) (b : Basis) (es : List Event) (h : History) → Each IsRise es → EachEvent (IsRisen t l b) (h then es) → (h then es) ≡ with_ups t l b h (filter_map up_port es)
ups_are t l b [] h k r = refl
ups_are t l b (event.Up p ∷ es) h k r =
    let here : refusal t l (bridge_after b h) (command.Up p) ≡ None = (each_before (IsRisen t l b) es (event.Up p ∷ h) r).1 in
    ups_are t l b es (event.Up p ∷ h) k.1 r ∙ ap (λ (o : Option Cause). with_ups t l b (risen p o ∷ h) (filter_map up_port es)) (sym here)
ups_are t l b (event.NoUp p x ∷ es) h k r =
    let here : refusal t l (bridge_after b h) (command.Up p) ≡ Some x = (each_before (IsRisen t l b) es (event.NoUp p x ∷ h) r).1 in
    ups_are t l b es (event.NoUp p x ∷ h) k.1 r ∙ ap (λ (o : Option Cause). with_ups t l b (risen p o ∷ h) (filter_map up_port es)) (sym here)
ups_are t l b (event.Relay p n m f ∷ es) h k r = absurd k.0
ups_are t l b (event.Ignored p n ∷ es) h k r = absurd k.0
ups_are t l b (event.Tick seconds ∷ es) h k r = absurd k.0
ups_are t l b (event.Commit n ∷ es) h k r = absurd k.0
ups_are t l b (event.Refuse n x ∷ es) h k r = absurd k.0
ups_are t l b (event.Settled ∷ es) h k r = absurd k.0

-- a segment's events, while no port rises and nothing is marked
pub of_segment : (es : List Event) (seconds : List ℕ) → filter_map up_port es ≡ [] → TellsTime seconds es → Each IsOfSegment es
of_segment es seconds none time = all es none time.unmarked
  where
    all : (es : List Event) → filter_map up_port es ≡ [] → Each IsNoMark es → Each IsOfSegment es
    all [] e k = tt
    all (event.Relay p n t f ∷ es) e k = (tt, all es e k.1)
    all (event.Ignored p n ∷ es) e k = (tt, all es e k.1)
    all (event.Tick seconds ∷ es) e k = (tt, all es e k.1)
    all (event.Commit n ∷ es) e k = (tt, all es e k.1)
    all (event.Refuse n x ∷ es) e k = (tt, all es e k.1)
    all (event.Up p ∷ es) e k = absurd (cons_nil e)
    all (event.NoUp p x ∷ es) e k = absurd (cons_nil e)
    all (event.Settled ∷ es) e k = absurd k.0
