-- A history that is played at once, as what each segment adds to it.
use Rattle.std.proofs.Common.{◌≡◌, ℕ, Bool, true, false, cond, ◌==◌, List, [], ◌∷◌, ◌++◌, refl, sym, ap, ◌∙◌}
use Rattle.std.specs.Prelude.{if◌then◌else◌}
use Rattle.exb_model.specs.declared.event.Event.{Event}
use Rattle.exb_model.specs.declared.event.Event.TheVariants as event
use Rattle.exb_model.specs.Tree.{Shape}
use Rattle.exb_model.specs.Setup.{Limits}
use Rattle.exb_model.specs.History.{Basis, History, ◌then◌, bridge_after}
use Rattle.exb_model.specs.declared.arrival.Arrival.{Arrival}
use Rattle.exb_model.specs.Input.{Segment}
use Rattle.exb_model.specs.EagerHistory.{arrival_event, command_event, with_tick, with_commands, with_arrivals, eager_segment, eagerly}
use Rattle.exb_model.specs.LegalHistory.{settled_each}

pub then-append : (h : History) (xs ys : List Event) → (h then (xs ++ ys)) ≡ ((h then xs) then ys)
then-append h [] ys = refl
then-append h (x ∷ xs) ys = then-append (x ∷ h) xs ys

-- the tick of a segment
abbrev pub tick_play : ℕ → List Event
tick_play seconds = if seconds == 0 then [] else event.Tick seconds ∷ []

tick-then : (seconds : ℕ) (h : History) → with_tick seconds h ≡ (h then tick_play seconds)
tick-then seconds h = by_test (seconds == 0)
  where
    by_test : (b : Bool) → cond b h (event.Tick seconds ∷ h) ≡ (h then cond b [] (event.Tick seconds ∷ []))
    by_test true = refl
    by_test false = refl

-- what comes of arrivals
abbrev pub arrivals_play : Basis → History → List Arrival → List Event
arrivals_play b h [] = []
arrivals_play b h (a ∷ rest) = arrival_event (bridge_after b h) a ∷ arrivals_play b (arrival_event (bridge_after b h) a ∷ h) rest

arrivals-then : (b : Basis) (h : History) (arrived : List Arrival) → with_arrivals b h arrived ≡ (h then arrivals_play b h arrived)
arrivals-then b h [] = refl
arrivals-then b h (a ∷ rest) = arrivals-then b (arrival_event (bridge_after b h) a ∷ h) rest

module _ (t : Shape) (l : Limits) (b : Basis) where
  -- what comes of commands
  abbrev pub commands_play : History → List ℕ → List Event
  commands_play h [] = []
  commands_play h (n ∷ ns) = command_event t l b (bridge_after b h) n ∷ commands_play (command_event t l b (bridge_after b h) n ∷ h) ns

  commands-then : (h : History) (ns : List ℕ) → with_commands t l b h ns ≡ (h then commands_play h ns)
  commands-then h [] = refl
  commands-then h (n ∷ ns) = commands-then (command_event t l b (bridge_after b h) n ∷ h) ns

  -- where the arrivals of a segment begin
  abbrev pub before_arrivals : History → Segment → History
  before_arrivals h s = with_commands t l b (with_tick s.seconds h) s.commands

  -- the events of a segment, but for its Settled
  abbrev pub play : History → Segment → List Event
  play h s = tick_play s.seconds ++ (commands_play (with_tick s.seconds h) s.commands ++ arrivals_play b (before_arrivals h s) s.arrivals)

  play-then : (h : History) (s : Segment) → with_arrivals b (before_arrivals h s) s.arrivals ≡ (h then play h s)
  play-then h s =
      let ticked : History = with_tick s.seconds h in
      let commanded : List Event = commands_play ticked s.commands in
      let arrived : List Event = arrivals_play b (before_arrivals h s) s.arrivals in
      arrivals-then b (before_arrivals h s) s.arrivals
      ∙ ap (λ g. g then arrived) (commands-then ticked s.commands)
      ∙ sym (then-append ticked commanded arrived)
      ∙ ap (λ g. g then (commanded ++ arrived)) (tick-then s.seconds h)
      ∙ sym (then-append h (tick_play s.seconds) (commanded ++ arrived))

  pub segment-then : (h : History) (s : Segment) → eager_segment t l b h s ≡ (h then (play h s ++ event.Settled ∷ []))
  segment-then h s = ap (λ g. event.Settled ∷ g) (play-then h s) ∙ sym (then-append h (play h s) (event.Settled ∷ []))

  -- those of segments
  abbrev pub plays : History → List Segment → List (List Event)
  plays h [] = []
  plays h (s ∷ ss) = play h s ∷ plays (eager_segment t l b h s) ss

  pub segments-then : (h : History) (ss : List Segment) → eagerly t l b h ss ≡ (h then settled_each (plays h ss))
  segments-then h [] = refl
  segments-then h (s ∷ ss) =
      segments-then (eager_segment t l b h s) ss
      ∙ ap (λ g. g then settled_each (plays (eager_segment t l b h s) ss)) (segment-then h s)
      ∙ sym (then-append h (play h s ++ event.Settled ∷ []) (settled_each (plays (eager_segment t l b h s) ss)))
