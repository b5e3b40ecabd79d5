-- Each step: what it takes from the links, and that all that it does is told.
use Rattle.std.proofs.Common.{◌≡◌, ℕ, zero, suc, ◌+◌, ◌%◌, ◌<◌, ◌≤◌, nat_lt, nat_le, true, List, [], ◌∷◌, ◌++◌, filter, length, slice_get, slice_index, Option, Some, refl, ap, sym, subst, arith, inl, inr}
use Rattle.std.proofs.lemmas.Bool.{cases_Bool, cases_lt, and_parts, and_from, ltb-true, lt-ltb, le-ltb, le-leb, ne_eqb}
use Rattle.exb_model.specs.Tree.{Shape, IsTree, device, on, is_extender, is_port, is_external, port_number}
use Rattle.exb_model.specs.Setup.{Limits}
use Rattle.exb_model.specs.declared.arrival.Arrival.{Arrival}
use Rattle.exb_model.specs.Frames.{IsBytes}
use Rattle.exb_extender.specs.declared.sends.Side.{Side}
use Rattle.exb_extender.specs.declared.sends.Side.TheVariants as side
use Rattle.exb_extender.specs.Forwarding.{Sent}
use Rattle.exb_extender.specs.Machine.{ExtenderState, Input, Arrives, react}
use Rattle.exb_link.specs.declared.link_frame.Stamp.{Stamp}
use Rattle.exb_link.specs.declared.link_frame.LinkFrame.{LinkFrame}
use Rattle.exb_link.specs.LinkFrames.{is_control, is_data, leading, without_data, without_control}
use Rattle.exb_relay.specs.Laws.{SendsAreWords}
use Rattle.exb_control_spec.specs.Runs.RequestTargets.{Knows}
use Rattle.exb_world_spec.specs.Worlds.{World, Way, Up, Down, Step, Arrive, Carry, Control, Lose, Beat, Tick, Order, Mark, with_far}
use Rattle.exb_world_spec.specs.Effects.{Effect, only}
use Rattle.exb_world_spec.specs.ExtenderSteps.{does, reacts, takes_from_below, stamp_of, ignored, does_or_ignores, arrives_at}
use Rattle.exb_world_spec.specs.DataFrames.{comes, bridge_takes}
use Rattle.exb_world_spec.specs.Steps.{words_on, with_words, takes, takes_any, first_data, control_at, rest_of, counted, arrives, done_by, line_at, line_of, lines_in}
use Rattle.exb_world_spec.specs.AllowedSteps.{Can}
use Rattle.exb_world_spec.specs.Runs.Sessions.{Each}
use Rattle.exb_world_spec.specs.Runs.SessionLaws.{HasBytes, HasFewPorts}
use Rattle.exb_world_spec.proofs.Trunks.{above_there}
use Rattle.exb_world_spec.proofs.LinkFrames.{each_filter, each_get}
use Rattle.exb_model.specs.Traces.{TraceLine, Out}
use Rattle.exb_world_spec.specs.TraceLines.{told, all_told, side_number}
use Rattle.exb_model.specs.Traces as line
use Rattle.exb_trace_spec.specs.Rule1Places.{is_place}
use Rattle.exb_trace_laws.proofs.ReachablePorts.{RelayReady}
use Rattle.exb_trace_laws.proofs.EffectLines.{Any, Shows, shows_none, shows_from, port_is_place, upstream_is_place, on_is_port}
use Rattle.exb_trace_laws.proofs.ExtenderSides.{FitsSide, AllFit}
use Rattle.exb_trace_laws.proofs.ExtenderLines.{does_tells}
use Rattle.exb_trace_laws.proofs.RequestLines.{ordered_tells}
use Rattle.exb_trace_laws.proofs.RelayLines.{comes_tells}
use Rattle.exb_trace_laws.proofs.BridgeLines.{bridge_tells}
use Rattle.exb_trace_laws.proofs.ReactionLines.{HasPorts, fit_of, reacts_shows, beat_shows}
use Rattle.exb_trace_laws.proofs.InputLines.{Takes, takes_none, takes_data, takes_control_word, takes_lost, arrival_no_word}

-- a line that goes out at a place that is there
abbrev pub IsOutAt : Shape → TraceLine → Type 0
IsOutAt t (Out n k f) = is_place t n k ≡ true
IsOutAt t _ = ⊥

-- what a world has to bring, whatever words are taken from it
pub record Brings (t : Shape) (w : World) : Type 0 where
  pub knows : Knows t w.control
  pub ready : RelayReady t w
  pub ports : HasPorts t w.far

-- the indices that ports await after a step
abbrev pub next_after : Step → World → ℕ → ℕ
next_after (Arrive a) w = (counted a w).next
next_after _ w = w.next

-- the bytes of what comes in are bytes
pub record BringsBytes (w : World) : Type 0 where
  pub words : (n : ℕ) (way : Way) → Each (λ (x : LinkFrame). IsBytes x.bytes) (words_on n way w)

-- an extended port's extender
pub home : (t : Shape) (p : ℕ) → 64 ≤ p → is_external t p ≡ true → is_extender t (device p) ≡ true
home t p high external =
    let known : is_port t p ≡ true = (and_parts (is_port t p) _ external).0 in
    let some : p % 64 < slice_index t.ports (device p) = ltb-true (p % 64) (slice_index t.ports (device p)) known in
    let first : 0 < device p = omega arith in
    and_from (nat_lt 0 (device p)) (nat_lt 0 (slice_index t.ports (device p))) (lt-ltb 0 (device p) first) (lt-ltb 0 (slice_index t.ports (device p)) (omega (arith, some)))

module _ (t : Shape) (l : Limits) (tree : IsTree t) (few : HasFewPorts t) (law : SendsAreWords) where
  -- ---- premises of the parts
  side_place : (n : ℕ) → is_extender t n ≡ true → (s : Side) → FitsSide (slice_index t.ports n) s → is_place t n (side_number s) ≡ true
  side_place n there side.Up fits = upstream_is_place t n there
  side_place n there (side.Port k) fits =
      let some : 0 < n = ltb-true 0 n (and_parts (nat_lt 0 n) (nat_lt 0 (slice_index t.ports n)) there).0 in
      rw (ne_eqb n 0 (λ e. omega arith)) (and_from (is_extender t n) (nat_le k (slice_index t.ports n)) there (le-leb k (slice_index t.ports n) fits.1))

  bridge_place : (k : ℕ) → k < 64 → is_port t k ≡ true → is_place t 0 (k + 1) ≡ true
  bridge_place k low port =
      let d : device k ≡ 0 = omega arith in
      let m : port_number k ≡ k + 1 = omega arith in
      subst (λ (j : ℕ). is_place t 0 j ≡ true) m (subst (λ (i : ℕ). is_place t i (port_number k) ≡ true) d (port_is_place t k port))

  control_out : (m : ℕ) (f : List ℕ) → is_extender t m ≡ true → on t m < 64 → Rattle.exb_model.specs.Frames.is_control_frame f ≡ true → IsOutAt t (line.Out 0 (on t m + 1) f)
  control_out m f there low control = bridge_place (on t m) low (on_is_port t tree m there)

  relay_out : (k : ℕ) (f : List ℕ) → k < 64 → is_port t k ≡ true → IsOutAt t (line.Out 0 (k + 1) f)
  relay_out k f low port = bridge_place k low port

  side_out : (n : ℕ) → is_extender t n ≡ true → (s : Sent) → FitsSide (slice_index t.ports n) s.side → IsOutAt t (line.Out n (side_number s.side) s.bytes)
  side_out n there s fits = side_place n there s.side fits

  its_fit : (i : Input) (n : ℕ) (w : World) → HasPorts t w.far → is_extender t n ≡ true → AllFit (slice_index t.ports n) (react i (w.far n)).1
  its_fit i n w ports there = fit_of t l tree few (IsOutAt t) Any side_out control_out (λ e p. tt) i n w ports there

  react_shows : (n : ℕ) (stamp : Option Stamp) (i : Input) (w : World) → is_extender t n ≡ true → HasPorts t w.far → Shows t (IsOutAt t) Any w (reacts t n stamp i w)
  react_shows n stamp i w there ports = reacts_shows t l tree few (IsOutAt t) Any side_out control_out (λ e p. tt) n stamp i w there ports

  -- ---- a step
  pub record Plays (w : World) (indices : ℕ → ℕ) (ls : List TraceLine) (e : Effect) : Type 0 where
    pub start : World
    -- the indices that ports then await
    pub awaits : start.next ≡ indices
    pub takes : Takes t tree w start ls
    pub shows : Shows t (IsOutAt t) Any start e

  idle_shows : (w : World) → Shows t (IsOutAt t) Any w (only w)
  idle_shows w = shows_none t (IsOutAt t) Any w (only w) refl refl refl refl refl tt

  comes_shows : (a : Arrival) (w : World) → RelayReady t w → IsBytes a.bytes → Shows t (IsOutAt t) Any w (comes t a w)
  comes_shows a w ready bytes = (comes_tells t tree (IsOutAt t) Any relay_out law a w ready bytes tt).shows

  bridge_shows : (k m : ℕ) (x : LinkFrame) (w : World) → is_extender t m ≡ true → Knows t w.control → RelayReady t w → IsBytes x.bytes → Shows t (IsOutAt t) Any w (bridge_takes t l k m x w)
  bridge_shows k m x w there knows ready bytes = (bridge_tells t l tree (IsOutAt t) control_out law relay_out k m x w there knows ready bytes).shows

  -- ---- words anywhere
  taken_shows : (n : ℕ) (way : Way) (x : LinkFrame) (w : World) → is_extender t n ≡ true → Knows t w.control → RelayReady t w → HasPorts t w.far → IsBytes x.bytes → Shows t (IsOutAt t) Any w (takes t l n way x w)
  taken_shows n Down x w there knows ready ports bytes = react_shows n x.stamp (Arrives side.Up x.bytes) w there ports
  taken_shows n Up x w there knows ready ports bytes =
      elim (cases_lt (on t n) 64) [
        | inl low ↦ rw (lt-ltb (on t n) 64 low) (bridge_shows (on t n) n x w there knows ready bytes)
        | inr deep ↦ rw (le-ltb (on t n) 64 deep) (below (above_there t tree n there deep))
      ]
    where
      below : is_extender t (device (on t n)) ≡ true → Shows t (IsOutAt t) Any w (takes_from_below t (device (on t n)) (port_number (on t n)) x w)
      below above =
          elim (cases_Bool ((w.far (device (on t n))).tables.cascade (port_number (on t n)))) [
            | inl e ↦ rw e (react_shows (device (on t n)) x.stamp (Arrives (side.Port (port_number (on t n))) x.bytes) w above ports)
            | inr e ↦ rw e (idle_shows w)
          ]

  brings_with : (n : ℕ) (way : Way) (ws : List LinkFrame) (w : World) → Brings t w → Brings t (with_words n way ws w)
  brings_with n Up ws w b = record { knows = b.knows; ready = record { ready = b.ready.ready; numbering = b.ready.numbering; pvids = b.ready.pvids }; ports = b.ports }
  brings_with n Down ws w b = record { knows = b.knows; ready = record { ready = b.ready.ready; numbering = b.ready.numbering; pvids = b.ready.pvids }; ports = b.ports }

  next_with : (n : ℕ) (way : Way) (ws : List LinkFrame) (w : World) → (with_words n way ws w).next ≡ w.next
  next_with n Up ws w = refl
  next_with n Down ws w = refl

  word_plays : (w : World) → Brings t w → (n : ℕ) (way : Way) (x : LinkFrame) (rest : List LinkFrame) (ls : List TraceLine) → is_extender t n ≡ true → IsBytes x.bytes → Takes t tree w (with_words n way rest w) ls →
      Plays w w.next ls (takes t l n way x (with_words n way rest w))
  word_plays w b n way x rest ls there bytes took =
      let c = brings_with n way rest w b in
      record { start = with_words n way rest w; awaits = next_with n way rest w; takes = took; shows = taken_shows n way x (with_words n way rest w) there c.knows c.ready c.ports bytes }

  -- ---- arrivals
  arrival_takes : (a : Arrival) (w : World) → is_external t a.port ≡ true → Takes t tree w (counted a w) (told (line_at a.port a.bytes) ∷ [])
  arrival_takes a w out = takes_none t tree w (counted a w) (told (line_at a.port a.bytes) ∷ []) refl refl (λ n way there. ap (λ zs. zs ++ []) (arrival_no_word t tree a.port a.bytes out n way there))

  does_shows : (a : Arrival) (s : ExtenderState) (ss : List Sent) (w : World) → is_extender t (device a.port) ≡ true → AllFit (slice_index t.ports (device a.port)) ss → Shows t (IsOutAt t) Any w (does_or_ignores t a (s, ss) w)
  does_shows a s [] w there fit = shows_none t (IsOutAt t) Any w (ignored a w) refl refl refl refl refl (tt, tt)
  does_shows a s (x ∷ xs) w there fit =
      let n : ℕ = device a.port in
      shows_from t (IsOutAt t) Any w (with_far n s w) (does t n (Some (stamp_of a)) (s, x ∷ xs) w) refl refl refl
      (does_tells t tree (IsOutAt t) Any n there (few n) (Some (stamp_of a)) (s, x ∷ xs) w fit (λ y fits. side_place n there y.side fits)).shows

  station_shows : (a : Arrival) (w : World) → HasPorts t w.far → is_extender t (device a.port) ≡ true → Shows t (IsOutAt t) Any w (arrives_at t a w)
  station_shows a w ports there =
      let n : ℕ = device a.port in
      let i : Input = Arrives (side.Port (port_number a.port)) a.bytes in
      elim (cases_Bool ((w.far n).tables.cascade (port_number a.port))) [
        | inl e ↦ rw e (shows_none t (IsOutAt t) Any w (ignored a w) refl refl refl refl refl (tt, tt))
        | inr e ↦ rw e (does_shows a (react i (w.far n)).0 (react i (w.far n)).1 w there (its_fit i n w ports there))
      ]

  arrival_shows : (a : Arrival) (w : World) → Brings t w → is_external t a.port ≡ true → IsBytes a.bytes → Shows t (IsOutAt t) Any (counted a w) (arrives t a w)
  arrival_shows a w b out bytes =
      let v : World = counted a w in
      elim (cases_lt a.port 64) [
        | inl low ↦ rw (lt-ltb a.port 64 low) (comes_shows a v (record { ready = b.ready.ready; numbering = b.ready.numbering; pvids = b.ready.pvids }) bytes)
        | inr high ↦ rw (le-ltb a.port 64 high) (station_shows a v b.ports (home t a.port high out))
      ]

  -- ---- each step
  some_at : {A : Type 0} (xs : List A) (k : ℕ) → k < length xs → (x : A) × (slice_get xs k ≡ Some x)
  some_at [] k few_left = absurd (omega (arith, few_left))
  some_at (x ∷ xs) zero few_left = (x, refl)
  some_at (x ∷ xs) (suc k) few_left = some_at xs k (omega (arith, few_left))

  some_leading : (ws : List LinkFrame) (k : ℕ) → k < leading ws → k < length (filter is_control ws)
  some_leading [] k few_left = few_left
  some_leading (w ∷ ws) zero few_left =
      elim (cases_Bool (is_control w)) [
        | inl c ↦ rw c (omega arith)
        | inr c ↦ absurd (let z : 0 < 0 = rw c at few_left in omega (arith, z))
      ]
  some_leading (w ∷ ws) (suc k) few_left =
      elim (cases_Bool (is_control w)) [
        | inl c ↦
            let z : suc k < suc (leading ws) = rw c at few_left in
            let more : k < length (filter is_control ws) = some_leading ws k (omega arith) in
            rw c (omega (arith, more))
        | inr c ↦ absurd (let z : suc k < 0 = rw c at few_left in omega (arith, z))
      ]

  any_plays : (w : World) → Brings t w → (n : ℕ) (way : Way) (o : Option LinkFrame) (x : LinkFrame) (rest : List LinkFrame) (ls : List TraceLine) → o ≡ Some x → is_extender t n ≡ true → IsBytes x.bytes → Takes t tree w (with_words n way rest w) ls →
      Plays w w.next ls (takes_any t l n way o rest w)
  any_plays w b n way o x rest ls e there bytes took =
      subst (λ (z : Option LinkFrame). Plays w w.next ls (takes_any t l n way z rest w)) (sym e) (word_plays w b n way x rest ls there bytes took)

  lines_same : (n : ℕ) (way : Way) (o : Option LinkFrame) (x : LinkFrame) → o ≡ Some x → all_told (Rattle.exb_world_spec.specs.Steps.line_of_any t n way o) ≡ told (line_of t n way x.bytes) ∷ []
  lines_same n way o x e = ap (λ (z : Option LinkFrame). all_told (Rattle.exb_world_spec.specs.Steps.line_of_any t n way z)) e

  pub step_plays : (w : World) (step : Step) → Brings t w → BringsBytes w → HasBytes step → Can t w step → Plays w (next_after step w) (all_told (lines_in t step w)) (done_by t l step w)
  step_plays w (Arrive a) b bytes has can = record { start = counted a w; awaits = refl; takes = arrival_takes a w can.external; shows = arrival_shows a w b can.external has }
  step_plays w (Carry n way) b bytes has can =
      let ws : List LinkFrame = words_on n way w in
      let found = some_at (filter is_data ws) 0 can.1 in
      let x : LinkFrame = found.0 in
      let its : IsBytes x.bytes = each_get (λ y. IsBytes y.bytes) (filter is_data ws) 0 x (each_filter (λ y. IsBytes y.bytes) is_data ws (bytes.words n way)) found.1 in
      subst (λ ls. Plays w w.next ls (takes_any t l n way (first_data ws) (without_data ws) w)) (sym (lines_same n way (first_data ws) x found.1))
      (any_plays w b n way (first_data ws) x (without_data ws) (told (line_of t n way x.bytes) ∷ []) found.1 can.0 its (takes_data t tree n way can.0 w x found.1))
  step_plays w (Control n way k keep) b bytes has can =
      let ws : List LinkFrame = words_on n way w in
      let found = some_at (filter is_control ws) k (some_leading ws k can.1) in
      let x : LinkFrame = found.0 in
      let its : IsBytes x.bytes = each_get (λ y. IsBytes y.bytes) (filter is_control ws) k x (each_filter (λ y. IsBytes y.bytes) is_control ws (bytes.words n way)) found.1 in
      subst (λ ls. Plays w w.next ls (takes_any t l n way (control_at ws k) (rest_of keep ws k) w)) (sym (lines_same n way (control_at ws k) x found.1))
      (any_plays w b n way (control_at ws k) x (rest_of keep ws k) (told (line_of t n way x.bytes) ∷ []) found.1 can.0 its (takes_control_word t tree n way can.0 w k keep x can.1 found.1))
  step_plays w (Lose n way k) b bytes has can =
      let v : World = with_words n way (without_control (words_on n way w) k) w in
      record { start = v; awaits = next_with n way (without_control (words_on n way w) k) w; takes = takes_lost t tree n way can.0 w k; shows = idle_shows v }
  step_plays w Beat b bytes has can = record { start = w; awaits = refl; takes = takes_none t tree w w (line.Beat ∷ []) refl refl (λ n way there. refl); shows = beat_shows t l tree few (IsOutAt t) Any side_out control_out (λ e p. tt) w b.knows b.ports }
  step_plays w (Tick seconds) b bytes has can =
      record { start = w; awaits = refl; takes = takes_none t tree w w [] refl refl (λ n way there. refl); shows = shows_none t (IsOutAt t) Any w (done_by t l (Tick seconds) w) refl refl refl refl refl (tt, tt) }
  step_plays w (Order c) b bytes has can =
      record { start = w; awaits = refl; takes = takes_none t tree w w [] refl refl (λ n way there. refl); shows = (ordered_tells t tree (IsOutAt t) Any control_out (λ e p. tt) l c w can.0 b.knows).shows }
  step_plays w Mark b bytes has can =
      record { start = w; awaits = refl; takes = takes_none t tree w w [] refl refl (λ n way there. refl); shows = shows_none t (IsOutAt t) Any w (done_by t l Mark w) refl refl refl refl refl (tt, tt) }
