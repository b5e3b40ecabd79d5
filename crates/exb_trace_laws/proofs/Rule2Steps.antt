-- Rule 2 is kept by each step: each extender does what its machine does.
use Rattle.std.proofs.Common.{◌≡◌, ◌≢◌, ℕ, zero, suc, ◌+◌, ◌<◌, ◌≤◌, nat_lt, Bool, true, false, cond, List, [], ◌∷◌, ◌++◌, filter, map, slice_get, slice_index, Option, Some, None, refl, ap, sym, ◌∙◌, subst, arith, inl, inr}
use Rattle.std.specs.List.{range_with_len}
use Rattle.std.proofs.lemmas.Bool.{cases_Bool, cases_eq, cases_lt, and_parts, ltb-true, lt-ltb, le-ltb, ne_eqb, false≢true}
use Rattle.exb_model.specs.Tree.{Shape, IsTree, device, on, is_extender, is_port, is_external, port_number}
use Rattle.exb_model.specs.Setup.{Limits}
use Rattle.exb_model.specs.declared.arrival.Arrival.{Arrival}
use Rattle.exb_model.proofs.TreeTrunks.{extender-low}
use Rattle.exb_csp.specs.Execution.{ExtenderTables}
use Rattle.exb_extender.specs.declared.sends.Side.{Side}
use Rattle.exb_extender.specs.declared.sends.Side.TheVariants as side
use Rattle.exb_extender.specs.Forwarding.{Sent, emitted}
use Rattle.exb_extender.specs.Machine.{ExtenderState, Reaction, Input, Arrives, Beats, react}
use Rattle.exb_link.specs.declared.link_frame.Stamp.{Stamp}
use Rattle.exb_link.specs.declared.link_frame.LinkFrame.{LinkFrame}
use Rattle.exb_link.specs.LinkFrames.{is_control, is_data, without_data, without_control}
use Rattle.exb_model.specs.Frames.{is_control_frame, IsBytes}
use Rattle.exb_relay.specs.Laws.{SendsAreWords}
use Rattle.exb_control_spec.specs.Runs.RequestTargets.{Knows}
use Rattle.exb_control_spec.specs.Machine.{State}
use Rattle.exb_world_spec.specs.Worlds.{World, Way, Up, Down, Step, Arrive, Carry, Control, Lose, Beat, Tick, Order, Mark, with_far, next_beat}
use Rattle.exb_model.specs.Tables.{at}
use Rattle.exb_world_spec.specs.Worlds as world
use Rattle.exb_world_spec.specs.Effects.{Effect, only, then_do, each}
use Rattle.exb_world_spec.specs.ExtenderSteps.{does, reacts, takes_from_below, stamp_of, ignored, does_or_ignores, arrives_at}
use Rattle.exb_world_spec.specs.ControlFrames.{beats_near, beats_control}
use Rattle.exb_world_spec.specs.DataFrames.{comes, bridge_takes}
use Rattle.exb_world_spec.specs.Steps.{words_on, with_words, takes, takes_any, first_data, control_at, rest_of, counted, arrives, if_there, all_extenders, beats_all, done_by, line_at, line_of, line_of_any, lines_in}
use Rattle.exb_world_spec.specs.AllowedSteps.{Can}
use Rattle.exb_world_spec.specs.Runs.Sessions.{Each}
use Rattle.exb_world_spec.specs.Runs.SessionLaws.{HasBytes}
use Rattle.exb_world_spec.proofs.Trunks.{above_there}
use Rattle.exb_world_spec.proofs.LinkFrames.{each_append, each_weaker, each_filter, each_get, at_here, at_other}
use Rattle.exb_model.specs.Traces.{TraceLine, In, Out, Journal}
use Rattle.exb_world_spec.specs.TraceLines.{told, all_told}
use Rattle.exb_model.specs.Traces as line
use Rattle.exb_trace_spec.specs.Rule2Extenders.{Watch, side_of}
use Rattle.exb_trace_laws.proofs.ReachablePorts.{KnowsTree}
use Rattle.exb_trace_laws.proofs.EffectLines.{Any, Tells, told_append, tells_then, tells_none}
use Rattle.exb_trace_laws.proofs.ExtenderLines.{sent_line, each_out, each_far}
use Rattle.exb_trace_laws.proofs.RequestLines.{ordered_tells, control_tells, near_tells, near_control}
use Rattle.exb_trace_laws.proofs.RelayLines.{comes_tells}
use Rattle.exb_trace_laws.proofs.BridgeLines.{bridge_tells}
use Rattle.exb_trace_laws.proofs.InputLines.{told_at}
use Rattle.exb_trace_laws.proofs.StepLines.{Brings, BringsBytes, home}
use Rattle.exb_trace_laws.proofs.Rule1And3And4Steps.{journaled, after_head}
use Rattle.exb_trace_laws.proofs.Rule2Lines.{quiet, Follows, follows_then, follows_none, IsOfOther, follows_others, journal_of_others, sends_of_others, follows_in, follows_beat, follows_sends}

-- ---- lines of the bridge
abbrev pub IsByBridge : TraceLine → Type 0
IsByBridge (Out n k f) = n ≡ 0
IsByBridge _ = ⊥

bridge_is_other : (m : ℕ) → 0 < m → (l : TraceLine) → IsByBridge l → IsOfOther m l
bridge_is_other m some (In n k f) h = absurd h
bridge_is_other m some (Out n k f) h = λ e. omega (arith, h, e)
bridge_is_other m some line.Beat h = absurd h
bridge_is_other m some (Journal x) h = absurd h

-- extender m has gone on with its machine
abbrev pub Keeps : ℕ → World → List TraceLine → Effect → Type 0
Keeps m w ls e = Follows m (quiet (w.far m)) (ls ++ after_head e) (quiet (e.world.far m))

-- nothing was its own
others_keep : (m : ℕ) (w : World) (ls : List TraceLine) (e : Effect) → Each (IsOfOther m) ls → Each (IsOfOther m) (all_told e.outs) → e.world.far m ≡ w.far m → Keeps m w ls e
others_keep m w ls e first outs same =
    subst (λ x. Follows m (quiet (w.far m)) (ls ++ after_head e) (quiet x)) (sym same)
    (follows_others m (quiet (w.far m)) (ls ++ after_head e) (each_append (IsOfOther m) ls (after_head e) first (each_append (IsOfOther m) (journaled e.events) (all_told e.outs) (journal_of_others m e.events) outs)))

bridge_keeps : (t : Shape) (m : ℕ) → 0 < m → (w start : World) (ls : List TraceLine) (e : Effect) → start.far ≡ w.far → Each (IsOfOther m) ls → Tells t IsByBridge Any start e → Keeps m w ls e
bridge_keeps t m some w start ls e same first tells =
    others_keep m w ls e first (each_weaker IsByBridge (IsOfOther m) (all_told e.outs) (bridge_is_other m some) tells.shows.lines) (ap (λ (g : ℕ → ExtenderState). g m) (tells.far ∙ same))

-- ---- an extender reacts
-- what it sends is told, after its first line
sends_follow : (n : ℕ) (x : ExtenderState) (ss : List Sent) (e : Effect) → e.outs ≡ map (sent_line n) ss → Follows n (record { state = x; owed = ss }) (after_head e) (quiet x)
sends_follow n x ss e is =
    follows_then n (record { state = x; owed = ss }) (record { state = x; owed = ss }) (quiet x) (journaled e.events) (all_told e.outs)
    (follows_others n (record { state = x; owed = ss }) (journaled e.events) (journal_of_others n e.events))
    (subst (λ (ls : List world.Line). Follows n (record { state = x; owed = ss }) (all_told ls) (quiet x)) (sym is) (follows_sends n x ss))

-- the line by which a frame comes to it, and what is done
reaction_keeps : (m n k : ℕ) (s : Side) (f : List ℕ) (w : World) (e : Effect) → side_of k ≡ s → e.outs ≡ map (sent_line n) (react (Arrives s f) (w.far n)).1 → e.world.far ≡ at n (react (Arrives s f) (w.far n)).0 w.far → Keeps m w (In n k f ∷ []) e
reaction_keeps m n k s f w e is sent far =
    elim (cases_eq m n) [
      | inl same ↦ subst (λ (i : ℕ). Keeps i w (In n k f ∷ []) e) (sym same) own
      | inr ne ↦
          others_keep m w (In n k f ∷ []) e (λ z. ne (sym z), tt)
          (subst (λ (ls : List world.Line). Each (IsOfOther m) (all_told ls)) (sym sent) (sends_of_others m n (react (Arrives s f) (w.far n)).1 (λ z. ne (sym z))))
          (ap (λ (g : ℕ → ExtenderState). g m) far ∙ at_other n m (react (Arrives s f) (w.far n)).0 w.far ne)
    ]
  where
    r : Reaction
    r = react (Arrives s f) (w.far n)

    own : Keeps n w (In n k f ∷ []) e
    own =
        let now : e.world.far n ≡ (react (Arrives s f) (w.far n)).0 = ap (λ (g : ℕ → ExtenderState). g n) far ∙ at_here n (react (Arrives s f) (w.far n)).0 w.far in
        subst (λ x. Follows n (quiet (w.far n)) (In n k f ∷ [] ++ after_head e) (quiet x)) (sym now)
        (follows_then n (quiet (w.far n)) (record { state = (react (Arrives s f) (w.far n)).0; owed = (react (Arrives s f) (w.far n)).1 }) (quiet (react (Arrives s f) (w.far n)).0) (In n k f ∷ []) (after_head e)
        (follows_in n k s f (w.far n) is) (sends_follow n (react (Arrives s f) (w.far n)).0 (react (Arrives s f) (w.far n)).1 e sent))

reacts_keep : (t : Shape) (m n k : ℕ) (s : Side) (f : List ℕ) (stamp : Option Stamp) (w v : World) → v.far ≡ w.far → side_of k ≡ s → Keeps m w (In n k f ∷ []) (reacts t n stamp (Arrives s f) v)
reacts_keep t m n k s f stamp w v same is =
    let i : Input = Arrives s f in
    reaction_keeps m n k s f w (reacts t n stamp i v) is
    (each_out t n stamp (react i (v.far n)).1 (with_far n (react i (v.far n)).0 v) ∙ ap (λ (g : ℕ → ExtenderState). map (sent_line n) (react i (g n)).1) same)
    (each_far t n stamp (react i (v.far n)).1 (with_far n (react i (v.far n)).0 v) ∙ ap (λ (g : ℕ → ExtenderState). at n (react i (g n)).0 g) same)

side_of_port : (p : ℕ) → side_of (port_number p) ≡ side.Port (port_number p)
side_of_port p = rw (ne_eqb (port_number p) 0 (λ e. omega arith)) refl

nothing_emitted : (x : ExtenderTables) (k : ℕ) (f : List ℕ) → x.cascade k ≡ false → x.own k ≡ 0 → emitted x (side.Port k) f ≡ []
unfolding emitted
nothing_emitted x k f e z = rw (e, z) refl

at_itself_all : (n : ℕ) (w : World) → at n (w.far n) w.far ≡ w.far
at_itself_all n w = Rattle.exb_world_spec.proofs.LinkFrames.at_itself n w.far

module _ (t : Shape) (l : Limits) (tree : IsTree t) (law : SendsAreWords) (m : ℕ) (there : is_extender t m ≡ true) where
  some : 0 < m
  some = ltb-true 0 m (and_parts (nat_lt 0 m) (nat_lt 0 (slice_index t.ports m)) there).0

  down : (n : ℕ) (f : List ℕ) → is_extender t n ≡ true → on t n < 64 → is_control_frame f ≡ true → IsByBridge (line.Out 0 (on t n + 1) f)
  down n f a b c = refl

  out : (k : ℕ) (f : List ℕ) → k < 64 → is_port t k ≡ true → IsByBridge (line.Out 0 (k + 1) f)
  out k f a b = refl

  -- a frame that comes to the bridge
  at_bridge : (p : ℕ) (f : List ℕ) → p < 64 → Each (IsOfOther m) (told (line_at p f) ∷ [])
  at_bridge p f low = (subst (IsOfOther m) (sym (told_at p f)) (λ e. (let d : device p ≡ 0 = omega arith in omega (arith, some))), tt)

  -- ---- words
  word_keeps : (n : ℕ) (way : Way) (x : LinkFrame) (rest : List LinkFrame) (w : World) → Brings t w → KnowsTree t w.far → is_extender t n ≡ true → IsBytes x.bytes →
      Keeps m w (told (line_of t n way x.bytes) ∷ []) (takes t l n way x (with_words n way rest w))
  word_keeps n Down x rest w b knows its bytes = reacts_keep t m n 0 side.Up x.bytes x.stamp w (with_words n Down rest w) refl refl
  word_keeps n Up x rest w b knows its bytes =
      let v : World = with_words n Up rest w in
      let p : ℕ = on t n in
      elim (cases_lt (on t n) 64) [
        | inl low ↦
            let is : takes t l n Up x v ≡ bridge_takes t l p n x v = rw (lt-ltb (on t n) 64 low) refl in
            subst (λ e. Keeps m w (told (line_at p x.bytes) ∷ []) e) (sym is) (bridge_keeps t m some w v (told (line_at p x.bytes) ∷ []) (bridge_takes t l p n x v) refl (at_bridge p x.bytes low)
            (bridge_tells t l tree IsByBridge down law out p n x v its b.knows (record { ready = b.ready.ready; numbering = b.ready.numbering; pvids = b.ready.pvids }) bytes))
        | inr deep ↦
            let is : takes t l n Up x v ≡ takes_from_below t (device p) (port_number p) x v = rw (le-ltb (on t n) 64 deep) refl in
            subst (λ e. Keeps m w (told (line_at p x.bytes) ∷ []) e) (sym is) (below deep (above_there t tree n its deep))
      ]
    where
      below : 64 ≤ on t n → is_extender t (device (on t n)) ≡ true → Keeps m w (told (line_at (on t n) x.bytes) ∷ []) (takes_from_below t (device (on t n)) (port_number (on t n)) x (with_words n Up rest w))
      below deep above =
          let v : World = with_words n Up rest w in
          let p : ℕ = on t n in
          subst (λ l. Keeps m w (l ∷ []) (takes_from_below t (device p) (port_number p) x v)) (sym (told_at p x.bytes)) (
          elim (cases_Bool ((w.far (device p)).tables.cascade (port_number p))) [
            | inl e ↦ rw e (reacts_keep t m (device p) (port_number p) (side.Port (port_number p)) x.bytes x.stamp w v refl (side_of_port p))
            | inr e ↦ elim (knows.cascades n its above) [
              | inl c ↦ absurd (false≢true (sym e ∙ c))
              | inr z ↦
                  let none : emitted (w.far (device p)).tables (side.Port (port_number p)) x.bytes ≡ [] = nothing_emitted (w.far (device p)).tables (port_number p) x.bytes e z in
                  rw e (reaction_keeps m (device p) (port_number p) (side.Port (port_number p)) x.bytes w (only v) (side_of_port p) (sym (ap (λ ss. map (sent_line (device p)) ss) none)) (sym (at_itself_all (device p) w)))
            ]
          ])

  any_keeps : (n : ℕ) (way : Way) (o : Option LinkFrame) (rest : List LinkFrame) (w : World) → Brings t w → KnowsTree t w.far → is_extender t n ≡ true → ((x : LinkFrame) → o ≡ Some x → IsBytes x.bytes) → Keeps m w (all_told (line_of_any t n way o)) (takes_any t l n way o rest w)
  any_keeps n way None rest w b knows its bytes = others_keep m w [] (only w) tt tt refl
  any_keeps n way (Some x) rest w b knows its bytes = word_keeps n way x rest w b knows its (bytes x refl)

  -- ---- arrivals
  station_keeps : (a : Arrival) (ss : List Sent) (w v : World) → v.far ≡ w.far → emitted (w.far (device a.port)).tables (side.Port (port_number a.port)) a.bytes ≡ ss →
      Keeps m w (In (device a.port) (port_number a.port) a.bytes ∷ []) (does_or_ignores t a (w.far (device a.port), ss) v)
  station_keeps a [] w v same is =
      let n : ℕ = device a.port in
      reaction_keeps m n (port_number a.port) (side.Port (port_number a.port)) a.bytes w (ignored a v) (side_of_port a.port) (sym (ap (λ ss. map (sent_line n) ss) is)) (same ∙ sym (at_itself_all n w))
  station_keeps a (x ∷ xs) w v same is =
      let n : ℕ = device a.port in
      reaction_keeps m n (port_number a.port) (side.Port (port_number a.port)) a.bytes w (does t n (Some (stamp_of a)) (w.far n, x ∷ xs) v) (side_of_port a.port)
      (each_out t n (Some (stamp_of a)) (x ∷ xs) (with_far n (w.far n) v) ∙ sym (ap (λ ss. map (sent_line n) ss) is))
      (each_far t n (Some (stamp_of a)) (x ∷ xs) (with_far n (w.far n) v) ∙ ap (λ (g : ℕ → ExtenderState). at n (w.far n) g) same)

  arrival_keeps : (a : Arrival) (w : World) → Brings t w → KnowsTree t w.far → is_external t a.port ≡ true → IsBytes a.bytes → Keeps m w (told (line_at a.port a.bytes) ∷ []) (arrives t a w)
  arrival_keeps a w b knows external bytes =
      let v : World = counted a w in
      elim (cases_lt a.port 64) [
        | inl low ↦
            let is : arrives t a w ≡ comes t a v = rw (lt-ltb a.port 64 low) refl in
            subst (λ e. Keeps m w (told (line_at a.port a.bytes) ∷ []) e) (sym is) (bridge_keeps t m some w v (told (line_at a.port a.bytes) ∷ []) (comes t a v) refl (at_bridge a.port a.bytes low)
            (comes_tells t tree IsByBridge Any out law a v (record { ready = b.ready.ready; numbering = b.ready.numbering; pvids = b.ready.pvids }) bytes tt))
        | inr high ↦
            let n : ℕ = device a.port in
            let ss : List Sent = emitted (w.far n).tables (side.Port (port_number a.port)) a.bytes in
            let plain : (w.far n).tables.cascade (port_number a.port) ≡ false = knows.stations a.port external (home t a.port high external) in
            let first : arrives t a w ≡ arrives_at t a v = rw (le-ltb a.port 64 high) refl in
            let second : arrives_at t a v ≡ does_or_ignores t a (w.far n, ss) v = ap (λ (b : Bool). cond b (ignored a v) (does_or_ignores t a (w.far n, ss) v)) plain in
            subst (λ e. Keeps m w (told (line_at a.port a.bytes) ∷ []) e) (sym (first ∙ second))
            (subst (λ l. Keeps m w (l ∷ []) (does_or_ignores t a (w.far n, ss) v)) (sym (told_at a.port a.bytes)) (station_keeps a ss w v refl refl))
      ]

  -- ---- beats
  abbrev beat : ℕ → World → Effect
  beat n w = reacts t n None Beats w

  owing : ExtenderState → Watch
  owing x = record { state = (react Beats x).0; owed = (react Beats x).1 }

  one_outs : (n : ℕ) (v : World) → (beat n v).outs ≡ map (sent_line n) (react Beats (v.far n)).1
  one_outs n v = each_out t n None (react Beats (v.far n)).1 (with_far n (react Beats (v.far n)).0 v)

  one_far : (n : ℕ) (v : World) → (beat n v).world.far ≡ at n (react Beats (v.far n)).0 v.far
  one_far n v = each_far t n None (react Beats (v.far n)).1 (with_far n (react Beats (v.far n)).0 v)

  -- another extender's turn
  other_turn : (n : ℕ) (y : Watch) (v : World) → m ≢ n → Follows m y (all_told (if_there t beat n v).outs) y × ((if_there t beat n v).world.far m ≡ v.far m)
  other_turn n y v ne =
      elim (cases_Bool (is_extender t n)) [
        | inr e ↦ rw e (follows_none m y, refl)
        | inl e ↦ rw e (
          subst (λ (ls : List world.Line). Follows m y (all_told ls) y) (sym (one_outs n v)) (follows_others m y (all_told (map (sent_line n) (react Beats (v.far n)).1)) (sends_of_others m n (react Beats (v.far n)).1 (λ z. ne (sym z)))),
          ap (λ (g : ℕ → ExtenderState). g m) (one_far n v) ∙ at_other n m (react Beats (v.far n)).0 v.far ne,
        )
      ]

  own_turn : (v : World) → Follows m (record { state = (react Beats (v.far m)).0; owed = (react Beats (v.far m)).1 }) (all_told (if_there t beat m v).outs) (quiet ((if_there t beat m v).world.far m))
  own_turn v =
      let now : (beat m v).world.far m ≡ (react Beats (v.far m)).0 = ap (λ (g : ℕ → ExtenderState). g m) (one_far m v) ∙ at_here m (react Beats (v.far m)).0 v.far in
      let k : Follows m (record { state = (react Beats (v.far m)).0; owed = (react Beats (v.far m)).1 }) (all_told (map (sent_line m) (react Beats (v.far m)).1)) (quiet (react Beats (v.far m)).0) = follows_sends m (react Beats (v.far m)).0 (react Beats (v.far m)).1 in
      let j = subst (λ (ls : List world.Line). Follows m (record { state = (react Beats (v.far m)).0; owed = (react Beats (v.far m)).1 }) (all_told ls) (quiet (react Beats (v.far m)).0)) (sym (one_outs m v)) k in
      rw there (subst (λ x. Follows m (record { state = (react Beats (v.far m)).0; owed = (react Beats (v.far m)).1 }) (all_told (beat m v).outs) (quiet x)) (sym now) j)

  turns_then : (n : ℕ) (ns : List ℕ) (x y z : Watch) (v : World) → Follows m x (all_told (if_there t beat n v).outs) y → Follows m y (all_told (each (if_there t beat) ns (if_there t beat n v).world).outs) z →
      Follows m x (all_told (each (if_there t beat) (n ∷ ns) v).outs) z
  turns_then n ns x y z v a b =
      let e : Effect = if_there t beat n v in
      let rest : Effect = each (if_there t beat) ns e.world in
      subst (λ ls. Follows m x ls z) (sym (told_append e.outs rest.outs)) (follows_then m x y z (all_told e.outs) (all_told rest.outs) a b)

  -- turns of others alone
  turns_after : (a len : ℕ) (y : Watch) (v : World) → m < a → Follows m y (all_told (each (if_there t beat) (range_with_len a len) v).outs) y × ((each (if_there t beat) (range_with_len a len) v).world.far m ≡ v.far m)
  turns_after a zero y v low = (follows_none m y, refl)
  turns_after a (suc len) y v low =
      let one = other_turn a y v (λ e. omega arith) in
      let rest = turns_after (a + 1) len y (if_there t beat a v).world (omega arith) in
      (turns_then a (range_with_len (a + 1) len) y y y v one.0 rest.0, rest.1 ∙ one.1)

  turns : (a len : ℕ) (x : ExtenderState) (v : World) → v.far m ≡ x → a ≤ m → m < a + len →
      Follows m (record { state = (react Beats x).0; owed = (react Beats x).1 }) (all_told (each (if_there t beat) (range_with_len a len) v).outs) (quiet ((each (if_there t beat) (range_with_len a len) v).world.far m))
  turns a zero x v e low high = absurd (omega arith)
  turns a (suc len) x v e low high =
      let y : Watch = record { state = (react Beats x).0; owed = (react Beats x).1 } in
      let u : World = (if_there t beat a v).world in
      let rest_of_all : Effect = each (if_there t beat) (range_with_len (a + 1) len) u in
      elim (cases_eq m a) [
        | inr ne ↦
            let one = other_turn a y v ne in
            let rest = turns (a + 1) len x u (one.1 ∙ e) (omega arith) (omega arith) in
            turns_then a (range_with_len (a + 1) len) y y (quiet (rest_of_all.world.far m)) v one.0 rest
        | inl same ↦
            let mine : Follows m y (all_told (if_there t beat a v).outs) (quiet (u.far m)) =
            subst (λ (i : ℕ). Follows m y (all_told (if_there t beat i v).outs) (quiet ((if_there t beat i v).world.far m))) same
            (subst (λ (z : ExtenderState). Follows m (record { state = (react Beats z).0; owed = (react Beats z).1 }) (all_told (if_there t beat m v).outs) (quiet ((if_there t beat m v).world.far m))) e (own_turn v))
            in
            let rest = turns_after (a + 1) len (quiet (u.far m)) u (omega arith) in
            subst (λ z. Follows m y (all_told (each (if_there t beat) (range_with_len a (suc len)) v).outs) (quiet z)) (sym rest.1)
            (turns_then a (range_with_len (a + 1) len) y (quiet (u.far m)) (quiet (u.far m)) v mine rest.0)
      ]

  -- the bridge's part of a beat
  abbrev KnowsFar : (ℕ → ExtenderState) → World → Type 0
  KnowsFar far v = Knows t v.control × (v.far ≡ far)

  pub near_part : (ns : List ℕ) (v : World) → Knows t v.control → Tells t IsByBridge Any v (each (if_there t (beats_near t)) ns v) × Knows t (each (if_there t (beats_near t)) ns v).world.control
  near_part [] v knows = (tells_none t IsByBridge Any v (only v) refl refl refl refl refl tt refl, knows)
  near_part (n ∷ ns) v knows =
      let one = one_near n v knows in
      let rest = near_part ns (if_there t (beats_near t) n v).world one.1 in
      (tells_then t IsByBridge Any v (if_there t (beats_near t) n v) (each (if_there t (beats_near t)) ns) one.0 rest.0, rest.1)
    where
      one_near : (n : ℕ) (v : World) → Knows t v.control → Tells t IsByBridge Any v (if_there t (beats_near t) n v) × Knows t (if_there t (beats_near t) n v).world.control
      one_near n v knows =
          elim (cases_Bool (is_extender t n)) [
            | inl a ↦ rw a (near_tells t tree IsByBridge Any down (λ e p. tt) n v a, subst (λ (s : State). Knows t s) (sym (near_control t n v)) knows)
            | inr a ↦ rw a (tells_none t IsByBridge Any v (only v) refl refl refl refl refl tt refl, knows)
          ]

  beat_keeps : (w : World) → Brings t w → Keeps m w (line.Beat ∷ []) (beats_all t w)
  unfolding beats_all
  beat_keeps w b =
      let v : World = record w { beats = next_beat w.beats } in
      let near : Effect = each (if_there t (beats_near t)) all_extenders v in
      let one = near_part all_extenders v b.knows in
      let first : Effect = then_do near (beats_control t) in
      let told_first : Tells t IsByBridge Any v first = tells_then t IsByBridge Any v near (beats_control t) one.0 (control_tells t tree IsByBridge Any down (λ e p. tt) l near.world one.1) in
      let last : Effect = each (if_there t beat) all_extenders first.world in
      let x : ExtenderState = w.far m in
      let y : Watch = record { state = (react Beats x).0; owed = (react Beats x).1 } in
      let same : first.world.far m ≡ x = ap (λ (g : ℕ → ExtenderState). g m) told_first.far in
      let low : m < 65 = extender-low t tree m there in
      let own : Follows m y (all_told last.outs) (quiet (last.world.far m)) = turns 1 64 x first.world same (omega (arith, some)) (omega arith) in
      let bridge : Follows m y (all_told first.outs) y = follows_others m y (all_told first.outs) (each_weaker IsByBridge (IsOfOther m) (all_told first.outs) (bridge_is_other m some) told_first.shows.lines) in
      let outs : Follows m y (all_told (first.outs ++ last.outs)) (quiet (last.world.far m)) =
      subst (λ ls. Follows m y ls (quiet (last.world.far m))) (sym (told_append first.outs last.outs)) (follows_then m y y (quiet (last.world.far m)) (all_told first.outs) (all_told last.outs) bridge own)
      in
      follows_then m (quiet x) y (quiet (last.world.far m)) (line.Beat ∷ []) (journaled (first.events ++ last.events) ++ all_told (first.outs ++ last.outs)) (follows_beat m x)
      (follows_then m y y (quiet (last.world.far m)) (journaled (first.events ++ last.events)) (all_told (first.outs ++ last.outs)) (follows_others m y (journaled (first.events ++ last.events)) (journal_of_others m (first.events ++ last.events))) outs)

  -- ---- each step
  get_bytes : (test : LinkFrame → Bool) (ws : List LinkFrame) (k : ℕ) (x : LinkFrame) → Each (λ (y : LinkFrame). IsBytes y.bytes) ws → slice_get (filter test ws) k ≡ Some x → IsBytes x.bytes
  get_bytes test ws k x all e = each_get (λ y. IsBytes y.bytes) (filter test ws) k x (each_filter (λ y. IsBytes y.bytes) test ws all) e

  pub step_keeps : (w : World) (step : Step) → Brings t w → KnowsTree t w.far → BringsBytes w → HasBytes step → Can t w step → Keeps m w (all_told (lines_in t step w)) (done_by t l step w)
  step_keeps w (Arrive a) b knows bytes has can = arrival_keeps a w b knows can.external has
  step_keeps w (Carry n way) b knows bytes has can =
      any_keeps n way (first_data (words_on n way w)) (without_data (words_on n way w)) w b knows can.0 (λ x e. get_bytes is_data (words_on n way w) 0 x (bytes.words n way) e)
  step_keeps w (Control n way k keep) b knows bytes has can =
      any_keeps n way (control_at (words_on n way w) k) (rest_of keep (words_on n way w) k) w b knows can.0 (λ x e. get_bytes is_control (words_on n way w) k x (bytes.words n way) e)
  step_keeps w (Lose n Up k) b knows bytes has can = others_keep m w [] (only (with_words n Up (without_control (words_on n Up w) k) w)) tt tt refl
  step_keeps w (Lose n Down k) b knows bytes has can = others_keep m w [] (only (with_words n Down (without_control (words_on n Down w) k) w)) tt tt refl
  step_keeps w Beat b knows bytes has can = beat_keeps w b
  step_keeps w (Tick seconds) b knows bytes has can = others_keep m w [] (done_by t l (Tick seconds) w) tt tt refl
  step_keeps w (Order c) b knows bytes has can = bridge_keeps t m some w w [] (done_by t l (Order c) w) refl tt (ordered_tells t tree IsByBridge Any down (λ e p. tt) l c w can.0 b.knows)
  step_keeps w Mark b knows bytes has can = others_keep m w [] (done_by t l Mark w) tt tt refl
