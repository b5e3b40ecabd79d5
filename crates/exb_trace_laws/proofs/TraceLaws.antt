-- The laws of this crate.
use Rattle.std.proofs.Common.{◌≡◌, ℕ, ◌+◌, ◌==◌, Bool, true, false, cond, List, [], ◌∷◌, ◌++◌, length, slice_index, append-nil, Some, refl, ap, sym, ◌∙◌, subst, length-append, arith, inl, inr, filter}
use Rattle.std.proofs.lemmas.Bool.{cases_eq, eq-eqb, ne_eqb}
use Rattle.exb_model.specs.Tree.{Shape, IsTree, is_extender}
use Rattle.exb_model.specs.Setup.{Limits}
use Rattle.exb_model.specs.Lists.{numbered}
use Rattle.exb_model.specs.History.{History, ◌then◌}
use Rattle.exb_model.specs.declared.arrival.Arrival.{Arrival}
use Rattle.exb_model.specs.Frames.{IsBytes}
use Rattle.exb_csp.specs.PortMasks.{powered_on}
use Rattle.exb_extender.specs.Machine.{ExtenderState, Arrives, Beats, react}
use Rattle.exb_extender.specs.Forwarding.{Sent}
use Rattle.exb_extender.proofs.InvariantLemmas.{stays_extender}
use Rattle.exb_link.specs.declared.link_frame.LinkFrame.{LinkFrame}
use Rattle.exb_relay.specs.Laws.{SendsAreWords, AtMostTwo}
use Rattle.exb_control_spec.specs.Runs.PlannedChanges.{ReadyMidway, HeldAreNumbers}
use Rattle.exb_world_spec.specs.Worlds.{World, Way, Up, Down, Step, Arrive, Carry, Control, Lose, Beat, Tick, Order, Mark, Left}
use Rattle.exb_world_spec.specs.Effects.{Effect}
use Rattle.exb_world_spec.specs.Steps.{words_on, lines_in, done_by, stepped}
use Rattle.exb_world_spec.specs.AllowedSteps.{Can}
use Rattle.exb_world_spec.specs.Runs.Sessions.{Each}
use Rattle.exb_world_spec.specs.Runs.Simulation.{IsSound, system_of}
use Rattle.exb_world_spec.proofs.CascadeChannels.{forget}
use Rattle.exb_world_spec.specs.Runs.SessionLaws.{MayMake, HasFewPorts}
use Rattle.exb_model.specs.Traces.{TraceLine, In, Out, Journal}
use Rattle.exb_world_spec.specs.TraceLines.{all_told}
use Rattle.exb_model.specs.Traces as line
use Rattle.exb_trace_spec.specs.Rule2Extenders.{Watch, side_of, watched, watched_all, MayFollow, from_power_on, after_trace}
use Rattle.exb_trace_laws.specs.LinkEnds.{start_of, end_of}
use Rattle.exb_trace_spec.specs.Rule3Links.{ins, outs, data_of}
use Rattle.exb_trace_laws.specs.TraceRelation.{Traced, IsOnLink, bytes_of, captures_of, given_by}
use Rattle.exb_trace_laws.specs.TraceConditions.{Serves, AwaitsNext, IsRecord, AreRecords, IsReadyToTell}
use Rattle.exb_trace_laws.proofs.UpwardStamps.{records_kept}
use Rattle.exb_frame.specs.TagValues.{TagRoundTrip}
use Rattle.exb_trace_laws.specs.TraceLaws.{BeginsTraced, StepsStayTraced, SettledIsLegal}
use Rattle.exb_trace_laws.proofs.ReachablePorts.{relay_ready, knows_tree, NameSources}
use Rattle.exb_link.specs.LinkFrames.{is_control, is_data}
use Rattle.exb_world_spec.proofs.LinkFrames.{each_filter, each_get, each_weaker}
use Rattle.exb_trace_laws.proofs.LinkLines.{first_is_data}
use Rattle.exb_trace_spec.proofs.Prefixes.{front_itself}
use Rattle.exb_trace_laws.proofs.StepLines.{next_after, Plays, Brings, BringsBytes, step_plays}
use Rattle.exb_trace_laws.proofs.Rule1And3And4Steps.{after_head, lines_are, step_head, rest_after, links_kept, rule_3_kept, outs_kept, rule_1_kept, ins_kept, first_names, captured_more, captures_append}
use Rattle.exb_trace_laws.proofs.Rule2Lines.{quiet, Follows, follows_then}
use Rattle.exb_trace_laws.proofs.Rule2Steps.{step_keeps}
use Rattle.exb_trace_laws.proofs.Rule5Lines.{steps_more, steps_captured, numbered_more, numbered_last}
use Rattle.exb_trace_laws.proofs.Rule5Steps.{Opens, step_opens}
use Rattle.exb_trace_laws.proofs.LinePredicates.{both_ways}
use Rattle.exb_trace_spec.specs.Rule3Links.{AllCameIn}

-- ---- the beginning
pub begins_traced : BeginsTraced
unfolding watched_all MayFollow
begins_traced t l b ageing =
    record {
      legal = record {
        rule_1 = record { told = refl; places = tt };
        rule_2 = λ n there. record { each = tt; all_sent = refl };
        rule_3 = λ n there. record { up = record { data_in_order = (front_itself [], tt); control_in_order = tt }; down = record { data_in_order = (front_itself [], tt); control_in_order = tt } };
        rule_4 = record { arrived = λ p out. refl; left = λ p out. refl };
        rule_5 = record { none_before = refl; quiet_before = λ none k. refl; each = tt };
      };
      states = λ n there. refl;
      links = λ n way there. empty n way;
    }
  where
    empty : (n : ℕ) (way : Way) → IsOnLink [] [] (words_on n way (Rattle.exb_world_spec.specs.Worlds.first_world t l b ageing))
    empty n Up = record { frames = refl; controls = tt }
    empty n Down = record { frames = refl; controls = tt }

-- ---- the ports of extenders
watched_ports : (n : ℕ) (x : Watch) (l : TraceLine) → (watched n x l).state.tables.ports ≡ x.state.tables.ports
watched_ports n x (In m k f) = by_same (m == n)
  where
    by_same : (b : Bool) → (cond b (record { state = (react (Arrives (side_of k) f) x.state).0; owed = (react (Arrives (side_of k) f) x.state).1 }) x).state.tables.ports ≡ x.state.tables.ports
    by_same true = (stays_extender.device (Arrives (side_of k) f) x.state).ports
    by_same false = refl
watched_ports n x (Out m k f) = by_same (m == n)
  where
    by_same : (b : Bool) → (cond b (record x { owed = Rattle.exb_trace_spec.specs.Rule2Extenders.without_first x.owed }) x).state.tables.ports ≡ x.state.tables.ports
    by_same true = refl
    by_same false = refl
watched_ports n x line.Beat = (stays_extender.device Beats x.state).ports
watched_ports n x (Journal text) = refl

all_ports : (n : ℕ) (x : Watch) (ls : List TraceLine) → (watched_all n x ls).state.tables.ports ≡ x.state.tables.ports
unfolding watched_all
all_ports n x [] = refl
all_ports n x (l ∷ ls) = all_ports n (watched n x l) ls ∙ watched_ports n x l

powered_ports : (t : Shape) (n : ℕ) → (from_power_on t n).state.tables.ports ≡ slice_index t.ports n
unfolding powered_on
powered_ports t n = refl

-- ---- a step
watch_is : (x : Watch) (s : ExtenderState) → s ≡ x.state → x.owed ≡ [] → x ≡ quiet s
watch_is x s a b = ap (λ (o : List Sent). record { state = x.state; owed = o }) b ∙ ap (λ (z : ExtenderState). record { state = z; owed = [] }) (sym a)

module _ (sends : SendsAreWords) (two : AtMostTwo) (midway : ReadyMidway) (numbers_fit : HeldAreNumbers) where
  module _ (t : Shape) (l : Limits) (tree : IsTree t) (few : HasFewPorts t) (w : World) (step : Step) (arrivals : List Arrival) (h : History) (left : List Left) (lines : List TraceLine)
      (sound : IsSound t l w) (serves : Serves t w (captures_of arrivals)) (may : MayMake t l w step) (ready : IsReadyToTell t w) (traced : Traced t w arrivals h left lines) where
    abbrev e : Effect
    e = done_by t l step w

    abbrev first : List TraceLine
    first = all_told (lines_in t step w)

    abbrev more : List TraceLine
    more = first ++ after_head e

    brings : Brings t w
    brings =
        record {
          knows = sound.fits.ends.knows;
          ready = relay_ready midway numbers_fit t w tree (forget t l (system_of w) sound.stands) ready.pvids;
          ports = λ n there. ap (λ (x : ExtenderState). x.tables.ports) (traced.states n there) ∙ all_ports n (from_power_on t n) lines ∙ powered_ports t n;
        }

    bytes : BringsBytes w
    bytes = record { words = by_way }
      where
        by_way : (n : ℕ) (way : Way) → Each (λ (x : LinkFrame). IsBytes x.bytes) (words_on n way w)
        by_way n Up = may.bytes.ups n
        by_way n Down = may.bytes.downs n

    plays : Plays t l tree few sends w (next_after step w) (all_told (lines_in t step w)) (done_by t l step w)
    plays = step_plays t l tree few sends w step brings bytes may.has may.can

    -- ---- rule 2
    goes_on : (n : ℕ) → is_extender t n ≡ true → Follows n (from_power_on t n) (lines ++ (all_told (lines_in t step w) ++ after_head (done_by t l step w))) (quiet ((done_by t l step w).world.far n))
    goes_on n there =
        let old = traced.legal.rule_2 n there in
        let before : Follows n (from_power_on t n) lines (quiet (w.far n)) = record { may = old.each; is = watch_is (after_trace t n lines) (w.far n) (traced.states n there) old.all_sent } in
        follows_then n (from_power_on t n) (quiet (w.far n)) (quiet (e.world.far n)) lines more before (step_keeps t l tree sends n there w step brings (knows_tree t w tree (forget t l (system_of w) sound.stands) serves.stations) bytes may.has may.can)

    -- ---- rule 5
    numbers : (p n : ℕ) (f : List ℕ) → numbered (captures_of arrivals p) n ≡ Some f → numbered (captures_of (arrivals ++ given_by step) p) n ≡ Some f
    numbers p n f is = subst (λ zs. numbered zs n ≡ Some f) (sym (captures_append t tree arrivals (given_by step) p)) (numbered_more (captures_of arrivals p) (captures_of (given_by step) p) n f is)

    sources : NameSources t w (captures_of (arrivals ++ given_by step))
    sources n x there low is =
        let P : LinkFrame → Type 0 = λ y. is_control y ≡ false → IsRecord t (captures_of arrivals) y in
        let r : IsRecord t (captures_of arrivals) x = each_get P (filter is_data (w.up n)) 0 x (each_filter P is_data (w.up n) (serves.records n there)) is (first_is_data (w.up n) x is) in
        record { stamp = r.stamp; is = r.is; external = r.external; holder = ready.held n x r.stamp there low is r.is; frame = numbers r.stamp.port r.stamp.index _ r.frame }

    names : (a : Arrival) → step ≡ Arrive a → numbered (captures_of (arrivals ++ given_by step) a.port) a.index ≡ Some a.bytes
    names a is = let P : Step → Type 0 = λ s. Can t w s → numbered (captures_of (arrivals ++ given_by s) a.port) a.index ≡ Some a.bytes in subst P (sym is) its may.can
      where
        its : Can t w (Arrive a) → numbered (captures_of (arrivals ++ given_by (Arrive a)) a.port) a.index ≡ Some a.bytes
        its can =
            let index : a.index ≡ length (captures_of arrivals a.port) + 1 = can.next ∙ serves.next a.port in
            let one : captures_of (a ∷ []) a.port ≡ a.bytes ∷ [] = rw (eq-eqb a.port a.port refl) refl in
            let all : captures_of (arrivals ++ a ∷ []) a.port ≡ captures_of arrivals a.port ++ a.bytes ∷ [] = captures_append t tree arrivals (a ∷ []) a.port ∙ ap (λ zs. captures_of arrivals a.port ++ zs) one in
            ap (λ (n : ℕ). numbered (captures_of (arrivals ++ a ∷ []) a.port) n) index ∙ ap (λ zs. numbered zs (length (captures_of arrivals a.port) + 1)) all ∙ numbered_last (captures_of arrivals a.port) a.bytes

    after : Each Rattle.exb_trace_laws.proofs.Rule3Lines.IsAfter (after_head (done_by t l step w))
    after = rest_after t tree w plays.start first e (step_head t step w) plays.takes plays.shows

    opens : Opens t (captures_of (arrivals ++ given_by step)) (all_told (lines_in t step w) ++ after_head (done_by t l step w))
    opens = step_opens t l tree few two (captures_of (arrivals ++ given_by step)) w step brings may.can sources names plays.shows.lines after

    -- ---- stamps
    still_records : (n : ℕ) → is_extender t n ≡ true → Each (λ (x : LinkFrame). is_control x ≡ false → IsRecord t (captures_of (arrivals ++ given_by step)) x) (w.up n)
    still_records n there =
        each_weaker (λ x. is_control x ≡ false → IsRecord t (captures_of arrivals) x) (λ x. is_control x ≡ false → IsRecord t (captures_of (arrivals ++ given_by step)) x) (w.up n)
        (λ x k plain. (let r : IsRecord t (captures_of arrivals) x = k plain in record { stamp = r.stamp; is = r.is; external = r.external; frame = numbers r.stamp.port r.stamp.index _ r.frame })) (serves.records n there)

    records : TagRoundTrip → AreRecords t (done_by t l step w).world (captures_of (arrivals ++ given_by step))
    records round = records_kept t l tree sends round (captures_of (arrivals ++ given_by step)) w step brings sound.fits.ends.extenders bytes may.has may.can names still_records

    -- ---- indices
    same : (p : ℕ) → w.next p ≡ length (captures_of (arrivals ++ []) p) + 1
    same p = serves.next p ∙ ap (λ (xs : List Arrival). length (captures_of xs p) + 1) (sym (append-nil arrivals))

    awaited : (s : Step) → (p : ℕ) → next_after s w p ≡ length (captures_of (arrivals ++ given_by s) p) + 1
    awaited (Arrive a) p =
        let all : captures_of (arrivals ++ a ∷ []) p ≡ captures_of arrivals p ++ captures_of (a ∷ []) p = captures_append t tree arrivals (a ∷ []) p in
        let count : length (captures_of (arrivals ++ a ∷ []) p) ≡ length (captures_of arrivals p) + length (captures_of (a ∷ []) p) = ap length all ∙ length-append (captures_of arrivals p) (captures_of (a ∷ []) p) in
        elim (cases_eq p a.port) [
          | inl is ↦
              let one : length (captures_of (a ∷ []) p) ≡ 1 = rw (eq-eqb a.port p (sym is)) refl in
              let here : (Rattle.exb_world_spec.specs.Steps.counted a w).next p ≡ w.next a.port + 1 = rw (eq-eqb p a.port is) refl in
              let before : w.next a.port ≡ length (captures_of arrivals p) + 1 = ap w.next (sym is) ∙ serves.next p in
              omega (arith, count, one, here, before)
          | inr ne ↦
              let none : length (captures_of (a ∷ []) p) ≡ 0 = rw (ne_eqb a.port p (λ z. ne (sym z))) refl in
              let here : (Rattle.exb_world_spec.specs.Steps.counted a w).next p ≡ w.next p = rw (ne_eqb p a.port ne) refl in
              let before : w.next p ≡ length (captures_of arrivals p) + 1 = serves.next p in
              omega (arith, count, none, here, before)
        ]
    awaited (Carry n way) p = same p
    awaited (Control n way k keep) p = same p
    awaited (Lose n way k) p = same p
    awaited Beat p = same p
    awaited (Tick seconds) p = same p
    awaited (Order c) p = same p
    awaited Mark p = same p

    awaits : AwaitsNext (done_by t l step w).world (captures_of (arrivals ++ given_by step))
    awaits p = ap (λ (g : ℕ → ℕ). g p) (plays.shows.next ∙ plays.awaits) ∙ awaited step p

    -- ---- all of them
    kept : Traced t (done_by t l step w).world (arrivals ++ given_by step) (h then (done_by t l step w).events) (left ++ (done_by t l step w).left) (lines ++ (all_told (lines_in t step w) ++ after_head (done_by t l step w)))
    kept =
        let head = step_head t step w in
        record {
          legal = record {
            rule_1 = rule_1_kept t tree w plays.start first e head plays.takes plays.shows lines h (first_names t tree step w may.can) traced.legal.rule_1;
            rule_2 = λ n there. record { each = (goes_on n there).may; all_sent = ap (λ (x : Watch). x.owed) (goes_on n there).is };
            rule_3 = rule_3_kept t tree w plays.start first e head plays.takes plays.shows lines traced.links traced.legal.rule_3;
            rule_4 = record {
              arrived = λ p out. ins_kept t tree w plays.start first e head plays.takes plays.shows lines p ∙ captured_more t tree step w arrivals p (ins (Rattle.exb_trace_spec.specs.Rule3Links.place_of p) lines) may.can out (traced.legal.rule_4.arrived p out);
              left = λ p out. outs_kept t tree w plays.start first e head plays.takes plays.shows lines left traced.legal.rule_4.left p out;
            };
            rule_5 = steps_more t (captures_of (arrivals ++ given_by step)) lines more opens.silent opens.steps (steps_captured t (captures_of arrivals) (captures_of (arrivals ++ given_by step)) numbers lines traced.legal.rule_5);
          };
          states = λ n there. sym (ap (λ (x : Watch). x.state) (goes_on n there).is);
          links = links_kept t tree w plays.start first e head plays.takes plays.shows lines traced.links;
        }

  pub steps_stay_traced : StepsStayTraced
  unfolding stepped
  steps_stay_traced t l tree few w step arrivals h left lines sound serves may ready traced =
      subst (λ ls. Traced t (done_by t l step w).world (arrivals ++ given_by step) (h then (done_by t l step w).events) (left ++ (done_by t l step w).left) (lines ++ ls)) (sym (lines_are (lines_in t step w) (done_by t l step w)))
      (kept t l tree few w step arrivals h left lines sound serves may ready traced)

  pub next_kept : (t : Shape) (l : Limits) → IsTree t → HasFewPorts t → (w : World) (step : Step) (arrivals : List Arrival) (h : History) (left : List Left) (lines : List TraceLine) → IsSound t l w →
      Serves t w (captures_of arrivals) → MayMake t l w step → IsReadyToTell t w → Traced t w arrivals h left lines → AwaitsNext (stepped t l step w).world (captures_of (arrivals ++ given_by step))
  unfolding stepped
  next_kept t l tree few w step arrivals h left lines sound serves may ready traced = awaits t l tree few w step arrivals h left lines sound serves may ready traced

  pub records_stay : TagRoundTrip → (t : Shape) (l : Limits) → IsTree t → HasFewPorts t → (w : World) (step : Step) (arrivals : List Arrival) (h : History) (left : List Left) (lines : List TraceLine) → IsSound t l w →
      Serves t w (captures_of arrivals) → MayMake t l w step → IsReadyToTell t w → Traced t w arrivals h left lines → AreRecords t (stepped t l step w).world (captures_of (arrivals ++ given_by step))
  unfolding stepped
  records_stay round t l tree few w step arrivals h left lines sound serves may ready traced = records t l tree few w step arrivals h left lines sound serves may ready traced round

-- ---- the end
pub settled_is_legal : SettledIsLegal
settled_is_legal t w arrivals h left lines settled traced =
    record { so_far = traced.legal; empty = λ n there. both_ways (λ from to. AllCameIn from to lines) t n (λ way. none_left n way there (traced.links n way there)) }
  where
    none_left : (n : ℕ) (way : Way) → is_extender t n ≡ true → IsOnLink (outs (start_of t n way) lines) (ins (end_of t n way) lines) (words_on n way w) → data_of (ins (end_of t n way) lines) ≡ data_of (outs (start_of t n way) lines)
    none_left n Up there k = sym (k.frames ∙ ap (λ (ws : List LinkFrame). data_of (ins (end_of t n Up) lines) ++ data_of (bytes_of ws)) (settled.up n there) ∙ append-nil (data_of (ins (end_of t n Up) lines)))
    none_left n Down there k = sym (k.frames ∙ ap (λ (ws : List LinkFrame). data_of (ins (end_of t n Down) lines) ++ data_of (bytes_of ws)) (settled.down n there) ∙ append-nil (data_of (ins (end_of t n Down) lines)))
