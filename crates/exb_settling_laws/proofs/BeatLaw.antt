-- A beat: each session that matters beats at both ends, and where no request is outstanding only the extenders send. So the bound
-- on settling follows from an invariant alone.
use Rattle.std.proofs.Common.{◌≡◌, ◌≢◌, ◌⊎◌, inl, inr, ℕ, zero, suc, ◌+◌, ◌≤◌, ◌<◌, nat_lt, Bool, true, false, cond, List, [], Option, Some, None, refl, ap, sym, ◌∙◌, subst, arith}
use Rattle.std.specs.Prelude.{is_some}
use Rattle.std.specs.List.{range_with_len}
use Rattle.std.proofs.lemmas.Bool.{cases_eq, ltb-true, and_parts}
use Rattle.exb_model.specs.Tree.{Shape, IsTree, is_extender}
use Rattle.exb_model.specs.Setup.{Limits}
use Rattle.exb_model.proofs.TreeTrunks.{extender-low}
use Rattle.exb_frame.specs.TagValues.{TagRoundTrip}
use Rattle.exb_ecp.specs.StopAndWait.{Sending as Sends, State as Ecp, beat_of}
use Rattle.exb_ecp.specs.StopAndWait.{beaten as beaten_end, aged as aged_sends}
use Rattle.exb_extender.specs.Machine.{ExtenderState, Beats as EndBeats, beats as extender_beats}
use Rattle.exb_csp.specs.declared.message.Request.{Request}
use Rattle.exb_link.specs.declared.link_frame.LinkFrame.{LinkFrame}
use Rattle.exb_control_spec.specs.Plans.HeldNumbers.{Held}
use Rattle.exb_control_spec.specs.Machine.{State, Work, beats_in}
use Rattle.exb_control_spec.specs.Machine.{beats as control_step}
use Rattle.exb_control_spec.specs.Runs.MachineInvariant.{waited_for}
use Rattle.exb_world_spec.specs.Worlds.{World, Beat, with_near, next_beat}
use Rattle.exb_model.specs.Tables.{at}
use Rattle.exb_world_spec.specs.Effects.{only, each}
use Rattle.exb_world_spec.specs.ExtenderSteps.{reacts}
use Rattle.exb_world_spec.specs.ControlFrames.{moves, sends_again, beats_near}
use Rattle.exb_world_spec.specs.Runs.Sessions.{Each}
use Rattle.exb_world_spec.specs.Steps.{if_there, stepped, beats_all}
use Rattle.exb_world_spec.proofs.LinkFrames.{at_here, at_other, each_append}
use Rattle.exb_settling_laws.specs.StopAndWait.{Request as Asks}
use Rattle.exb_settling_laws.specs.SessionPair.{Near, Far, Pair, near_rests, near_beat, beats_while, far_beat}
use Rattle.exb_settling_laws.specs.Streams.{is_of, near_at, far_at, pair_at}
use Rattle.exb_settling_laws.specs.SettlingFacts.{Facts, FarFacts, IsLatest, IsReached, Matters, IsInvariant}
use Rattle.exb_settling_laws.specs.SettlingBound.{IsSwept, SettleEnds}
use Rattle.exb_settling_laws.proofs.ControlBeat.{Moves, moves_stays, asker_serial, control_beats}
use Rattle.exb_settling_laws.proofs.DownLaw.{Beats, ends_in_time}
use Rattle.exb_settling_laws.proofs.FarLoop.{grows, far_now, loop_beats}
use Rattle.exb_settling_laws.proofs.LinkGrowth.{Longer, Grows, none_grows, grows_then, never_longer}
use Rattle.exb_settling_laws.proofs.NearBeats.{Stays, near_loop, near_turn, loop_stays, reached_kept, far_kept, all_rest}
use Rattle.exb_settling_laws.proofs.OwnFramesLaw.{OwnWord, sent_own}
use Rattle.exb_settling_laws.proofs.SessionRounds.{Own}
use Rattle.exb_settling_laws.proofs.ControlTurns.{SameEnds, same_ends, ends_then, reacts_ends}
use Rattle.exb_settling_laws.proofs.UpLaw.{matters_there}

-- ---- parts of a beat
module _ (t : Shape) where
  abbrev pub far_loop : ℕ → ℕ → World → World
  far_loop a k w = (each (if_there t (λ n. reacts t n None EndBeats)) (range_with_len a k) w).world

  abbrev pub far_turn : ℕ → World → World
  far_turn a w = (if_there t (λ n. reacts t n None EndBeats) a w).world

  -- after the bridge's ends, after the control, and after the extenders
  abbrev pub after_near : ℕ → ℕ → World → World
  after_near a k w = near_loop t a k (record w { beats = next_beat w.beats })

  abbrev pub after_control : ℕ → ℕ → World → World
  after_control a k w = (moves t (control_step (after_near a k w).control) (after_near a k w)).world

  abbrev pub after_all : ℕ → ℕ → World → World
  after_all a k w = far_loop a k (after_control a k w)

  pub stepped_is : (l : Limits) (w : World) → (stepped t l Beat w).world ≡ after_all 1 64 w
  unfolding stepped beats_all
  stepped_is l w = refl

  far_turn_ends : (a : ℕ) (w : World) → SameEnds w (far_turn a w)
  far_turn_ends a w = by_there (is_extender t a)
    where
      by_there : (b : Bool) → SameEnds w (cond b (reacts t a None EndBeats w) (only w)).world
      by_there true = reacts_ends t a None EndBeats w
      by_there false = same_ends w

  pub far_ends : (a k : ℕ) (w : World) → SameEnds w (far_loop a k w)
  far_ends a zero w = same_ends w
  far_ends a (suc k) w = ends_then w (far_turn a w) (far_loop (a + 1) k (far_turn a w)) (far_turn_ends a w) (far_ends (a + 1) k (far_turn a w))

  beats_held : (o : Option Work) (s : State) → (beats_in o s).state.held ≡ s.held
  beats_held None s = refl
  beats_held (Some k) s = refl

  pub near_stays : (a k : ℕ) (w : World) → Stays w (after_near a k w)
  near_stays a k w = let s = loop_stays t a k (record w { beats = next_beat w.beats }) in record { control = s.control; far = s.far; up = s.up }

  -- what stays of the rest of the world until the extenders beat
  pub record Until (w v : World) : Type 0 where
    pub held : v.control.held ≡ w.control.held
    pub far : v.far ≡ w.far
    pub up : v.up ≡ w.up

  pub until : (a k : ℕ) (w : World) → Until w (after_control a k w)
  until a k w =
      let s : Stays w (after_near a k w) = near_stays a k w in
      let m : Moves t (control_step (after_near a k w).control) (after_near a k w) (after_control a k w) = moves_stays t (control_step (after_near a k w).control) (after_near a k w) in
      record {
        held = ap (λ (x : State). x.held) m.control ∙ beats_held (after_near a k w).control.work (after_near a k w).control ∙ ap (λ (x : State). x.held) s.control;
        far = m.far ∙ s.far;
        up = m.up ∙ s.up;
      }

  far_facts : (a k : ℕ) (w : World) → ((n : ℕ) → is_extender t n ≡ true → FarFacts (w.far n)) → (n : ℕ) → a ≤ n → is_extender t n ≡ true → FarFacts ((after_control a k w).far n)
  far_facts a k w f n low there = let P : (ℕ → ExtenderState) → Type 0 = λ g. FarFacts (g n) in subst P (sym (until a k w).far) (f n there)

-- ---- both ends of a session
module _ (t : Shape) (l : Limits) (tree : IsTree t) (round : TagRoundTrip) where
  abbrev LatestOf : Ecp → ℕ → Type 0
  LatestOf e serial = (x : Sends) → e.sending ≡ Some x → IsLatest Asks e serial x

  module _ (a k : ℕ) (w : World) (facts : Facts t l w) (later : Facts t l (after_all t a k w)) where
    latest_later : (n : ℕ) → LatestOf ((after_control t a k w).near n) ((after_near t a k w).control.askers n).serial
    latest_later n =
        let e : SameEnds (after_control t a k w) (after_all t a k w) = far_ends t a k (after_control t a k w) in
        let m : Moves t (control_step (after_near t a k w).control) (after_near t a k w) (after_control t a k w) = moves_stays t (control_step (after_near t a k w).control) (after_near t a k w) in
        let serial : ((after_all t a k w).control.askers n).serial ≡ ((after_near t a k w).control.askers n).serial =
        ap (λ (s : State). (s.askers n).serial) (e.control ∙ m.control) ∙ asker_serial (after_near t a k w).control.work (after_near t a k w).control n in
        let near : (after_all t a k w).near n ≡ (after_control t a k w).near n = ap (λ (f : ℕ → Ecp). f n) e.near in
        subst (LatestOf ((after_control t a k w).near n)) serial (subst (λ (x : Ecp). LatestOf x ((after_all t a k w).control.askers n).serial) near (later.near n).sending)

    rests : (j : ℕ) → is_extender t j ≡ true → IsReached t w j → a ≤ j → j < a + k → near_at t (after_near t a k w) j ≡ near_rests (near_at t w j)
    rests j there reached low high = all_rest t l tree round j there a k (record w { beats = next_beat w.beats }) reached (facts.near j).sending low high

    near_after : (j : ℕ) → is_extender t j ≡ true → IsReached t w j → Matters t w.control.work w.control.queue j → a ≤ j → j < a + k → near_at t (after_control t a k w) j ≡ near_beat (near_at t w j)
    near_after j there reached matters low high = by_work (after_near t a k w).control.work refl
      where
        stays : Stays w (after_near t a k w)
        stays = near_stays t a k w

        work_is : (o : Option Work) → (after_near t a k w).control.work ≡ o → w.control.work ≡ o
        work_is o e = sym (ap (λ (s : State). s.work) stays.control) ∙ e

        by_work : (o : Option Work) → (after_near t a k w).control.work ≡ o → near_at t (after_control t a k w) j ≡ near_beat (near_at t w j)
        by_work None e =
            let unasked : is_some (w.control.askers j).waiting ≡ false = ap is_some (facts.waits j ∙ ap (λ (o : Option Work). waited_for o j) (work_is None e)) in
            ap (λ (o : Option Work). near_at t (moves t (beats_in o (after_near t a k w).control) (after_near t a k w)).world j) e ∙ rests j there reached low high
            ∙ sym (ap (λ (b : Bool). beats_while b (near_at t w j)) unasked)
        by_work (Some x) e =
            let is : j ≡ x.first.extender = (let P : Option Work → Type 0 = λ o. Matters t o w.control.queue j in subst P (work_is (Some x) e) matters) in
            let there_x : is_extender t x.first.extender ≡ true = (let P : ℕ → Type 0 = λ z. is_extender t z ≡ true in subst P is there) in
            let reached_x : IsReached t w x.first.extender = subst (IsReached t w) is reached in
            let reached_v : IsReached t (after_near t a k w) x.first.extender = reached_kept t x.first.extender w (after_near t a k w) (ap (λ (s : State). s.held) stays.control) stays.far reached_x in
            let waits : ((after_near t a k w).control.askers x.first.extender).waiting ≡ Some x.first.request =
            ap (λ (s : State). (s.askers x.first.extender).waiting) stays.control ∙ facts.waits x.first.extender ∙ ap (λ (o : Option Work). waited_for o x.first.extender) (work_is (Some x) e)
            ∙ ap (λ (b : Bool). let r : Option Request = cond b (Some x.first.request) None in r) (Rattle.std.proofs.lemmas.Bool.eq-eqb x.first.extender x.first.extender refl) in
            let latest : LatestOf ((moves t (beats_in (Some x) (after_near t a k w).control) (after_near t a k w)).world.near x.first.extender) ((after_near t a k w).control.askers x.first.extender).serial =
            subst (λ (o : Option Work). LatestOf ((moves t (beats_in o (after_near t a k w).control) (after_near t a k w)).world.near x.first.extender) ((after_near t a k w).control.askers x.first.extender).serial) e (latest_later x.first.extender) in
            let P : ℕ → Type 0 = λ z. near_at t (after_control t a k w) z ≡ near_beat (near_at t w z) in
            subst P (sym is) (
            ap (λ (o : Option Work). near_at t (moves t (beats_in o (after_near t a k w).control) (after_near t a k w)).world x.first.extender) e
            ∙ control_beats t l tree round w (after_near t a k w) x x.first.request there_x reached_v waits (facts.near x.first.extender) (rests x.first.extender there_x reached_x (omega arith) (omega arith)) latest)

    pair_beats : (j : ℕ) → Matters t w.control.work w.control.queue j → ((n : ℕ) → is_extender t n ≡ true → (a ≤ n) × (n < a + k)) → pair_at t (after_all t a k w) j ≡ record { near = near_beat (near_at t w j); far = far_beat (far_at t w j) }
    pair_beats j matters all =
        let q = matters_there t l tree round w w.control.work w.control.queue j facts.queue matters in
        let u : Until t w (after_control t a k w) = until t a k w in
        let within = all j q.0 in
        let far = loop_beats t l tree round j q.0 a k (after_control t a k w) (far_facts t a k w facts.far) within.0 within.1 in
        pair_is _ _ _ _ (far.0 ∙ near_after j q.0 q.1 matters within.0 within.1) (far.1 ∙ ap far_beat (far_kept t j w (after_control t a k w) u.held u.far u.up))
      where
        pair_is : (x y : Near) (f g : Far) → x ≡ y → f ≡ g → ◌≡◌ {A = Pair} (record { near = x; far = f }) (record { near = y; far = g })
        pair_is x y f g d e = cc

  pub within : (n : ℕ) → is_extender t n ≡ true → (1 ≤ n) × (n < 1 + 64)
  within n there =
      let low : 0 < n = ltb-true 0 n (and_parts (nat_lt 0 n) _ there).0 in
      let high : n < 65 = extender-low t tree n there in
      (omega arith, omega arith)

-- ---- nothing is outstanding
module _ (t : Shape) where
  -- nothing more goes down, and no end of the bridge sends
  record Quiet (w v : World) : Type 0 where
    down : v.down ≡ w.down
    none : (n : ℕ) → (v.near n).sending ≡ None

  end_quiet : (a : ℕ) (w : World) → ((n : ℕ) → (w.near n).sending ≡ None) → Quiet w (beats_near t a w).world
  end_quiet a w none =
      let is : (beats_near t a w).world ≡ with_near a (beaten_end (w.near a)) w = ap (λ (o : Option Sends). (sends_again t a (beat_of o) o (with_near a (beaten_end (w.near a)) w)).world) (none a) in
      subst (Quiet w) (sym is) (record { down = refl; none = λ n. at_end n (cases_eq n a) })
    where
      at_end : (n : ℕ) → (n ≡ a) ⊎ (n ≢ a) → (at a (beaten_end (w.near a)) w.near n).sending ≡ None
      at_end n (inl e) = (let P : ℕ → Type 0 = λ z. (at a (beaten_end (w.near a)) w.near z).sending ≡ None in subst P (sym e) (ap (λ (x : Ecp). x.sending) (at_here a (beaten_end (w.near a)) w.near) ∙ ap aged_sends (none a)))
      at_end n (inr e) = ap (λ (x : Ecp). x.sending) (at_other a n (beaten_end (w.near a)) w.near e) ∙ none n

  turn_quiet : (a : ℕ) (w : World) → ((n : ℕ) → (w.near n).sending ≡ None) → Quiet w (near_turn t a w)
  turn_quiet a w none = by_there (is_extender t a)
    where
      by_there : (b : Bool) → Quiet w (cond b (beats_near t a w) (only w)).world
      by_there true = end_quiet a w none
      by_there false = record { down = refl; none = none }

  loop_quiet : (a k : ℕ) (w : World) → ((n : ℕ) → (w.near n).sending ≡ None) → Quiet w (near_loop t a k w)
  loop_quiet a zero w none = record { down = refl; none = none }
  loop_quiet a (suc k) w none =
      let one : Quiet w (near_turn t a w) = turn_quiet a w none in
      let more : Quiet (near_turn t a w) (near_loop t (a + 1) k (near_turn t a w)) = loop_quiet (a + 1) k (near_turn t a w) one.none in
      record { down = more.down ∙ one.down; none = more.none }

module _ (t : Shape) (l : Limits) (tree : IsTree t) (round : TagRoundTrip) (h : Held) where
  -- all that the extenders send is their own
  abbrev GrowsUp : World → World → Type 0
  GrowsUp = Grows t l (λ m y. ⊥) (OwnWord t l tree h)

  far_turn_facts : (a : ℕ) (w : World) → ((n : ℕ) → a ≤ n → is_extender t n ≡ true → FarFacts (w.far n)) → (n : ℕ) → a + 1 ≤ n → is_extender t n ≡ true → FarFacts ((far_turn t a w).far n)
  far_turn_facts a w f n low there = by_there (is_extender t a)
    where
      by_there : (b : Bool) → FarFacts ((cond b (reacts t a None EndBeats w) (only w)).world.far n)
      by_there false = f n (omega arith) there
      by_there true =
          let e : (reacts t a None EndBeats w).world.far n ≡ w.far n = ap (λ (g : ℕ → ExtenderState). g n) (far_now t l tree round a w) ∙ at_other a n (extender_beats (w.far a)).0 w.far (λ z. omega arith) in
          subst FarFacts (sym e) (f n (omega arith) there)

  far_turn_grows : (a : ℕ) (w : World) → ((n : ℕ) → a ≤ n → is_extender t n ≡ true → FarFacts (w.far n)) → GrowsUp w (far_turn t a w)
  far_turn_grows a w f = by_there (is_extender t a) refl
    where
      by_there : (b : Bool) → is_extender t a ≡ b → GrowsUp w (cond b (reacts t a None EndBeats w) (only w)).world
      by_there true e = grows t l tree round a w (f a (omega arith) e) (OwnWord t l tree h) (λ s o. sent_own t l tree h a None s o)
      by_there false e = none_grows t l (λ m y. ⊥) (OwnWord t l tree h) w

  far_loop_grows : (a k : ℕ) (w : World) → ((n : ℕ) → a ≤ n → is_extender t n ≡ true → FarFacts (w.far n)) → GrowsUp w (far_loop t a k w)
  far_loop_grows a zero w f = none_grows t l (λ m y. ⊥) (OwnWord t l tree h) w
  far_loop_grows a (suc k) w f =
      grows_then t l (λ m y. ⊥) (OwnWord t l tree h) w (far_turn t a w) (far_loop t (a + 1) k (far_turn t a w)) (far_turn_grows a w f) (far_loop_grows (a + 1) k (far_turn t a w) (far_turn_facts a w f))

module _ (t : Shape) (l : Limits) (tree : IsTree t) (round : TagRoundTrip) where
  swept : (a k : ℕ) (w : World) → Facts t l w → w.control.work ≡ None → ((m : ℕ) → is_extender t m ≡ true → w.down m ≡ []) → Own t w → IsSwept t (after_all t a k w)
  swept a k w facts idle downs own =
      let none : (n : ℕ) → (w.near n).sending ≡ None = λ n. (facts.near n).quiet (facts.waits n ∙ ap (λ (o : Option Work). waited_for o n) idle) in
      let q : Quiet t (record w { beats = next_beat w.beats }) (after_near t a k w) = loop_quiet t a k (record w { beats = next_beat w.beats }) none in
      let stays : Stays w (after_near t a k w) = near_stays t a k w in
      let idle_now : (after_near t a k w).control.work ≡ None = ap (λ (s : State). s.work) stays.control ∙ idle in
      let down : (after_control t a k w).down ≡ w.down = ap (λ (o : Option Work). (moves t (beats_in o (after_near t a k w).control) (after_near t a k w)).world.down) idle_now ∙ q.down in
      let u : Until t w (after_control t a k w) = until t a k w in
      let g : GrowsUp t l tree round w.control.held (after_control t a k w) (after_all t a k w) = far_loop_grows t l tree round w.control.held a k (after_control t a k w) (far_facts t a k w facts.far) in
      let e : SameEnds (after_control t a k w) (after_all t a k w) = far_ends t a k (after_control t a k w) in
      let held : (after_all t a k w).control.held ≡ w.control.held = ap (λ (s : State). s.held) e.control ∙ u.held in
      record {
        downs = λ m there. never_longer ((after_control t a k w).down m) ((after_all t a k w).down m) (g.downs m) ∙ ap (λ (f : ℕ → List LinkFrame). f m) down ∙ downs m there;
        ups = λ m there.
            let more : Longer (OwnWord t l tree w.control.held m) ((after_control t a k w).up m) ((after_all t a k w).up m) = g.ups m in
            let before : Each (OwnWord t l tree w.control.held m) ((after_control t a k w).up m) = (let P : (ℕ → List LinkFrame) → Type 0 = λ f. Each (OwnWord t l tree w.control.held m) (f m) in subst P (sym u.up) (own m there)) in
            let all : Each (OwnWord t l tree w.control.held m) ((after_all t a k w).up m) =
            (let P : List LinkFrame → Type 0 = Each (OwnWord t l tree w.control.held m) in subst P (sym more.is) (each_append (OwnWord t l tree w.control.held m) ((after_control t a k w).up m) more.more before more.each_is)) in
            let Q : Held → Type 0 = λ h. Each (λ (x : LinkFrame). is_of t h m m x ≡ true) ((after_all t a k w).up m) in
            subst Q (sym held) all;
      }

  -- ---- the law
  -- What a beat does.
  pub all_beat : (I : World → Type 0) → IsInvariant t l I → Beats t l I
  all_beat I inv =
      record {
        beat = λ w j i i2 matters.
            let is = stepped_is t l w in
            let later : Facts t l (after_all t 1 64 w) = subst (Facts t l) is (inv.facts (stepped t l Beat w).world i2) in
            ap (λ (v : World). pair_at t v j) is ∙ pair_beats t l tree round 1 64 w (inv.facts w i) later j matters (within t l tree round);
        rest = λ w i idle downs own. subst (IsSwept t) (sym (stepped_is t l w)) (swept 1 64 w (inv.facts w i) idle downs own);
      }

  -- The bound on settling, from an invariant alone: with verdicts of which b aren't Pass, a settle ends, within its rounds, in a
  -- settled world.
  pub settle_ends : (I : World → Type 0) → IsInvariant t l I → SettleEnds t l I
  settle_ends I inv = ends_in_time t l tree round I inv (all_beat I inv)
