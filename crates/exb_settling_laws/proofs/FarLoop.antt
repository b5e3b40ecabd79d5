-- All extenders beat: each session's far end beats once, and what comes up is added to its own stream alone.
use Rattle.std.proofs.Common.{◌≡◌, ◌≢◌, inl, inr, ℕ, zero, suc, ◌+◌, ◌≤◌, ◌<◌, Bool, true, false, cond, ◌++◌, None, refl, ap, sym, ◌∙◌, subst, arith}
use Rattle.std.specs.List.{range_with_len}
use Rattle.std.proofs.lemmas.Bool.{cases_eq}
use Rattle.exb_model.specs.Tree.{Shape, IsTree, is_extender}
use Rattle.exb_model.specs.Setup.{Limits}
use Rattle.exb_frame.specs.TagValues.{TagRoundTrip}
use Rattle.exb_extender.specs.declared.sends.Side.TheVariants as side
use Rattle.exb_extender.specs.Forwarding.{Sent}
use Rattle.exb_extender.specs.Machine.{ExtenderState, beats, Beats}
use Rattle.exb_link.specs.declared.link_frame.LinkFrame.{LinkFrame}
use Rattle.exb_control_spec.specs.Machine.{State}
use Rattle.exb_world_spec.specs.Worlds.{World, with_far}
use Rattle.exb_model.specs.Tables.{at}
use Rattle.exb_world_spec.specs.Effects.{only, each}
use Rattle.exb_world_spec.specs.ExtenderSteps.{reacts}
use Rattle.exb_world_spec.specs.Steps.{if_there}
use Rattle.exb_world_spec.proofs.LinkFrames.{at_here, at_other, each_weaker}
use Rattle.exb_settling_laws.specs.SessionPair.{far_beat}
use Rattle.exb_settling_laws.specs.Streams.{words_of, ups_of, near_at, far_at}
use Rattle.exb_settling_laws.specs.SettlingFacts.{FarFacts}
use Rattle.exb_settling_laws.proofs.FrameAtExtender.{sent_last, ups_last}
use Rattle.exb_settling_laws.proofs.ControlFrameDecoding.{bare_addressed, not_mine}
use Rattle.exb_settling_laws.proofs.FarBeat.{beats_far, beats_own}
use Rattle.exb_settling_laws.proofs.FarControlFrames.{OwnSent, far_of, sent_notes}
use Rattle.exb_settling_laws.proofs.LinkGrowth.{Grows, MaySend, does_grows, never_longer}
use Rattle.exb_settling_laws.proofs.RoundPhases.{impossible}
use Rattle.exb_settling_laws.proofs.UpwardSessions.{same_words, near_same, each_far}
use Rattle.exb_settling_laws.proofs.Streams.{ups_same, downs_same}
use Rattle.exb_settling_laws.proofs.ControlTurns.{reacts_ends, SameEnds}
use Rattle.exb_settling_laws.proofs.Upward.{NotOf}

module _ (t : Shape) (l : Limits) (tree : IsTree t) (round : TagRoundTrip) where
  abbrev beaten : ℕ → World → World
  beaten n w = (reacts t n None Beats w).world

  up_port : (q : ℕ) → side.Up ≡ side.Port q → ⊥
  up_port q z = cc

  -- the words that it sends go up on its own link
  pub grows : (n : ℕ) (w : World) → FarFacts (w.far n) → (U : ℕ → LinkFrame → Type 0) → ((s : Sent) → OwnSent s → U n (record { bytes = s.bytes; stamp = None })) → Grows t l (λ m y. ⊥) U w (reacts t n None Beats w).world
  grows n w facts U own =
      does_grows t l (λ m y. ⊥) U n None (beats (w.far n)) w
      (each_weaker OwnSent (MaySend t l (λ m y. ⊥) U n None) (beats (w.far n)).1 (λ s o. record { rises = λ z. own s o; sinks = λ q m z hangs. up_port q (sym o.side_is ∙ z) }) (beats_own (w.far n) facts))

  pub far_now : (n : ℕ) (w : World) → (reacts t n None Beats w).world.far ≡ at n (beats (w.far n)).0 w.far
  far_now n w = each_far t n None (beats (w.far n)).1 (with_far n (beats (w.far n)).0 w)

  module _ (j : ℕ) (j_there : is_extender t j ≡ true) where
    near_stays : (n : ℕ) (w : World) → FarFacts (w.far n) → near_at t (reacts t n None Beats w).world j ≡ near_at t w j
    near_stays n w facts =
        let v : World = (reacts t n None Beats w).world in
        let ends : SameEnds w (reacts t n None Beats w).world = reacts_ends t n None Beats w in
        let g = grows n w facts (λ m y. Unit {0}) (λ s o. tt) in
        near_same t w v j ends.control ends.near
        (downs_same t w.control.held j tree v.down w.down 64 j j_there (λ m few. ap (words_of t w.control.held j m) (never_longer (w.down m) (v.down m) (g.downs m))))

    -- another extender's beat
    other_far : (n : ℕ) (w : World) → FarFacts (w.far n) → n ≢ j → far_at t (reacts t n None Beats w).world j ≡ far_at t w j
    other_far n w facts other =
        let v : World = (reacts t n None Beats w).world in
        let ends : SameEnds w (reacts t n None Beats w).world = reacts_ends t n None Beats w in
        let g = grows n w facts (NotOf t tree round w.control.held j) (λ s o. not_mine t tree w.control.held j n n (record { bytes = s.bytes; stamp = None }) (bare_addressed t tree w.control.held n s.bytes o.untyped) other) in
        let ups : ups_of t w.control.held v.up j 64 j ≡ ups_of t w.control.held w.up j 64 j = ups_same t w.control.held j tree v.up w.up 64 j j_there (λ m few. same_words t tree round w.control.held j m (w.up m) (v.up m) (g.ups m)) in
        let far_j : v.far j ≡ w.far j = ap (λ (f : ℕ → ExtenderState). f j) (far_now n w) ∙ at_other n j (beats (w.far n)).0 w.far (λ e. other (sym e)) in
        ap (λ (s : ExtenderState). far_of s (ups_of t v.control.held v.up j 64 j)) far_j ∙ ap (λ (s : State). far_of (w.far j) (ups_of t s.held v.up j 64 j)) ends.control ∙ ap (far_of (w.far j)) ups

    -- its own
    own_far : (w : World) → FarFacts (w.far j) → far_at t (reacts t j None Beats w).world j ≡ far_beat (far_at t w j)
    own_far w facts =
        let v : World = (reacts t j None Beats w).world in
        let ends : SameEnds w (reacts t j None Beats w).world = reacts_ends t j None Beats w in
        let g = grows j w facts (λ m y. m ≡ j) (λ s o. refl) in
        let others : (m : ℕ) → m ≢ j → words_of t w.control.held j m (v.up m) ≡ words_of t w.control.held j m (w.up m) = λ m other. ap (words_of t w.control.held j m) (impossible (λ (y : LinkFrame). m ≡ j) (w.up m) (v.up m) (λ y e. other e) (g.ups m)) in
        let own : words_of t w.control.held j j (v.up j) ≡ words_of t w.control.held j j (w.up j) ++ sent_notes (beats (w.far j)).1 =
        sent_last t l tree round w.control.held j None (beats (w.far j)).1 (with_far j (beats (w.far j)).0 w) (beats_own (w.far j) facts) in
        let ups : ups_of t w.control.held v.up j 64 j ≡ ups_of t w.control.held w.up j 64 j ++ sent_notes (beats (w.far j)).1 = ups_last t l tree round w.control.held j None w.up v.up (sent_notes (beats (w.far j)).1) j_there others own in
        let far_j : v.far j ≡ (beats (w.far j)).0 = ap (λ (f : ℕ → ExtenderState). f j) (far_now j w) ∙ at_here j (beats (w.far j)).0 w.far in
        ap (λ (s : ExtenderState). far_of s (ups_of t v.control.held v.up j 64 j)) far_j ∙ ap (λ (s : State). far_of (beats (w.far j)).0 (ups_of t s.held v.up j 64 j)) ends.control ∙ ap (far_of (beats (w.far j)).0) ups
        ∙ beats_far (w.far j) facts (ups_of t w.control.held w.up j 64 j)

    -- ---- all of them
    abbrev loop : ℕ → ℕ → World → World
    loop a k w = (each (if_there t (λ n. reacts t n None Beats)) (range_with_len a k) w).world

    abbrev turn : ℕ → World → World
    turn a w = (if_there t (λ n. reacts t n None Beats) a w).world

    -- those whose turn is still to come are as they were
    Facts : ℕ → World → Type 0
    Facts a w = (n : ℕ) → a ≤ n → is_extender t n ≡ true → FarFacts (w.far n)

    turn_facts : (a : ℕ) (w : World) → ((n : ℕ) → a ≤ n → is_extender t n ≡ true → FarFacts (w.far n)) → (n : ℕ) → a + 1 ≤ n → is_extender t n ≡ true → FarFacts ((turn a w).far n)
    turn_facts a w f n low there = by_there (is_extender t a)
      where
        by_there : (b : Bool) → FarFacts ((cond b (reacts t a None Beats w) (only w)).world.far n)
        by_there false = f n (omega arith) there
        by_there true =
            let e : (reacts t a None Beats w).world.far n ≡ w.far n = ap (λ (g : ℕ → ExtenderState). g n) (far_now a w) ∙ at_other a n (beats (w.far a)).0 w.far (λ z. omega arith) in
            subst FarFacts (sym e) (f n (omega arith) there)

    turn_other : (a : ℕ) (w : World) → ((n : ℕ) → a ≤ n → is_extender t n ≡ true → FarFacts (w.far n)) → a ≢ j → (near_at t (turn a w) j ≡ near_at t w j) × (far_at t (turn a w) j ≡ far_at t w j)
    turn_other a w f other = by_there (is_extender t a) refl
      where
        by_there : (b : Bool) → is_extender t a ≡ b → (near_at t (cond b (reacts t a None Beats w) (only w)).world j ≡ near_at t w j) × (far_at t (cond b (reacts t a None Beats w) (only w)).world j ≡ far_at t w j)
        by_there false e = (refl, refl)
        by_there true e = (near_stays a w (f a (omega arith) e), other_far a w (f a (omega arith) e) other)

    loop_after : (a k : ℕ) (w : World) → ((n : ℕ) → a ≤ n → is_extender t n ≡ true → FarFacts (w.far n)) → j < a → (near_at t (loop a k w) j ≡ near_at t w j) × (far_at t (loop a k w) j ≡ far_at t w j)
    loop_after a zero w f past = (refl, refl)
    loop_after a (suc k) w f past =
        let one = turn_other a w f (λ e. omega arith) in
        let rest = loop_after (a + 1) k (turn a w) (turn_facts a w f) (omega arith) in
        (rest.0 ∙ one.0, rest.1 ∙ one.1)

    pub loop_beats : (a k : ℕ) (w : World) → ((n : ℕ) → a ≤ n → is_extender t n ≡ true → FarFacts (w.far n)) → a ≤ j → j < a + k → (near_at t (loop a k w) j ≡ near_at t w j) × (far_at t (loop a k w) j ≡ far_beat (far_at t w j))
    loop_beats a zero w f low high = absurd (omega arith)
    loop_beats a (suc k) w f low high =
        elim (cases_eq a j) [
          | inr e ↦
              let one = turn_other a w f e in
              let rest = loop_beats (a + 1) k (turn a w) (turn_facts a w f) (omega arith) (omega arith) in
              (rest.0 ∙ one.0, rest.1 ∙ ap far_beat one.1)
          | inl e ↦
              let there : is_extender t a ≡ true = (let P : ℕ → Type 0 = λ z. is_extender t z ≡ true in subst P (sym e) j_there) in
              let to : turn a w ≡ (reacts t j None Beats w).world = ap (λ (b : Bool). (cond b (reacts t a None Beats w) (only w)).world) there ∙ ap (λ (z : ℕ). (reacts t z None Beats w).world) e in
              let rest = loop_after (a + 1) k (turn a w) (turn_facts a w f) (omega arith) in (
                rest.0 ∙ ap (λ (v : World). near_at t v j) to ∙ near_stays j w (f j low j_there),
                rest.1 ∙ ap (λ (v : World). far_at t v j) to ∙ own_far w (f j low j_there),
              )
        ]
