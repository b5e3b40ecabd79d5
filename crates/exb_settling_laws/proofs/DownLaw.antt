-- One word is taken from above: each session that matters is as if it had been taken already. And the bound on settling, from
-- what a beat does.
use Rattle.std.proofs.Common.{◌≡◌, inl, inr, ℕ, Bool, true, false, cond, List, [], ◌∷◌, ◌++◌, None, ap, sym, ◌∙◌, subst}
use Rattle.std.proofs.lemmas.Bool.{cases_Bool, cases_eq}
use Rattle.exb_model.specs.Tree.{Shape, IsTree, HangsOn, is_extender}
use Rattle.exb_model.specs.Setup.{Limits}
use Rattle.exb_frame.specs.TagValues.{TagRoundTrip}
use Rattle.exb_extender.specs.declared.sends.Side.TheVariants as side
use Rattle.exb_csp.specs.AllTables.{port_of}
use Rattle.exb_extender.specs.Forwarding.{emitted, is_bare_control}
use Rattle.exb_extender.specs.Machine.{ExtenderState, Arrives, hears}
use Rattle.exb_link.specs.declared.link_frame.LinkFrame.{LinkFrame}
use Rattle.exb_control_spec.specs.Machine.{State}
use Rattle.exb_world_spec.specs.Worlds.{World, Down, Beat, with_down, with_far}
use Rattle.exb_model.specs.Tables.{at}
use Rattle.exb_world_spec.specs.ExtenderSteps.{does}
use Rattle.exb_world_spec.specs.Runs.Sessions.{Each}
use Rattle.exb_world_spec.specs.Steps.{stepped, takes}
use Rattle.exb_world_spec.proofs.LinkFrames.{at_here, at_other, at_itself, each_weaker}
use Rattle.exb_settling_laws.specs.SessionPair.{Near, Far, near_empty, near_beat, far_all, far_beat}
use Rattle.exb_settling_laws.specs.Streams.{note_of, plain, is_of, notes_if, words_of, ups_of, downs_of, near_at, far_at, pair_at}
use Rattle.exb_settling_laws.specs.SettlingFacts.{Facts, Matters, WordFacts, GoesDown, IsInvariant}
use Rattle.exb_settling_laws.specs.SettlingBound.{IsSwept, SettleEnds}
use Rattle.exb_settling_laws.proofs.FrameAtExtender.{other_stays, own_hears}
use Rattle.exb_settling_laws.proofs.FarControlFrames.{far_of}
use Rattle.exb_settling_laws.proofs.LinkGrowth.{Grows, MaySend, does_grows, never_longer}
use Rattle.exb_settling_laws.proofs.OtherDownward.{SinksNotOf, other_sinks}
use Rattle.exb_settling_laws.proofs.OwnFramesLaw.{own_law}
use Rattle.exb_settling_laws.proofs.UpwardSessions.{same_words, near_same, each_far}
use Rattle.exb_settling_laws.proofs.SessionRounds.{Own, Micro, settling_ends}
use Rattle.exb_settling_laws.proofs.DownwardSessions.{mine_sinks}
use Rattle.exb_settling_laws.proofs.Streams.{ups_same, downs_same}
use Rattle.exb_settling_laws.proofs.ControlTurns.{reacts_ends}
use Rattle.exb_settling_laws.proofs.UpLaw.{matters_there, up_law, hello_law}
use Rattle.exb_settling_laws.proofs.Upward.{NotOf}

module _ (t : Shape) (l : Limits) (tree : IsTree t) (round : TagRoundTrip) (w : World) (facts : Facts t l w) (n : ℕ) (x : LinkFrame) (rest : List LinkFrame) (there : is_extender t n ≡ true) (first : w.down n ≡ x ∷ rest) (forwarded : is_bare_control x.bytes ≡ false) (j : ℕ) (j_there : is_extender t j ≡ true) where
  -- a word with an E-TAG of another session goes on
  pub other_goes : is_of t w.control.held j n x ≡ false →
      (near_at t (takes t l n Down x (with_down n rest w)).world j ≡ near_at t w j) × (far_at t (takes t l n Down x (with_down n rest w)).world j ≡ far_at t w j)
  other_goes not_of =
      let v : World = (takes t l n Down x (with_down n rest w)).world in
      let word_facts : WordFacts t w.control.held (GoesDown w.control) n x = (let P : List LinkFrame → Type 0 = Each (WordFacts t w.control.held (GoesDown w.control) n) in subst P first (facts.downs n there)).0 in
      let to : v ≡ (does t n x.stamp (w.far n, emitted (w.far n).tables side.Up x.bytes) (with_down n rest w)).world =
      ap (λ (b : Bool). (does t n x.stamp (cond b (hears x.bytes (w.far n)) (w.far n, emitted (w.far n).tables side.Up x.bytes)) (with_down n rest w)).world) forwarded in
      let ends = reacts_ends t n x.stamp (Arrives side.Up x.bytes) (with_down n rest w) in
      let sinks : Each (SinksNotOf t tree round w.control.held w.far facts.routes j n there (facts.far n there).extender (GoesDown w.control) x word_facts not_of forwarded x.stamp) (emitted (w.far n).tables side.Up x.bytes) =
      other_sinks t tree round w.control.held w.far facts.routes j n there (facts.far n there).extender (GoesDown w.control) x word_facts not_of forwarded x.stamp in
      let grows : Grows t l (NotOf t tree round w.control.held j) (λ m y. ⊥) (with_down n rest w) v =
      (let P : World → Type 0 = Grows t l (NotOf t tree round w.control.held j) (λ m y. ⊥) (with_down n rest w) in
      subst P (sym to) (
      does_grows t l (NotOf t tree round w.control.held j) (λ m y. ⊥) n x.stamp (w.far n, emitted (w.far n).tables side.Up x.bytes) (with_down n rest w)
      (each_weaker (SinksNotOf t tree round w.control.held w.far facts.routes j n there (facts.far n there).extender (GoesDown w.control) x word_facts not_of forwarded x.stamp) (MaySend t l (NotOf t tree round w.control.held j) (λ m y. ⊥) n x.stamp) (emitted (w.far n).tables side.Up x.bytes)
      (λ s p. record { rises = (λ z. port_up p.port (sym p.side_is ∙ z)); sinks = (λ q m z hangs. p.apart m (let Q : ℕ → Type 0 = λ i. HangsOn t m (port_of n i) in subst Q (sym (same_port p.port q (sym p.side_is ∙ z))) hangs)) }) sinks))) in
      let gone : (m : ℕ) → words_of t w.control.held j m (at n rest w.down m) ≡ words_of t w.control.held j m (w.down m) = λ m.
      elim (cases_eq m n) [
        | inl e ↦
            let P : ℕ → Type 0 = λ z. words_of t w.control.held j z (at n rest w.down z) ≡ words_of t w.control.held j z (w.down z) in
            subst P (sym e) (ap (words_of t w.control.held j n) (at_here n rest w.down) ∙ sym (ap (words_of t w.control.held j n) first ∙ ap (λ (b : Bool). notes_if b (note_of (plain x.bytes)) ++ words_of t w.control.held j n rest) not_of))
        | inr e ↦ ap (words_of t w.control.held j m) (at_other n m rest w.down e)
      ] in
      let downs : downs_of t w.control.held v.down j 64 j ≡ downs_of t w.control.held w.down j 64 j =
      downs_same t w.control.held j tree v.down w.down 64 j j_there (λ m few. same_words t tree round w.control.held j m (at n rest w.down m) (v.down m) (grows.downs m) ∙ gone m) in
      let ups : ups_of t w.control.held v.up j 64 j ≡ ups_of t w.control.held w.up j 64 j =
      ups_same t w.control.held j tree v.up w.up 64 j j_there (λ m few. ap (words_of t w.control.held j m) (never_longer (w.up m) (v.up m) (grows.ups m))) in
      let far : v.far ≡ w.far = ap (λ (z : World). z.far) to ∙ each_far t n x.stamp (emitted (w.far n).tables side.Up x.bytes) (with_far n (w.far n) (with_down n rest w)) ∙ at_itself n w.far in (
        near_same t w v j ends.control ends.near downs,
        ap (λ (f : ℕ → ExtenderState). far_of (f j) (ups_of t v.control.held v.up j 64 j)) far ∙ ap (λ (s : State). far_of (w.far j) (ups_of t s.held v.up j 64 j)) ends.control ∙ ap (far_of (w.far j)) ups,
      )
    where
      port_up : (q : ℕ) → side.Port q ≡ side.Up → ⊥
      port_up q z = cc

      same_port : (i q : ℕ) → side.Port i ≡ side.Port q → i ≡ q
      same_port i q z = cc

module _ (t : Shape) (l : Limits) (tree : IsTree t) (round : TagRoundTrip) where
  abbrev Same : World → ℕ → World → Type 0
  Same w j v = (far_all (far_at t v j) (near_at t v j).sent ≡ far_all (far_at t w j) (near_at t w j).sent) × (near_empty (near_at t v j) ≡ near_empty (near_at t w j))

  both_same : (w : World) (j : ℕ) (v : World) → (near_at t v j ≡ near_at t w j) × (far_at t v j ≡ far_at t w j) → Same w j v
  both_same w j v p = (ap (λ (f : Far). far_all f (near_at t v j).sent) p.1 ∙ ap (λ (m : Near). far_all (far_at t w j) m.sent) p.0, ap near_empty p.0)

  pub down_law : (w : World) → Facts t l w → (n : ℕ) (x : LinkFrame) (rest : List LinkFrame) (j : ℕ) → is_extender t n ≡ true → w.down n ≡ x ∷ rest → Facts t l (takes t l n Down x (with_down n rest w)).world →
      Matters t w.control.work w.control.queue j → Same w j (takes t l n Down x (with_down n rest w)).world
  down_law w facts n x rest j there first later m =
      let q = matters_there t l tree round w w.control.work w.control.queue j facts.queue m in
      let v : World = (takes t l n Down x (with_down n rest w)).world in
      elim (cases_Bool (is_bare_control x.bytes)) [
        | inl bare ↦ elim (cases_eq n j) [
          | inl e ↦ (let P : ℕ → Type 0 = λ z. Same w z (takes t l n Down x (with_down n rest w)).world in subst P e (own_hears t l tree round w facts n x rest there first bare later))
          | inr other ↦ both_same w j (takes t l n Down x (with_down n rest w)).world (other_stays t l tree round w facts n x rest there first bare j other q.0)
        ]
        | inr forwarded ↦ elim (cases_Bool (is_of t w.control.held j n x)) [
          | inl mine ↦ both_same w j (takes t l n Down x (with_down n rest w)).world (mine_sinks t l tree round w facts n x rest there first forwarded j q.0 mine q.1)
          | inr not_of ↦ both_same w j (takes t l n Down x (with_down n rest w)).world (other_goes t l tree round w facts n x rest there first forwarded j q.0 not_of)
        ]
      ]

-- ---- what is to be shown of a beat
-- Each session that matters beats at both ends. And where no request is outstanding and nothing goes down, only the extenders
-- send, each its own frames.
pub record Beats (t : Shape) (l : Limits) (I : World → Type 0) : Type 0 where
  pub beat : (w : World) (j : ℕ) → I w → I (stepped t l Beat w).world → Matters t w.control.work w.control.queue j →
      pair_at t (stepped t l Beat w).world j ≡ record { near = near_beat (near_at t w j); far = far_beat (far_at t w j) }
  pub rest : (w : World) → I w → w.control.work ≡ None → ((m : ℕ) → is_extender t m ≡ true → w.down m ≡ []) → Own t w → IsSwept t (stepped t l Beat w).world

module _ (t : Shape) (l : Limits) (tree : IsTree t) (round : TagRoundTrip) (I : World → Type 0) (inv : IsInvariant t l I) (beats : Beats t l I) where
  pub micro : Micro t l I
  micro =
      record {
        up = λ w n x rest j i there first i2 quiet m. up_law t l tree round w (inv.facts w i) n x rest j there first quiet m;
        hello = λ w n x rest j i there first i2 quiet m unheard h. hello_law t l tree round w (inv.facts w i) n x rest j there first quiet m unheard h;
        down = λ w n x rest j i there first i2 m. down_law t l tree round w (inv.facts w i) n x rest j there first (inv.facts (takes t l n Down x (with_down n rest w)).world i2) m;
        own = λ w n x rest i there first own. own_law t l tree w n x rest own;
        beat = beats.beat;
        rest = beats.rest;
      }

  -- The bound on settling.
  pub ends_in_time : SettleEnds t l I
  ends_in_time = settling_ends t l tree I inv micro
