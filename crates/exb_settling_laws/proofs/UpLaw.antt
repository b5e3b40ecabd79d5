-- One word is taken from below, and the control stays: each session that matters is as if it had been taken already, and
-- an announcement that isn't heard yet is still on its way.
use Rattle.std.proofs.Common.{◌≡◌, ◌≢◌, ◌⊎◌, inl, inr, ⊎_elim, ℕ, ◌<◌, ◌==◌, ◌&&◌, Bool, true, false, cond, List, [], ◌∷◌, ◌++◌, drop, Option, Some, None, Ok, Err, refl, ap, sym, ◌∙◌, subst, arith}
use Rattle.std.specs.Prelude.{Result}
use Rattle.std.proofs.lemmas.Bool.{cases_Bool, cases_lt, cases_eq, lt-ltb}
use Rattle.exb_model.specs.Tree.{Shape, IsTree, device, on, is_extender, trunk, port_number}
use Rattle.exb_model.specs.Setup.{Limits}
use Rattle.exb_model.specs.ETags.{Tag, read_etag, stripped}
use Rattle.exb_model.proofs.TreeTrunks.{extender-low}
use Rattle.exb_frame.specs.TagValues.{TagRoundTrip}
use Rattle.exb_lldp.specs.declared.announce.Announce.{Announce}
use Rattle.exb_lldp.specs.declared.announce.LldpFault.{LldpFault}
use Rattle.exb_lldp.specs.Announcements.{announced as announcement_in}
use Rattle.exb_ecp.specs.declared.pdu.Pdu.{Pdu}
use Rattle.exb_ecp.specs.declared.pdu.EcpFault.{EcpFault}
use Rattle.exb_ecp.specs.Frames.{pdu_in}
use Rattle.exb_csp.specs.declared.fault.CspFault.{CspFault}
use Rattle.exb_csp.specs.declared.message.Body.{Body}
use Rattle.exb_csp.specs.declared.message.Body.TheVariants as body
use Rattle.exb_csp.specs.declared.message.Message.{Message}
use Rattle.exb_csp.specs.Decoding.{read_message}
use Rattle.exb_extender.specs.Forwarding.{has_etag_type}
use Rattle.exb_link.specs.declared.link_frame.LinkFrame.{LinkFrame}
use Rattle.exb_link.specs.LinkFrames.{is_control}
use Rattle.exb_control_spec.specs.PlannedExchanges.{planned}
use Rattle.exb_control_spec.specs.Decisions.{decide}
use Rattle.exb_control_spec.specs.declared.job.Job.{Job}
use Rattle.exb_control_spec.specs.declared.job.Job.TheVariants as job
use Rattle.exb_control_spec.specs.Machine.{State, Work, heard}
use Rattle.exb_control_spec.proofs.Runs.ExchangeCounts.{hearing_counts}
use Rattle.exb_world_spec.specs.Worlds.{World, Up, with_up, with_near}
use Rattle.exb_model.specs.Tables.{at}
use Rattle.exb_world_spec.specs.BridgeLearning.{announced}
use Rattle.exb_world_spec.specs.BridgeLearning.{is_of as is_announced}
use Rattle.exb_world_spec.specs.ExtenderSteps.{takes_from_below}
use Rattle.exb_world_spec.specs.ControlFrames.{to_extender, hears, hears_frame, bridge_acknowledgement}
use Rattle.exb_world_spec.specs.DataFrames.{comes_from, holder_by, hung_at, hears_from, takes_control, bridge_takes}
use Rattle.exb_world_spec.specs.Runs.Sessions.{Each}
use Rattle.exb_world_spec.specs.Settling.{planned_in}
use Rattle.exb_world_spec.specs.Steps.{takes}
use Rattle.exb_world_spec.proofs.Trunks.{trunk_low_on}
use Rattle.exb_world_spec.proofs.LinkFrames.{at_here, at_other}
use Rattle.exb_settling_laws.specs.StopAndWait.{Message as Note, Request as Asks, Answer as Answers, Ack, Hello}
use Rattle.exb_settling_laws.specs.SessionPair.{Near, near_all, near_hears, near_up, far_empty}
use Rattle.exb_settling_laws.specs.Streams.{body_note, message_note, pdu_note, frame_note, note_of, plain, holder_in, addressee, is_the, is_of, notes_if, words_of, ups_of, downs_of, near_at, far_at, pair_at}
use Rattle.exb_settling_laws.specs.SettlingFacts.{Facts, QueueFacts, Matters, IsAbove, IsOwned, WordFacts, IsReached, MayComeUp, ComesUp}
use Rattle.exb_settling_laws.specs.SettlingBound.{HasHello}
use Rattle.exb_settling_laws.proofs.ControlFrameDecoding.{is_mine, not_mine}
use Rattle.exb_settling_laws.proofs.LinkGrowth.{never_longer}
use Rattle.exb_settling_laws.proofs.Streams.{noted, TakenUp, taken_up, ups_same, downs_same}
use Rattle.exb_settling_laws.proofs.BridgeStreams.{IsPut, to_extender_put}
use Rattle.exb_settling_laws.proofs.NearControlFrames.{frame_world, pdu_world, request_world, fresh_world, hears_quiet, hears_near, hears_other, ack_sendable}
use Rattle.exb_settling_laws.proofs.ControlTurns.{Calm, calm_in, calm_kept, comes_from_ends, moves_control}
use Rattle.exb_settling_laws.proofs.UpwardSessions.{same_words, near_same, far_same, mine_moves, other_moves}
use Rattle.exb_settling_laws.proofs.FrameAtBridge.{comes_from_not, comes_from_far}

-- ---- what the bridge hears leaves the extenders and what comes up
module _ (t : Shape) (l : Limits) (tree : IsTree t) (round : TagRoundTrip) where
  record SameBelow (w v : World) : Type 0 where
    far : v.far ≡ w.far
    ups : v.up ≡ w.up

  acked_below : (n s : ℕ) (w : World) → is_extender t n ≡ true → SameBelow w (to_extender t n (bridge_acknowledgement s) w).world
  acked_below n s w there =
      ⊎_elim
      (λ (e : (to_extender t n (bridge_acknowledgement s) w).world ≡ w). record { far = ap (λ (z : World). z.far) e; ups = ap (λ (z : World). z.up) e })
      (λ (p : IsPut t tree round w.control.held n (bridge_acknowledgement s) w (to_extender t n (bridge_acknowledgement s) w).world). record { far = ap (λ (z : World). z.far) p.is; ups = ap (λ (z : World). z.up) p.is })
      (to_extender_put t tree round n (bridge_acknowledgement s) w there (ack_sendable t l tree round s))

  frame_below : (n : ℕ) (f : List ℕ) (w : World) → is_extender t n ≡ true → SameBelow w (frame_world t l tree round n (announcement_in f) f w)
  frame_below n f w there = by_frame (announcement_in f)
    where
      by_fresh : (b : Bool) (s : ℕ) (v : World) → SameBelow w v → SameBelow w (fresh_world t l tree round n b s v)
      by_fresh true s v h = record { far = h.far; ups = h.ups }
      by_fresh false s v h = h

      by_tests : (pdu : Pdu) (b c : Bool) → SameBelow w (cond b (cond c (with_near n (Rattle.exb_ecp.specs.StopAndWait.acknowledged pdu.sequence (w.near n)) w) (request_world t l tree round n pdu.sequence w)) w)
      by_tests pdu false c = record { far = refl; ups = refl }
      by_tests pdu true true = record { far = refl; ups = refl }
      by_tests pdu true false = by_fresh _ pdu.sequence (to_extender t n (bridge_acknowledgement pdu.sequence) w).world (acked_below n pdu.sequence w there)

      by_pdu : (r : Result Pdu EcpFault) → SameBelow w (pdu_world t l tree round n r w)
      by_pdu (Err fault) = record { far = refl; ups = refl }
      by_pdu (Ok pdu) = by_tests pdu (pdu.subtype == 2) pdu.acknowledgement

      by_frame : (r : Result Announce LldpFault) → SameBelow w (frame_world t l tree round n r f w)
      by_frame (Ok a) = record { far = refl; ups = refl }
      by_frame (Err fault) = by_pdu (pdu_in f)

  -- ---- a word that comes to the bridge
  module _ (w : World) (facts : Facts t l w) (n : ℕ) (x : LinkFrame) (rest : List LinkFrame) (there : is_extender t n ≡ true) (first : w.up n ≡ x ∷ rest) (low : on t n < 64) (j : ℕ) (j_there : is_extender t j ≡ true) where
    at_bridge_facts : WordFacts t w.control.held (ComesUp t w.control w.far) n x
    at_bridge_facts = (let P : List LinkFrame → Type 0 = Each (WordFacts t w.control.held (ComesUp t w.control w.far) n) in subst P first (facts.ups n there)).0

    to_bridge : (takes t l n Up x (with_up n rest w)).world ≡ (bridge_takes t l (on t n) n x (with_up n rest w)).world
    to_bridge = ap (λ (b : Bool). (cond b (bridge_takes t l (on t n) n x (with_up n rest w)) (takes_from_below t (device (on t n)) (port_number (on t n)) x (with_up n rest w))).world) (lt-ltb (on t n) 64 low)

    -- what the session is where nothing of it came
    abbrev Kept : World → Type 0
    Kept v = (near_at t v j ≡ near_at t w j) × (far_empty (far_at t v j) ≡ far_empty (far_at t w j)) × ((far_at t v j).sent ≡ (far_at t w j).sent)

    gone : is_of t w.control.held j n x ≡ false → (m : ℕ) → words_of t w.control.held j m (at n rest w.up m) ≡ words_of t w.control.held j m (w.up m)
    gone other m =
        elim (cases_eq m n) [
          | inl e ↦
              let P : ℕ → Type 0 = λ z. words_of t w.control.held j z (at n rest w.up z) ≡ words_of t w.control.held j z (w.up z) in
              subst P (sym e) (ap (words_of t w.control.held j n) (at_here n rest w.up) ∙ sym (ap (words_of t w.control.held j n) first ∙ ap (λ (b : Bool). notes_if b (note_of (plain x.bytes)) ++ words_of t w.control.held j n rest) other))
          | inr e ↦ ap (words_of t w.control.held j m) (at_other n m rest w.up e)
        ]

    data_kept : is_control x ≡ false → Kept (takes t l n Up x (with_up n rest w)).world
    data_kept plainly =
        let o : Option ℕ = holder_by (with_up n rest w) (on t n) (read_etag x.bytes) in
        let u : World = (comes_from t (holder_by (with_up n rest w) (on t n) (read_etag x.bytes)) x.stamp (stripped x.bytes) (with_up n rest w)).world in
        let to : (takes t l n Up x (with_up n rest w)).world ≡ (comes_from t (holder_by (with_up n rest w) (on t n) (read_etag x.bytes)) x.stamp (stripped x.bytes) (with_up n rest w)).world =
        to_bridge ∙ ap (λ (b : Bool). (cond b (takes_control t l (on t n) n x.bytes (with_up n rest w)) (comes_from t (holder_by (with_up n rest w) (on t n) (read_etag x.bytes)) x.stamp (stripped x.bytes) (with_up n rest w))).world) plainly in
        let g = comes_from_not t l tree round w.control.held j o x.stamp x.bytes (with_up n rest w) at_bridge_facts.bytes plainly in
        let ends = comes_from_ends t o x.stamp (stripped x.bytes) (with_up n rest w) in
        let other : is_of t w.control.held j n x ≡ false = ap (λ (b : Bool). b && is_the j (addressee t w.control.held n x.bytes)) plainly in
        let downs : downs_of t w.control.held u.down j 64 j ≡ downs_of t w.control.held w.down j 64 j =
        downs_same t w.control.held j tree u.down w.down 64 j j_there (λ m few. same_words t tree round w.control.held j m (w.down m) (u.down m) (g.downs m)) in
        let ups : ups_of t w.control.held u.up j 64 j ≡ ups_of t w.control.held w.up j 64 j =
        ups_same t w.control.held j tree u.up w.up 64 j j_there (λ m few. ap (words_of t w.control.held j m) (never_longer (at n rest w.up m) (u.up m) (g.ups m)) ∙ gone other m) in
        subst Kept (sym to) (
          near_same t w u j ends.control ends.near downs,
          far_same t w u j (comes_from_far t o x.stamp (stripped x.bytes) (with_up n rest w)),
          ap (λ (s : State). ups_of t s.held u.up j 64 j) ends.control ∙ ups,
        )

    -- ---- a control word
    held_same : (k : ℕ) (o : Option Tag) → holder_by (with_up n rest w) k o ≡ holder_in w.control.held k o
    held_same k None = refl
    held_same k (Some tag) = refl

    same_some : (a b : ℕ) → Some a ≡ Some b → a ≡ b
    same_some a b e = cc

    hears_it : (own : IsOwned t w.control.held (ComesUp t w.control w.far) n x) → is_control x ≡ true → (takes t l n Up x (with_up n rest w)).world ≡ (hears t l own.of (plain x.bytes) (with_up n rest w)).world
    unfolding addressee plain
    hears_it own control =
        to_bridge ∙ ap (λ (b : Bool). (cond b (takes_control t l (on t n) n x.bytes (with_up n rest w)) (comes_from t (holder_by (with_up n rest w) (on t n) (read_etag x.bytes)) x.stamp (stripped x.bytes) (with_up n rest w))).world) control
        ∙ by_typed (has_etag_type x.bytes) own.addressed
      where
        by_typed : (b : Bool) → cond b (hung_at t (holder_in w.control.held (trunk t n) (read_etag x.bytes))) (Some n) ≡ Some own.of →
            (cond b (hears_from t l (hung_at t (holder_by (with_up n rest w) (on t n) (read_etag x.bytes))) (stripped x.bytes) (with_up n rest w)) (hears t l n x.bytes (with_up n rest w))).world
            ≡ (hears t l own.of (cond b (stripped x.bytes) x.bytes) (with_up n rest w)).world
        by_typed false e = ap (λ (z : ℕ). (hears t l z x.bytes (with_up n rest w)).world) (same_some n own.of e)
        by_typed true e =
            let is : hung_at t (holder_by (with_up n rest w) (on t n) (read_etag x.bytes)) ≡ Some own.of =
            ap (hung_at t) (held_same (on t n) (read_etag x.bytes)) ∙ ap (λ (k : ℕ). hung_at t (holder_in w.control.held k (read_etag x.bytes))) (sym (trunk_low_on t n low)) ∙ e in
            ap (λ (o : Option ℕ). (hears_from t l o (stripped x.bytes) (with_up n rest w)).world) is

    calm : Calm t (with_up n rest w)
    calm = calm_kept t n Up rest w (calm_in t l w facts)

    quiet_is : (own : IsOwned t w.control.held (ComesUp t w.control w.far) n x) → is_control x ≡ true → (takes t l n Up x (with_up n rest w)).world.control ≡ w.control →
        (takes t l n Up x (with_up n rest w)).world ≡ frame_world t l tree round own.of (announcement_in (plain x.bytes)) (plain x.bytes) (with_up n rest w)
    quiet_is own control quiet =
        let to = hears_it own control in
        to ∙ ⊎_elim
        (λ (e : (hears t l own.of (plain x.bytes) (with_up n rest w)).world ≡ frame_world t l tree round own.of (announcement_in (plain x.bytes)) (plain x.bytes) (with_up n rest w)). e)
        (λ (less : planned_in t l (hears t l own.of (plain x.bytes) (with_up n rest w)).world < planned_in t l (with_up n rest w)).
        absurd (let z : planned_in t l (hears t l own.of (plain x.bytes) (with_up n rest w)).world ≡ planned_in t l w = ap (planned_in t l) (sym to) ∙ ap (planned t (decide t l)) quiet in
        let y : planned_in t l (with_up n rest w) ≡ planned_in t l w = refl in omega arith))
        (hears_quiet t l tree round own.of (plain x.bytes) (with_up n rest w) calm own.there)

    -- a word of another session
    other_kept : (own : IsOwned t w.control.held (ComesUp t w.control w.far) n x) → is_control x ≡ true → own.of ≢ j → (takes t l n Up x (with_up n rest w)).world.control ≡ w.control → Kept (takes t l n Up x (with_up n rest w)).world
    other_kept own control other quiet =
        let u : World = frame_world t l tree round own.of (announcement_in (plain x.bytes)) (plain x.bytes) (with_up n rest w) in
        let to = quiet_is own control quiet in
        let b = frame_below own.of (plain x.bytes) (with_up n rest w) own.there in
        let not_of : is_of t w.control.held j n x ≡ false = not_mine t tree w.control.held j own.of n x own.addressed other in
        let u_control : u.control ≡ w.control = ap (λ (z : World). z.control) (sym to) ∙ quiet in
        let ups : ups_of t w.control.held u.up j 64 j ≡ ups_of t w.control.held w.up j 64 j =
        ups_same t w.control.held j tree u.up w.up 64 j j_there (λ m few. ap (λ (f : ℕ → List LinkFrame). words_of t w.control.held j m (f m)) b.ups ∙ gone not_of m) in
        subst Kept (sym to) (
          hears_other t l tree round own.of j (plain x.bytes) (with_up n rest w) own.there other j_there,
          far_same t w u j b.far,
          ap (λ (s : State). ups_of t s.held u.up j 64 j) u_control ∙ ups,
        )

    -- a word of this one is heard
    pub record IsHeard (v : World) : Type 0 where
      pub note : Note
      pub reads : note_of (plain x.bytes) ≡ Some note
      pub near : near_at t v j ≡ near_hears (near_at t w j) note
      pub far : far_empty (far_at t v j) ≡ far_empty (far_at t w j)
      pub sent : (far_at t w j).sent ≡ note ∷ (far_at t v j).sent

    mine_heard : (own : IsOwned t w.control.held (ComesUp t w.control w.far) n x) → is_control x ≡ true → own.of ≡ j → IsReached t w j → (takes t l n Up x (with_up n rest w)).world.control ≡ w.control → IsHeard (takes t l n Up x (with_up n rest w)).world
    mine_heard own control is_j reached quiet = by_note (note_of (plain x.bytes)) refl
      where
        u : World
        u = frame_world t l tree round own.of (announcement_in (plain x.bytes)) (plain x.bytes) (with_up n rest w)

        to : (takes t l n Up x (with_up n rest w)).world ≡ u
        to = quiet_is own control quiet

        u_control : u.control ≡ w.control
        u_control = ap (λ (z : World). z.control) (sym to) ∙ quiet

        comes : ComesUp t w.control w.far j (plain x.bytes)
        comes = let P : ℕ → Type 0 = λ z. ComesUp t w.control w.far z (plain x.bytes) in subst P is_j own.reads

        by_note : (o : Option Note) → note_of (plain x.bytes) ≡ o → IsHeard (takes t l n Up x (with_up n rest w)).world
        by_note None e = absurd (let P : Option Note → Type 0 = MayComeUp (w.far j) in subst P e comes.0)
        by_note (Some a) e =
            let b = frame_below own.of (plain x.bytes) (with_up n rest w) own.there in
            let u_j : World = frame_world t l tree round j (announcement_in (plain x.bytes)) (plain x.bytes) (with_up n rest w) in
            let same : u ≡ frame_world t l tree round j (announcement_in (plain x.bytes)) (plain x.bytes) (with_up n rest w) =
            ap (λ (z : ℕ). frame_world t l tree round z (announcement_in (plain x.bytes)) (plain x.bytes) (with_up n rest w)) is_j in
            let hears_quiet_j : (hears t l j (plain x.bytes) (with_up n rest w)).world.control ≡ w.control =
            ap (λ (z : ℕ). (hears t l z (plain x.bytes) (with_up n rest w)).world.control) (sym is_j) ∙ ap (λ (z : World). z.control) (sym (hears_it own control)) ∙ quiet in
            let near : near_at t (frame_world t l tree round j (announcement_in (plain x.bytes)) (plain x.bytes) (with_up n rest w)) j ≡ near_hears (near_at t w j) a =
            hears_near t l tree round j (with_up n rest w) j_there reached calm (plain x.bytes) a (w.far j) e (let P : Option Note → Type 0 = MayComeUp (w.far j) in subst P e comes.0) comes.1 hears_quiet_j in
            let mine : is_of t w.control.held j n x ≡ true = is_mine t tree w.control.held j n x control (own.addressed ∙ ap (λ (z : ℕ). Some z) is_j) in
            let noted_is : noted t w.control.held j n x ≡ a ∷ [] = ap (λ (c : Bool). notes_if c (note_of (plain x.bytes))) mine ∙ ap (notes_if true) e in
            let ups_at : (m : ℕ) → u.up m ≡ at n rest w.up m = λ m. ap (λ (f : ℕ → List LinkFrame). f m) b.ups in
            let s : TakenUp t w.control.held j tree n w.up u.up = record {
              there = there;
              low = low;
              note = noted t w.control.held j n x;
              from = ap (words_of t w.control.held j n) first ∙ ap (λ (ws : List LinkFrame). noted t w.control.held j n x ++ words_of t w.control.held j n ws) (sym (ups_at n ∙ at_here n rest w.up));
              others = λ k other. ap (words_of t w.control.held j k) (ups_at k ∙ at_other n k rest w.up other);
            } in
            let above : IsAbove t 64 n j = (let P : ℕ → Type 0 = λ z. IsAbove t 64 n z in subst P is_j own.below) in
            let ups : ups_of t w.control.held w.up j 64 j ≡ noted t w.control.held j n x ++ ups_of t w.control.held u.up j 64 j = taken_up t w.control.held j tree 64 j n w.up u.up j_there above s in
            record {
              note = a;
              reads = e;
              near = ap (λ (z : World). near_at t z j) (to ∙ same) ∙ near;
              far = ap (λ (z : World). far_empty (far_at t z j)) to ∙ far_same t w u j b.far;
              sent = ups ∙ ap (λ (ns : List Note). ns ++ ups_of t w.control.held u.up j 64 j) noted_is ∙ ap (λ (st : State). a ∷ ups_of t st.held u.up j 64 j) (sym u_control) ∙ ap (λ (z : World). a ∷ (far_at t z j).sent) (sym to);
            }

    -- an announcement of an extender that wasn't heard is something that was planned
    hello_not : (own : IsOwned t w.control.held (ComesUp t w.control w.far) n x) → is_control x ≡ true → own.of ≡ j → (takes t l n Up x (with_up n rest w)).world.control ≡ w.control → w.control.heard j ≡ false → note_of (plain x.bytes) ≡ Some Hello → ⊥
    unfolding note_of hears
    hello_not own control is_j quiet unheard hello = by_frame (announcement_in (plain x.bytes)) refl hello still_quiet
      where
        comes : ComesUp t w.control w.far j (plain x.bytes)
        comes = let P : ℕ → Type 0 = λ z. ComesUp t w.control w.far z (plain x.bytes) in subst P is_j own.reads

        still_quiet : (hears t l j (plain x.bytes) (with_up n rest w)).world.control ≡ w.control
        still_quiet = ap (λ (z : ℕ). (hears t l z (plain x.bytes) (with_up n rest w)).world.control) (sym is_j) ∙ ap (λ (z : World). z.control) (sym (hears_it own control)) ∙ quiet

        not_hello : (o : Option Note) → o ≡ Some Hello → (s : ℕ) (r : Result Message CspFault) → o ≡ message_note s r → ⊥
        not_hello o e s (Ok m) f = by_body m.body f
          where
            by_body : (b : Body) → o ≡ Some (body_note s m.serial b) → ⊥
            by_body (body.Ask request) g = cc
            by_body (body.Answer response) g = cc
        not_hello o e s (Err fault) f = cc

        by_pdu : (r : Result Pdu EcpFault) (f : List ℕ) → pdu_note r f ≡ Some Hello → ⊥
        by_pdu (Err fault) f e = cc
        by_pdu (Ok pdu) f e = by_tests (pdu.subtype == 2) pdu.acknowledgement e
          where
            by_tests : (b c : Bool) → cond b (cond c (Some (Ack pdu.sequence)) (message_note pdu.sequence (read_message (drop 18 f)))) None ≡ Some Hello → ⊥
            by_tests false c g = cc
            by_tests true true g = cc
            by_tests true false g = not_hello (message_note pdu.sequence (read_message (drop 18 f))) g pdu.sequence (read_message (drop 18 f)) refl

        by_frame : (r : Result Announce LldpFault) → announcement_in (plain x.bytes) ≡ r → frame_note r (plain x.bytes) ≡ Some Hello → (hears_frame t l j r (plain x.bytes) (with_up n rest w)).world.control ≡ w.control → ⊥
        by_frame (Err fault) e note q = by_pdu (pdu_in (plain x.bytes)) (plain x.bytes) note
        by_frame (Ok a) e note q =
            let is_it : is_announced t j a ≡ true = comes.2.announces a e in
            let moved : announced (decide t l) t j a w.control ≡ heard (decide t l) j w.control = ap (λ (b : Bool). cond b (heard (decide t l) j w.control) (Rattle.exb_control_spec.specs.Machine.still w.control)) is_it in
            let state : (hears_frame t l j (Ok a) (plain x.bytes) (with_up n rest w)).world.control ≡ (heard (decide t l) j w.control).state =
            moves_control t l tree (announced (decide t l) t j a w.control) (with_up n rest w) ∙ ap (λ (m : Rattle.exb_control_spec.specs.Machine.Moved). m.state) moved in
            let count = hearing_counts t (decide t l) w.control j j_there (let few : j < 65 = extender-low t tree j j_there in omega arith) unheard in
            let z : planned t (decide t l) w.control ≡ planned t (decide t l) (heard (decide t l) j w.control).state = ap (planned t (decide t l)) (sym q ∙ state) in
            omega arith

-- ---- the law
module _ (t : Shape) (l : Limits) (tree : IsTree t) (round : TagRoundTrip) where
  pub matters_there : (w : World) (o : Option Work) (js : List Job) (j : ℕ) → QueueFacts t w o js → Matters t o js j → (is_extender t j ≡ true) × IsReached t w j
  matters_there w (Some k) js j q m = let P : ℕ → Type 0 = λ z. (is_extender t z ≡ true) × IsReached t w z in subst P (sym m) (q.0, q.1)
  matters_there w None [] j q m = (m, (q j m).1)
  matters_there w None (job.Opening n ∷ js) j q m = let P : ℕ → Type 0 = λ z. (is_extender t z ≡ true) × IsReached t w z in subst P (sym m) (q.0, q.2)
  matters_there w None (job.AutomaticUp p ∷ js) j q m = absurd m
  matters_there w None (job.Ordered n c ∷ js) j q m = absurd m

  -- nothing of the session came, or a word of it was heard
  abbrev Outcome : World → ℕ → LinkFrame → World → Type 0
  Outcome w j x v = ((near_at t v j ≡ near_at t w j) × (far_empty (far_at t v j) ≡ far_empty (far_at t w j)) × ((far_at t v j).sent ≡ (far_at t w j).sent))
      ⊎ ((a : Note) × (near_at t v j ≡ near_hears (near_at t w j) a) × (far_empty (far_at t v j) ≡ far_empty (far_at t w j)) × ((far_at t w j).sent ≡ a ∷ (far_at t v j).sent) × ((w.control.heard j ≡ false) → a ≡ Hello → ⊥))

  outcome : (w : World) → Facts t l w → (n : ℕ) (x : LinkFrame) (rest : List LinkFrame) (j : ℕ) → is_extender t n ≡ true → w.up n ≡ x ∷ rest → (takes t l n Up x (with_up n rest w)).world.control ≡ w.control →
      Matters t w.control.work w.control.queue j → Outcome w j x (takes t l n Up x (with_up n rest w)).world
  outcome w facts n x rest j there first quiet m =
      let q = matters_there w w.control.work w.control.queue j facts.queue m in
      elim (cases_lt (on t n) 64) [
        | inr deep ↦ elim (cases_Bool (is_of t w.control.held j n x)) [
          | inl mine ↦ inl (mine_moves t l tree round w facts n x rest there first deep j q.0 mine q.1)
          | inr other ↦ inl (other_moves t l tree round w facts n x rest there first deep j q.0 other)
        ]
        | inl low ↦ elim (cases_Bool (is_control x)) [
          | inr plainly ↦ inl (data_kept t l tree round w facts n x rest there first low j q.0 plainly)
          | inl control ↦
              let own = (at_bridge_facts t l tree round w facts n x rest there first low j q.0).owned control in
              elim (cases_eq own.of j) [
                | inl is_j ↦
                    let h = mine_heard t l tree round w facts n x rest there first low j q.0 own control is_j q.1 quiet in
                    inr (h.note, h.near, h.far, h.sent, (λ unheard hello. hello_not t l tree round w facts n x rest there first low j q.0 own control is_j quiet unheard (h.reads ∙ ap (λ (z : Note). Some z) hello)))
                | inr other ↦ inl (other_kept t l tree round w facts n x rest there first low j q.0 own control other quiet)
              ]
        ]
      ]

  pub up_law : (w : World) → Facts t l w → (n : ℕ) (x : LinkFrame) (rest : List LinkFrame) (j : ℕ) → is_extender t n ≡ true → w.up n ≡ x ∷ rest → (takes t l n Up x (with_up n rest w)).world.control ≡ w.control →
      Matters t w.control.work w.control.queue j →
      (near_up (pair_at t (takes t l n Up x (with_up n rest w)).world j) ≡ near_up (pair_at t w j)) × (far_empty (far_at t (takes t l n Up x (with_up n rest w)).world j) ≡ far_empty (far_at t w j))
  up_law w facts n x rest j there first quiet m =
      elim (outcome w facts n x rest j there first quiet m) [
        | inl k ↦ (ap (λ (z : Near). near_all z (far_at t (takes t l n Up x (with_up n rest w)).world j).sent) k.0 ∙ ap (near_all (near_at t w j)) k.2, k.1)
        | inr h ↦ (ap (λ (z : Near). near_all z (far_at t (takes t l n Up x (with_up n rest w)).world j).sent) h.1 ∙ sym (ap (near_all (near_at t w j)) h.3), h.2)
      ]

  behind : (a : Note) (ms : List Note) → (a ≡ Hello → ⊥) → HasHello (a ∷ ms) → HasHello ms
  behind (Asks s k) ms other h = h
  behind (Answers s k) ms other h = h
  behind (Ack s) ms other h = h
  behind Hello ms other h = absurd (other refl)

  pub hello_law : (w : World) → Facts t l w → (n : ℕ) (x : LinkFrame) (rest : List LinkFrame) (j : ℕ) → is_extender t n ≡ true → w.up n ≡ x ∷ rest → (takes t l n Up x (with_up n rest w)).world.control ≡ w.control →
      Matters t w.control.work w.control.queue j → w.control.heard j ≡ false → HasHello (far_at t w j).sent → HasHello (far_at t (takes t l n Up x (with_up n rest w)).world j).sent
  hello_law w facts n x rest j there first quiet m unheard hello =
      elim (outcome w facts n x rest j there first quiet m) [
        | inl k ↦ subst HasHello (sym k.2) hello
        | inr h ↦ behind h.0 (far_at t (takes t l n Up x (with_up n rest w)).world j).sent (h.4 unheard) (subst HasHello h.3 hello)
      ]
