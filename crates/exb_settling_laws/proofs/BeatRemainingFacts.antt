-- A beat keeps what is left to be shown of all ends.
use Rattle.std.proofs.Common.{◌≡◌, ◌≢◌, ◌⊎◌, inl, inr, ℕ, zero, suc, ◌+◌, ◌≤◌, ◌<◌, ◌==◌, Bool, true, false, cond, List, [], ◌∷◌, Option, Some, None, refl, ap, sym, ◌∙◌, subst, arith}
use Rattle.std.proofs.lemmas.Bool.{cases_Bool, cases_eq, eq-eqb, ne_eqb}
use Rattle.exb_model.specs.Tree.{Shape, IsTree, is_extender}
use Rattle.exb_model.specs.Setup.{Limits}
use Rattle.exb_frame.specs.TagValues.{TagRoundTrip}
use Rattle.exb_ecp.specs.StopAndWait.{State as Ecp, beaten, stopped, submitted}
use Rattle.exb_csp.specs.declared.message.Body.TheVariants as body
use Rattle.exb_csp.specs.declared.message.Message.{Message}
use Rattle.exb_csp.specs.declared.message.Request.{Request}
use Rattle.exb_csp.specs.Encoding.{message_bytes}
use Rattle.exb_csp.specs.Sessions.AskingEnd.{AskerState}
use Rattle.exb_extender.specs.Machine.{ExtenderState, Beats as EndBeats, beats as extender_beats}
use Rattle.exb_control_spec.specs.Machine.{State, Work, Moved, beats_in}
use Rattle.exb_control_spec.specs.Machine.{beats as control_step}
use Rattle.exb_control_spec.specs.Runs.MachineInvariant.{OneWaits, waited_for}
use Rattle.exb_world_spec.specs.Worlds.{World, Beat, with_near, with_control, next_beat}
use Rattle.exb_world_spec.specs.Effects.{only, each}
use Rattle.exb_world_spec.specs.ExtenderSteps.{reacts}
use Rattle.exb_world_spec.specs.ControlFrames.{bridge_request, moves, beats_near}
use Rattle.exb_world_spec.specs.Runs.Sessions.{CanBeSent}
use Rattle.exb_world_spec.specs.Steps.{stepped}
use Rattle.exb_world_spec.proofs.LinkFrames.{at_here, at_other}
use Rattle.exb_settling_laws.specs.RemainingFacts.{NearLeft, FarLeft}
use Rattle.exb_settling_laws.proofs.BeatLaw.{far_loop, far_turn, after_near, after_control, after_all, stepped_is, far_ends, near_stays, Until, until, within}
use Rattle.exb_settling_laws.proofs.ControlBeat.{Moves, moved, moves_stays, counts, due_again}
use Rattle.exb_settling_laws.proofs.StopAndWaitSteps.{near_asked, near_idles, near_counts, far_beats}
use Rattle.exb_settling_laws.proofs.FarLoop.{far_now}
use Rattle.exb_settling_laws.proofs.NearBeats.{Stays, near_loop, near_turn, near_beats_near}
use Rattle.exb_settling_laws.proofs.ControlTurns.{SameEnds, to_extender_ends}

-- ---- the bridge's ends
module _ (t : Shape) (n : ℕ) where
  turn_other : (a : ℕ) (w : World) → a ≢ n → (near_turn t a w).near n ≡ w.near n
  turn_other a w other = by_there (is_extender t a)
    where
      by_there : (b : Bool) → (cond b (beats_near t a w) (only w)).world.near n ≡ w.near n
      by_there false = refl
      by_there true = ap (λ (f : ℕ → Ecp). f n) (near_beats_near t a w) ∙ at_other a n (beaten (w.near a)) w.near (λ e. other (sym e))

  loop_past : (a k : ℕ) (w : World) → n < a → (near_loop t a k w).near n ≡ w.near n
  loop_past a zero w past = refl
  loop_past a (suc k) w past = loop_past (a + 1) k (near_turn t a w) (omega arith) ∙ turn_other a w (λ e. omega arith)

  -- that of an extender beats once
  loop_beaten : (a k : ℕ) (w : World) → is_extender t n ≡ true → a ≤ n → n < a + k → (near_loop t a k w).near n ≡ beaten (w.near n)
  loop_beaten a zero w there low high = absurd (omega arith)
  loop_beaten a (suc k) w there low high =
      elim (cases_eq a n) [
        | inr e ↦ loop_beaten (a + 1) k (near_turn t a w) there (omega arith) (omega arith) ∙ ap beaten (turn_other a w e)
        | inl e ↦
            let there_a : is_extender t a ≡ true = (let P : ℕ → Type 0 = λ z. is_extender t z ≡ true in subst P (sym e) there) in
            let to : near_turn t a w ≡ (beats_near t n w).world = ap (λ (b : Bool). (cond b (beats_near t a w) (only w)).world) there_a ∙ ap (λ (z : ℕ). (beats_near t z w).world) e in
            loop_past (a + 1) k (near_turn t a w) (omega arith) ∙ ap (λ (v : World). v.near n) to ∙ ap (λ (f : ℕ → Ecp). f n) (near_beats_near t n w) ∙ at_here n (beaten (w.near n)) w.near
      ]

  -- any other stays
  loop_unbeaten : (a k : ℕ) (w : World) → is_extender t n ≡ false → (near_loop t a k w).near n ≡ w.near n
  loop_unbeaten a zero w none = refl
  loop_unbeaten a (suc k) w none = loop_unbeaten (a + 1) k (near_turn t a w) none ∙ same
    where
      same : (near_turn t a w).near n ≡ w.near n
      same =
          elim (cases_eq a n) [
            | inr e ↦ turn_other a w e
            | inl e ↦ ap (λ (b : Bool). (cond b (beats_near t a w) (only w)).world.near n) (ap (is_extender t) e ∙ none)
          ]

-- ---- the extenders
module _ (t : Shape) (l : Limits) (tree : IsTree t) (round : TagRoundTrip) (n : ℕ) (there : is_extender t n ≡ true) where
  far_other : (a : ℕ) (w : World) → a ≢ n → (far_turn t a w).far n ≡ w.far n
  far_other a w other = by_there (is_extender t a)
    where
      by_there : (b : Bool) → (cond b (reacts t a None EndBeats w) (only w)).world.far n ≡ w.far n
      by_there false = refl
      by_there true = ap (λ (f : ℕ → ExtenderState). f n) (far_now t l tree round a w) ∙ at_other a n (extender_beats (w.far a)).0 w.far (λ e. other (sym e))

  far_past : (a k : ℕ) (w : World) → n < a → (far_loop t a k w).far n ≡ w.far n
  far_past a zero w past = refl
  far_past a (suc k) w past = far_past (a + 1) k (far_turn t a w) (omega arith) ∙ far_other a w (λ e. omega arith)

  far_beaten : (a k : ℕ) (w : World) → a ≤ n → n < a + k → (far_loop t a k w).far n ≡ (extender_beats (w.far n)).0
  far_beaten a zero w low high = absurd (omega arith)
  far_beaten a (suc k) w low high =
      elim (cases_eq a n) [
        | inr e ↦ far_beaten (a + 1) k (far_turn t a w) (omega arith) (omega arith) ∙ ap (λ (x : ExtenderState). (extender_beats x).0) (far_other a w e)
        | inl e ↦
            let there_a : is_extender t a ≡ true = (let P : ℕ → Type 0 = λ z. is_extender t z ≡ true in subst P (sym e) there) in
            let to : far_turn t a w ≡ (reacts t n None EndBeats w).world = ap (λ (b : Bool). (cond b (reacts t a None EndBeats w) (only w)).world) there_a ∙ ap (λ (z : ℕ). (reacts t z None EndBeats w).world) e in
            far_past (a + 1) k (far_turn t a w) (omega arith) ∙ ap (λ (v : World). v.far n) to ∙ ap (λ (f : ℕ → ExtenderState). f n) (far_now t l tree round n w) ∙ at_here n (extender_beats (w.far n)).0 w.far
      ]

  far_left : (a k : ℕ) (w : World) → a ≤ n → n < a + k → FarLeft (w.far n) → FarLeft ((after_all t a k w).far n)
  far_left a k w low high left =
      let u : Until t w (after_control t a k w) = until t a k w in
      let is : (after_all t a k w).far n ≡ (extender_beats (w.far n)).0 =
      far_beaten a k (after_control t a k w) low high ∙ ap (λ (f : ℕ → ExtenderState). (extender_beats (f n)).0) u.far in
      subst FarLeft (sym is) (far_beats (w.far n) left)

-- ---- the control
-- the request that is outstanding can be sent again
abbrev pub CanAskAgain : State → Type 0
CanAskAgain s = (n : ℕ) (request : Request) → (s.askers n).waiting ≡ Some request → CanBeSent (record { serial = (s.askers n).serial; body = body.Ask request })

module _ (t : Shape) (n : ℕ) where
  -- of another extender
  control_other : (k : Work) (v : World) → n ≢ k.first.extender →
      ((moves t (beats_in (Some k) v.control) v).world.near n ≡ v.near n) × ((beats_in (Some k) v.control).state.askers n ≡ v.control.askers n)
  control_other k v other = (by_asks (beats_in (Some k) v.control).asks (messages k v), ap (λ (b : Bool). let r : AskerState = cond b (Rattle.exb_csp.specs.Sessions.AskingEnd.beaten (v.control.askers k.first.extender)).0 (v.control.askers n) in r) (ne_eqb n k.first.extender other))
    where
      IsOf : List Rattle.exb_control_spec.specs.declared.extender_message.Asked.Asked → Type 0
      IsOf xs = (xs ≡ []) ⊎ ((m : Message) × (xs ≡ record { extender = k.first.extender; message = m } ∷ []))

      due_of : (e : ℕ) (b : Bool) (o : Option Message) → (Rattle.exb_control_spec.specs.Machine.messages_due e b o ≡ []) ⊎ ((m : Message) × (Rattle.exb_control_spec.specs.Machine.messages_due e b o ≡ record { extender = e; message = m } ∷ []))
      due_of e true (Some m) = inr (m, refl)
      due_of e true None = inl refl
      due_of e false o = inl refl

      messages : (k : Work) (v : World) → ((beats_in (Some k) v.control).asks ≡ []) ⊎ ((m : Message) × ((beats_in (Some k) v.control).asks ≡ record { extender = k.first.extender; message = m } ∷ []))
      messages k v = due_of k.first.extender (Rattle.exb_csp.specs.Sessions.AskingEnd.beaten (v.control.askers k.first.extender)).1 (Rattle.exb_csp.specs.Sessions.AskingEnd.message_again (v.control.askers k.first.extender))

      u : World
      u = with_control (beats_in (Some k) v.control).state v

      by_asks : (xs : List Rattle.exb_control_spec.specs.declared.extender_message.Asked.Asked) → (xs ≡ []) ⊎ ((m : Message) × (xs ≡ record { extender = k.first.extender; message = m } ∷ [])) →
          (each (Rattle.exb_world_spec.specs.ControlFrames.asks t) xs (with_control (beats_in (Some k) v.control).state v)).world.near n ≡ v.near n
      by_asks xs (inl e) = ap (λ (ys : List Rattle.exb_control_spec.specs.declared.extender_message.Asked.Asked). (each (Rattle.exb_world_spec.specs.ControlFrames.asks t) ys (with_control (beats_in (Some k) v.control).state v)).world.near n) e
      by_asks xs (inr p) =
          ap (λ (ys : List Rattle.exb_control_spec.specs.declared.extender_message.Asked.Asked). (each (Rattle.exb_world_spec.specs.ControlFrames.asks t) ys (with_control (beats_in (Some k) v.control).state v)).world.near n) p.1
          ∙ ap (λ (g : ℕ → Ecp). g n) (to_extender_ends t k.first.extender (bridge_request (v.near k.first.extender).next (message_bytes p.0)) (with_near k.first.extender (submitted (message_bytes p.0) (stopped (v.near k.first.extender))) (with_control (beats_in (Some k) v.control).state v))).near
          ∙ at_other k.first.extender n (submitted (message_bytes p.0) (stopped (v.near k.first.extender))) v.near other

  abbrev AtFirst : World → ℕ → Moved → Type 0
  AtFirst v e m = NearLeft ((moves t m v).world.near e) (m.state.askers e)

  -- of the extender of the outstanding request, whose end has beaten
  control_first : (k : Work) (v : World) (request : Request) (e : Ecp) → n ≡ k.first.extender → (v.control.askers k.first.extender).waiting ≡ Some request → v.near k.first.extender ≡ beaten e → NearLeft e (v.control.askers k.first.extender) →
      CanBeSent (record { serial = (v.control.askers k.first.extender).serial; body = body.Ask request }) →
      NearLeft ((moves t (beats_in (Some k) v.control) v).world.near k.first.extender) ((beats_in (Some k) v.control).state.askers k.first.extender)
  control_first k v request e is waits near left can = by_test ((v.control.askers k.first.extender).beats == 15) refl
    where
      by_test : (b : Bool) → ((v.control.askers k.first.extender).beats == 15) ≡ b → AtFirst v k.first.extender (beats_in (Some k) v.control)
      by_test false f =
          let a : AskerState = record (v.control.askers k.first.extender) { beats = (v.control.askers k.first.extender).beats + 1 } in
          let counted : NearLeft (v.near k.first.extender) (record (v.control.askers k.first.extender) { beats = (v.control.askers k.first.extender).beats + 1 }) =
          (let P : Ecp → Type 0 = λ x. NearLeft x (record (v.control.askers k.first.extender) { beats = (v.control.askers k.first.extender).beats + 1 }) in subst P (sym near) (near_counts e (v.control.askers k.first.extender) f left)) in
          let Q : Bool → Type 0 = λ b. NearLeft (v.near k.first.extender) (cond b (record (v.control.askers k.first.extender) { beats = (v.control.askers k.first.extender).beats + 1 }) (v.control.askers k.first.extender)) in
          subst (AtFirst v k.first.extender) (sym (counts k v.control request waits f)) (subst Q (sym (eq-eqb k.first.extender k.first.extender refl)) counted)
      by_test true f =
          let m : Moved = moved k.first.extender (record (v.control.askers k.first.extender) { beats = 0 }) (record { extender = k.first.extender; message = record { serial = (v.control.askers k.first.extender).serial; body = body.Ask request } } ∷ []) v.control in
          let payload : List ℕ = message_bytes (record { serial = (v.control.askers k.first.extender).serial; body = body.Ask request }) in
          let fresh : NearLeft (submitted payload (stopped (v.near k.first.extender))) (record { serial = (v.control.askers k.first.extender).serial; waiting = Some request; beats = 0 }) =
          near_asked (v.near k.first.extender) (v.control.askers k.first.extender).serial request (left.asked request waits) can in
          let asked : NearLeft (submitted payload (stopped (v.near k.first.extender))) (record (v.control.askers k.first.extender) { beats = 0 }) =
          (let P : Option Request → Type 0 = λ o. NearLeft (submitted payload (stopped (v.near k.first.extender))) (record { serial = (v.control.askers k.first.extender).serial; waiting = o; beats = 0 }) in subst P (sym waits) fresh) in
          let ecp : (moves t m v).world.near k.first.extender ≡ submitted payload (stopped (v.near k.first.extender)) =
          ap (λ (g : ℕ → Ecp). g k.first.extender) (to_extender_ends t k.first.extender (bridge_request (v.near k.first.extender).next payload) (with_near k.first.extender (submitted payload (stopped (v.near k.first.extender))) (with_control m.state v))).near
          ∙ at_here k.first.extender (submitted payload (stopped (v.near k.first.extender))) v.near in
          let R : Ecp → Type 0 = λ x. NearLeft x (record (v.control.askers k.first.extender) { beats = 0 }) in
          let Q : Bool → Type 0 = λ b. NearLeft ((moves t m v).world.near k.first.extender) (cond b (record (v.control.askers k.first.extender) { beats = 0 }) (v.control.askers k.first.extender)) in
          subst (AtFirst v k.first.extender) (sym (due_again k v.control request waits f)) (subst Q (sym (eq-eqb k.first.extender k.first.extender refl)) (subst R (sym ecp) asked))

module _ (t : Shape) (l : Limits) (tree : IsTree t) (round : TagRoundTrip) (w : World) (one : OneWaits w.control) (again : CanAskAgain w.control) (there : (k : Work) → w.control.work ≡ Some k → is_extender t k.first.extender ≡ true)
    (left : (n : ℕ) → NearLeft (w.near n) (w.control.askers n)) where
  stays : Stays w (after_near t 1 64 w)
  stays = near_stays t 1 64 w

  -- an end that doesn't wait
  idle_end : (n : ℕ) → (w.control.askers n).waiting ≡ None → NearLeft ((after_near t 1 64 w).near n) (w.control.askers n)
  idle_end n idle =
      elim (cases_Bool (is_extender t n)) [
        | inl e ↦
            let low = within t l tree round n e in
            let P : Ecp → Type 0 = λ x. NearLeft x (w.control.askers n) in
            subst P (sym (loop_beaten t n 1 64 (record w { beats = next_beat w.beats }) e low.0 low.1)) (near_idles (w.near n) (w.control.askers n) idle (left n))
        | inr e ↦ (let P : Ecp → Type 0 = λ x. NearLeft x (w.control.askers n) in subst P (sym (loop_unbeaten t n 1 64 (record w { beats = next_beat w.beats }) e)) (left n))
      ]

  waits_not : (n : ℕ) (o : Option Work) → w.control.work ≡ o → ((k : Work) → o ≡ Some k → n ≢ k.first.extender) → (w.control.askers n).waiting ≡ None
  waits_not n None e other = one n ∙ ap (λ (o : Option Work). waited_for o n) e
  waits_not n (Some k) e other =
      one n ∙ ap (λ (o : Option Work). waited_for o n) e ∙ ap (λ (b : Bool). let r : Option Request = cond b (Some k.first.request) None in r) (ne_eqb n k.first.extender (other k refl))

  abbrev After : ℕ → Moved → Type 0
  After n m = NearLeft ((moves t m (after_near t 1 64 w)).world.near n) (m.state.askers n)

  by_work : (n : ℕ) (o : Option Work) → w.control.work ≡ o → After n (beats_in o (after_near t 1 64 w).control)
  by_work n None e =
      let idle = waits_not n None e (λ k z. absurd (never k z)) in
      let Q : State → Type 0 = λ s. NearLeft ((after_near t 1 64 w).near n) (s.askers n) in
      subst Q (sym stays.control) (idle_end n idle)
    where
      never : (k : Work) → None ≡ Some k → ⊥
      never k z = cc
  by_work n (Some k) e =
      elim (cases_eq n k.first.extender) [
        | inr other ↦
            let c = control_other t n k (after_near t 1 64 w) other in
            let idle = waits_not n (Some k) e (λ x z. (let P : Work → Type 0 = λ y. n ≢ y.first.extender in subst P (same k x z) other)) in
            let Q : State → Type 0 = λ s. NearLeft ((after_near t 1 64 w).near n) (s.askers n) in
            let first : NearLeft ((after_near t 1 64 w).near n) ((after_near t 1 64 w).control.askers n) = subst Q (sym stays.control) (idle_end n idle) in
            let P : Ecp → Type 0 = λ x. NearLeft x ((after_near t 1 64 w).control.askers n) in
            let R : AskerState → Type 0 = λ a. NearLeft ((moves t (beats_in (Some k) (after_near t 1 64 w).control) (after_near t 1 64 w)).world.near n) a in
            subst R (sym c.1) (subst P (sym c.0) first)
        | inl is ↦
            let E : ℕ = k.first.extender in
            let is_there : is_extender t k.first.extender ≡ true = there k e in
            let low = within t l tree round k.first.extender is_there in
            let waits_w : (w.control.askers k.first.extender).waiting ≡ Some k.first.request =
            one k.first.extender ∙ ap (λ (o : Option Work). waited_for o k.first.extender) e ∙ ap (λ (b : Bool). let r : Option Request = cond b (Some k.first.request) None in r) (eq-eqb k.first.extender k.first.extender refl) in
            let waits : ((after_near t 1 64 w).control.askers k.first.extender).waiting ≡ Some k.first.request = ap (λ (s : State). (s.askers k.first.extender).waiting) stays.control ∙ waits_w in
            let Q : State → Type 0 = λ s. NearLeft (w.near k.first.extender) (s.askers k.first.extender) in
            let C : State → Type 0 = λ s. CanBeSent (record { serial = (s.askers k.first.extender).serial; body = body.Ask k.first.request }) in
            let all : After k.first.extender (beats_in (Some k) (after_near t 1 64 w).control) =
            control_first t n k (after_near t 1 64 w) k.first.request (w.near k.first.extender) is waits (loop_beaten t k.first.extender 1 64 (record w { beats = next_beat w.beats }) is_there low.0 low.1)
            (subst Q (sym stays.control) (left k.first.extender)) (subst C (sym stays.control) (again k.first.extender k.first.request waits_w)) in
            let P : ℕ → Type 0 = λ z. After z (beats_in (Some k) (after_near t 1 64 w).control) in
            subst P (sym is) all
      ]
    where
      same : (x y : Work) → Some x ≡ Some y → x ≡ y
      same x y z = cc

  near_left : (n : ℕ) → NearLeft ((after_all t 1 64 w).near n) ((after_all t 1 64 w).control.askers n)
  near_left n =
      let e : SameEnds (after_control t 1 64 w) (after_all t 1 64 w) = far_ends t 1 64 (after_control t 1 64 w) in
      let m : Moves t (control_step (after_near t 1 64 w).control) (after_near t 1 64 w) (after_control t 1 64 w) = moves_stays t (control_step (after_near t 1 64 w).control) (after_near t 1 64 w) in
      let work : (after_near t 1 64 w).control.work ≡ w.control.work = ap (λ (s : State). s.work) stays.control in
      let P : Option Work → Type 0 = λ o. After n (beats_in o (after_near t 1 64 w).control) in
      let now : NearLeft ((after_control t 1 64 w).near n) ((control_step (after_near t 1 64 w).control).state.askers n) = subst P (sym work) (by_work n w.control.work refl) in
      let Q : (ℕ → Ecp) → Type 0 = λ f. NearLeft (f n) ((control_step (after_near t 1 64 w).control).state.askers n) in
      let R : State → Type 0 = λ s. NearLeft ((after_all t 1 64 w).near n) (s.askers n) in
      subst R (sym (e.control ∙ m.control)) (subst Q (sym e.near) now)

  -- A beat keeps it, at both ends.
  pub beat_near_left : (n : ℕ) → NearLeft ((stepped t l Beat w).world.near n) ((stepped t l Beat w).world.control.askers n)
  beat_near_left n = (let P : World → Type 0 = λ z. NearLeft (z.near n) (z.control.askers n) in subst P (sym (stepped_is t l w)) (near_left n))

pub beat_far_left : (t : Shape) (l : Limits) (tree : IsTree t) (round : TagRoundTrip) (w : World) (n : ℕ) → is_extender t n ≡ true → FarLeft (w.far n) → FarLeft ((stepped t l Beat w).world.far n)
beat_far_left t l tree round w n there left =
    let low = within t l tree round n there in
    let P : World → Type 0 = λ z. FarLeft (z.far n) in
    subst P (sym (stepped_is t l w)) (far_left t l tree round n there 1 64 w low.0 low.1 left)
