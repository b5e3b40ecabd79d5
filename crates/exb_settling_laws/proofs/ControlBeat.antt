-- The control beats: where no request is outstanding nothing is done; else its asker counts the beat, and at the sixteenth the
-- request goes out again, in place of what was sent.
use Rattle.std.proofs.Common.{◌≡◌, inl, inr, ℕ, ◌+◌, ◌≤◌, ◌<◌, ◌==◌, Bool, true, false, cond, List, [], ◌∷◌, ◌++◌, append-nil, length, Option, Some, None, refl, ap, sym, ◌∙◌, subst, arith}
use Rattle.std.specs.Prelude.{is_some}
use Rattle.std.proofs.lemmas.Bool.{cases_eq, eq-eqb, ne_eqb, eqb-true}
use Rattle.exb_model.specs.Tree.{Shape, IsTree, is_extender}
use Rattle.exb_model.specs.Setup.{Limits}
use Rattle.exb_frame.specs.TagValues.{TagRoundTrip}
use Rattle.exb_ecp.specs.StopAndWait.{Sending as Sends, State as Ecp, after, stopped}
use Rattle.exb_ecp.specs.StopAndWait.{submitted as submitted_ecp}
use Rattle.exb_csp.specs.declared.message.Body.TheVariants as body
use Rattle.exb_csp.specs.declared.message.Message.{Message}
use Rattle.exb_csp.specs.declared.message.Request.{Request}
use Rattle.exb_csp.specs.Decoding.{read_message}
use Rattle.exb_csp.specs.Encoding.{message_bytes}
use Rattle.exb_csp.specs.Sessions.AskingEnd.{AskerState, beaten, beaten_while, message_again}
use Rattle.exb_control_spec.specs.declared.extender_message.Asked.{Asked}
use Rattle.exb_control_spec.specs.Machine.{State, Work, Moved, with_asker, messages_due, beats_in}
use Rattle.exb_learn.specs.Calls.{Table}
use Rattle.exb_world_spec.specs.Worlds.{World, with_near, with_control, with_table}
use Rattle.exb_world_spec.specs.ControlFrames.{bridge_request, submits, asks, moves}
use Rattle.exb_world_spec.specs.Effects.{each}
use Rattle.exb_world_spec.proofs.LinkFrames.{at_here}
use Rattle.exb_settling_laws.specs.StopAndWait.{Message as Note, Request as Asks, Sending, submitted, again}
use Rattle.exb_settling_laws.specs.SessionPair.{Near, near_rests, near_beats, near_beat, beats_while}
use Rattle.exb_settling_laws.specs.Streams.{message_note, serial_of, sending_of, end_of, downs_of, near_at}
use Rattle.exb_settling_laws.specs.SettlingFacts.{IsLatest, IsReached, NearFacts}
use Rattle.exb_settling_laws.proofs.NearBeats.{Stays, same_stays, stays_then, to_extender_stays}
use Rattle.exb_settling_laws.proofs.NearLoop.{request_own, with_end}
use Rattle.exb_settling_laws.proofs.ControlTurns.{to_extender_ends}

-- ---- the asker
abbrev pub moved : ℕ → AskerState → List Asked → State → Moved
moved n a xs s = record { state = with_asker n a s; events = []; asks = xs; downs = [] }

abbrev beaten_if : Bool → AskerState → AskerState × Bool
beaten_if b a = cond b (record a { beats = 0 }, true) (record a { beats = a.beats + 1 }, false)

beaten_so : (a : AskerState) (request : Request) (b : Bool) → a.waiting ≡ Some request → (a.beats == 15) ≡ b → beaten a ≡ beaten_if b a
beaten_so a request b e f = ap (beaten_while a) e ∙ ap (λ (z : Bool). beaten_if z a) f

again_so : (a : AskerState) (request : Request) → a.waiting ≡ Some request → message_again a ≡ Some (record { serial = a.serial; body = body.Ask request })
again_so a request e = ap (λ (o : Option Request). message_again (record a { waiting = o })) e

beaten_serial : (a : AskerState) → (beaten a).0.serial ≡ a.serial
beaten_serial a = by_waiting a.waiting
  where
    by_test : (b : Bool) → (beaten_if b a).0.serial ≡ a.serial
    by_test true = refl
    by_test false = refl

    by_waiting : (o : Option Request) → (beaten_while a o).0.serial ≡ a.serial
    by_waiting None = refl
    by_waiting (Some r) = by_test (a.beats == 15)

pub asker_serial : (o : Option Work) (s : State) (n : ℕ) → ((beats_in o s).state.askers n).serial ≡ (s.askers n).serial
asker_serial None s n = refl
asker_serial (Some k) s n =
    elim (cases_eq n k.first.extender) [
      | inl e ↦
          ap (λ (b : Bool). (cond b (beaten (s.askers k.first.extender)).0 (s.askers n)).serial) (eq-eqb n k.first.extender e) ∙ beaten_serial (s.askers k.first.extender) ∙ ap (λ (z : ℕ). (s.askers z).serial) (sym e)
      | inr e ↦ ap (λ (b : Bool). (cond b (beaten (s.askers k.first.extender)).0 (s.askers n)).serial) (ne_eqb n k.first.extender e)
    ]

-- it counts
pub counts : (k : Work) (s : State) (request : Request) → (s.askers k.first.extender).waiting ≡ Some request → ((s.askers k.first.extender).beats == 15) ≡ false →
    beats_in (Some k) s ≡ moved k.first.extender (record (s.askers k.first.extender) { beats = (s.askers k.first.extender).beats + 1 }) [] s
counts k s request e f =
    let a : AskerState = s.askers k.first.extender in
    ap (λ (p : AskerState × Bool). moved k.first.extender p.0 (messages_due k.first.extender p.1 (message_again (s.askers k.first.extender))) s) (beaten_so a request false e f)
    ∙ ap (λ (o : Option Message). moved k.first.extender (record (s.askers k.first.extender) { beats = (s.askers k.first.extender).beats + 1 }) (messages_due k.first.extender false o) s) (again_so a request e)

-- or asks again
pub due_again : (k : Work) (s : State) (request : Request) → (s.askers k.first.extender).waiting ≡ Some request → ((s.askers k.first.extender).beats == 15) ≡ true →
    beats_in (Some k) s ≡ moved k.first.extender (record (s.askers k.first.extender) { beats = 0 }) (record { extender = k.first.extender; message = record { serial = (s.askers k.first.extender).serial; body = body.Ask request } } ∷ []) s
due_again k s request e f =
    let a : AskerState = s.askers k.first.extender in
    ap (λ (p : AskerState × Bool). moved k.first.extender p.0 (messages_due k.first.extender p.1 (message_again (s.askers k.first.extender))) s) (beaten_so a request true e f)
    ∙ ap (λ (o : Option Message). moved k.first.extender (record (s.askers k.first.extender) { beats = 0 }) (messages_due k.first.extender true o) s) (again_so a request e)

-- ---- the world
-- a request that is submitted in place of what was sent
abbrev pub asked_near : ℕ → Near → Near
asked_near serial n = record { link = submitted serial n.link; waits = n.waits; serial = n.serial; beats = n.beats; sent = n.sent ++ Asks n.link.next serial ∷ [] }

module _ (t : Shape) where
  submits_stays : (n : ℕ) (payload : List ℕ) (w : World) → Stays w (submits t n payload w).world
  submits_stays n payload w =
      stays_then w (with_near n (submitted_ecp payload (stopped (w.near n))) w) (submits t n payload w).world (record { control = refl; far = refl; up = refl })
      (to_extender_stays t n (bridge_request (w.near n).next payload) (with_near n (submitted_ecp payload (stopped (w.near n))) w))

  each_stays : (xs : List Asked) (w : World) → Stays w (each (asks t) xs w).world
  each_stays [] w = same_stays w
  each_stays (a ∷ xs) w = stays_then w (asks t a w).world (each (asks t) xs (asks t a w).world).world (submits_stays a.extender (message_bytes a.message) w) (each_stays xs (asks t a w).world)

  -- a step of the machine of changes leaves all but the control, and what goes down
  pub record Moves (m : Moved) (w v : World) : Type 0 where
    pub control : v.control ≡ m.state
    pub far : v.far ≡ w.far
    pub up : v.up ≡ w.up

  pub moves_stays : (m : Moved) (w : World) → Moves m w (moves t m w).world
  moves_stays m w =
      let s = each_stays m.asks (with_table (Rattle.exb_world_spec.specs.BridgeLearning.forgotten_all m.downs w.table) (with_control m.state w)) in
      record { control = s.control; far = s.far; up = s.up }

  counted_near : (n : ℕ) (a : AskerState) (u : Table) (w : World) →
      near_at t (with_table u (with_control (with_asker n a w.control) w)) n ≡ record { link = end_of (w.near n); waits = is_some a.waiting; serial = a.serial; beats = a.beats; sent = downs_of t w.control.held w.down n 64 n }
  counted_near n a u w =
      ap (λ (b : Bool). let r : Near = record {
        link = end_of (w.near n);
        waits = is_some (cond b a (w.control.askers n)).waiting;
        serial = (cond b a (w.control.askers n)).serial;
        beats = (cond b a (w.control.askers n)).beats;
        sent = downs_of t w.control.held w.down n 64 n;
      } in r) (eq-eqb n n refl)

-- one more of the sixteen
sixteenth : (b : ℕ) → (b + 1 == 16) ≡ (b == 15)
sixteenth b =
    elim (cases_eq b 15) [
      | inl e ↦ rw e refl
      | inr e ↦ ne_eqb (b + 1) 16 (λ z. e (omega arith)) ∙ sym (ne_eqb b 15 e)
    ]

module _ (t : Shape) (l : Limits) (tree : IsTree t) (round : TagRoundTrip) where
  submits_own : (j serial : ℕ) (payload : List ℕ) (w : World) → is_extender t j ≡ true → IsReached t w j → length payload ≤ 1024 → serial_of (read_message payload) ≡ serial →
      message_note (w.near j).next (read_message payload) ≡ Some (Asks (w.near j).next serial) → near_at t (submits t j payload w).world j ≡ asked_near serial (near_at t w j)
  submits_own j serial payload w there reached short is reads =
      request_own t l tree round j (w.near j).next payload (with_near j (submitted_ecp payload (stopped (w.near j))) w) there reached short (Asks (w.near j).next serial) reads
      ∙ ap (λ (z : Near). record z { sent = z.sent ++ Asks (w.near j).next serial ∷ [] }) (with_end t l tree round j (submitted_ecp payload (stopped (w.near j))) w)
      ∙ ap (λ (z : ℕ). asked_near_as z) is
    where
      asked_near_as : ℕ → Near
      asked_near_as z = record (near_at t w j) { link = record { next = after (w.near j).next; sending = Some (record { sequence = (w.near j).next; serial = z; beats = 0 }); got = (w.near j).received }; sent = (near_at t w j).sent ++ Asks (w.near j).next serial ∷ [] }

  -- the end of the outstanding request's session: w is the world before the beat, v that after the bridge's ends beat
  module _ (w v : World) (k : Work) (request : Request) (there : is_extender t k.first.extender ≡ true) (reached : IsReached t v k.first.extender) (waits : (v.control.askers k.first.extender).waiting ≡ Some request)
      (facts : NearFacts (w.near k.first.extender) (w.control.askers k.first.extender)) (rests : near_at t v k.first.extender ≡ near_rests (near_at t w k.first.extender)) where
    n : ℕ
    n = k.first.extender

    abbrev LatestIn : Moved → Type 0
    LatestIn m = (x : Sends) → ((moves t m v).world.near k.first.extender).sending ≡ Some x → IsLatest Asks ((moves t m v).world.near k.first.extender) (v.control.askers k.first.extender).serial x

    beats_same : (v.control.askers k.first.extender).beats ≡ (w.control.askers k.first.extender).beats
    beats_same = ap (λ (z : Near). z.beats) rests

    -- at the sixteenth beat nothing is sent any more
    given_up : ((v.control.askers k.first.extender).beats == 15) ≡ true → (w.near k.first.extender).sending ≡ None
    given_up e = by_sending (w.near k.first.extender).sending refl
      where
        by_sending : (o : Option Sends) → (w.near k.first.extender).sending ≡ o → o ≡ None
        by_sending None f = refl
        by_sending (Some x) f =
            let late : (v.control.askers k.first.extender).beats ≡ 15 = eqb-true _ _ e in
            let even : x.beats ≡ (w.control.askers k.first.extender).beats = facts.even x f in
            let few : x.beats < 12 = (facts.sending x f).beats in
            let same = beats_same in
            absurd (omega arith)

    counting : ((v.control.askers k.first.extender).beats == 15) ≡ false → near_at t (moves t (beats_in (Some k) v.control) v).world k.first.extender ≡ near_beats false (near_at t w k.first.extender)
    counting f =
        ap (λ (m : Moved). near_at t (moves t m v).world k.first.extender) (counts k v.control request waits f)
        ∙ counted_near t k.first.extender (record (v.control.askers k.first.extender) { beats = (v.control.askers k.first.extender).beats + 1 }) v.table v
        ∙ ap (λ (z : Near). record z { beats = z.beats + 1 }) rests

    asking : ((v.control.askers k.first.extender).beats == 15) ≡ true → LatestIn (beats_in (Some k) v.control) → near_at t (moves t (beats_in (Some k) v.control) v).world k.first.extender ≡ near_beats true (near_at t w k.first.extender)
    asking f later =
        let a : AskerState = v.control.askers k.first.extender in
        let payload : List ℕ = message_bytes (record { serial = (v.control.askers k.first.extender).serial; body = body.Ask request }) in
        let x : Sends = record { sequence = (v.near k.first.extender).next; beats = 0; payload = message_bytes (record { serial = (v.control.askers k.first.extender).serial; body = body.Ask request }) } in
        let u : World = with_table v.table (with_control (with_asker k.first.extender (record (v.control.askers k.first.extender) { beats = 0 }) v.control) v) in
        let is = due_again k v.control request waits f in
        let k2 = subst LatestIn is later in
        let ecp : (submits t k.first.extender payload u).world.near k.first.extender ≡ submitted_ecp payload (stopped (v.near k.first.extender)) =
        ap (λ (g : ℕ → Ecp). g k.first.extender) (to_extender_ends t k.first.extender (bridge_request (v.near k.first.extender).next payload) (with_near k.first.extender (submitted_ecp payload (stopped (v.near k.first.extender))) u)).near
        ∙ at_here k.first.extender (submitted_ecp payload (stopped (v.near k.first.extender))) v.near in
        let latest = k2 x (ap (λ (e : Ecp). e.sending) ecp) in
        let counted : near_at t u k.first.extender ≡ record (near_at t v k.first.extender) { beats = 0 } = counted_near t k.first.extender (record (v.control.askers k.first.extender) { beats = 0 }) v.table v in
        let none : sending_of (w.near k.first.extender).sending ≡ None = ap sending_of (given_up f) in
        ap (λ (m : Moved). near_at t (moves t m v).world k.first.extender) is
        ∙ submits_own k.first.extender (v.control.askers k.first.extender).serial payload u there reached latest.short latest.serial_is latest.reads
        ∙ ap (asked_near (v.control.askers k.first.extender).serial) counted
        ∙ ap (λ (z : Near). asked_near z.serial (record z { beats = 0 })) rests
        ∙ ap (λ (o : Option Sending). after_none ((near_at t w k.first.extender).sent ++ again Asks o)) none
        ∙ ap after_none (append-nil (near_at t w k.first.extender).sent)
      where
        after_none : List Note → Near
        after_none ms = record (near_at t w k.first.extender) { link = submitted (w.control.askers k.first.extender).serial (near_at t w k.first.extender).link; beats = 0; sent = ms ++ Asks (w.near k.first.extender).next (w.control.askers k.first.extender).serial ∷ [] }

    pub control_beats : LatestIn (beats_in (Some k) v.control) → near_at t (moves t (beats_in (Some k) v.control) v).world k.first.extender ≡ near_beat (near_at t w k.first.extender)
    control_beats later = by_test ((v.control.askers k.first.extender).beats == 15) refl ∙ ap (λ (b : Bool). near_beats b (near_at t w k.first.extender)) test ∙ sym (ap (λ (b : Bool). beats_while b (near_at t w k.first.extender)) waiting)
      where
        waiting : is_some (w.control.askers k.first.extender).waiting ≡ true
        waiting = sym (ap (λ (z : Near). z.waits) rests) ∙ ap is_some waits

        test : ((v.control.askers k.first.extender).beats == 15) ≡ ((w.control.askers k.first.extender).beats + 1 == 16)
        test = ap (λ (b : ℕ). b == 15) beats_same ∙ sym (sixteenth (w.control.askers k.first.extender).beats)

        by_test : (b : Bool) → ((v.control.askers k.first.extender).beats == 15) ≡ b → near_at t (moves t (beats_in (Some k) v.control) v).world k.first.extender ≡ near_beats ((v.control.askers k.first.extender).beats == 15) (near_at t w k.first.extender)
        by_test true e = asking e later ∙ ap (λ (b : Bool). near_beats b (near_at t w k.first.extender)) (sym e)
        by_test false e = counting e ∙ ap (λ (b : Bool). near_beats b (near_at t w k.first.extender)) (sym e)
