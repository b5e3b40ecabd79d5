-- The control frames that an extender sends of its own go up, and are flown.
use Rattle.std.proofs.Common.{◌≡◌, ℕ, ◌==◌, ◌&&◌, not, true, false, List, [], ◌∷◌, drop, Option, Some, None, Result, Ok, Err, refl, sym, ◌∙◌, ap, subst, inl, inr}
use Rattle.std.proofs.lemmas.Bool.{cases_Bool}
use Rattle.exb_model.specs.Tree.{Shape, IsTree, is_extender}
use Rattle.exb_model.specs.Setup.{Limits}
use Rattle.exb_model.specs.History.{Basis, History}
use Rattle.exb_frame.specs.TagValues.{TagRoundTrip}
use Rattle.exb_lldp.specs.Encoding.{spelling as announcement}
use Rattle.exb_ecp.specs.declared.pdu.Pdu.{Pdu}
use Rattle.exb_ecp.specs.declared.pdu.EcpFault.{EcpFault}
use Rattle.exb_ecp.specs.declared.stop_and_wait.Beat.{Beat as Due}
use Rattle.exb_ecp.specs.declared.stop_and_wait.Beat.TheVariants as due
use Rattle.exb_ecp.specs.Frames.{pdu_in}
use Rattle.exb_ecp.specs.StopAndWait.{Sending, heard, is_fresh, beat_of}
use Rattle.exb_csp.specs.declared.fault.CspFault.{CspFault}
use Rattle.exb_csp.specs.declared.message.Body.{Body}
use Rattle.exb_csp.specs.declared.message.Body.TheVariants as body
use Rattle.exb_csp.specs.declared.message.Message.{Message}
use Rattle.exb_csp.specs.Decoding.{read_message}
use Rattle.exb_csp.specs.Encoding.{message_bytes}
use Rattle.exb_csp.specs.declared.session.answerer.Due.{Due as Turn}
use Rattle.exb_csp.specs.declared.session.answerer.Due.TheVariants as turn
use Rattle.exb_csp.specs.Sessions.AnsweringEnd.{AnswererState, arrived, stored_message}
use Rattle.exb_extender.specs.declared.sends.Side.{Side}
use Rattle.exb_extender.specs.declared.sends.Side.TheVariants as side
use Rattle.exb_extender.specs.Forwarding.{Sent, has_etag_type, is_bare_control}
use Rattle.exb_extender.specs.Machine.{ExtenderState, Beats, react, submits, executes, by_turn, takes_body, takes_message, hears_pdu, hears, next_count, announces, sends_again, beats, announcement_frame}
use Rattle.exb_link.specs.declared.link_frame.Stamp.{Stamp}
use Rattle.exb_link.specs.declared.link_frame.LinkFrame.{LinkFrame}
use Rattle.exb_model.specs.Frames.{is_control_frame}
use Rattle.exb_control_spec.specs.Plans.HeldNumbers.{Held}
use Rattle.exb_control_spec.specs.Runs.PlannedChanges.{IsSetting}
use Rattle.exb_world_spec.specs.Worlds.{World, Up, Out, Left, push_up}
use Rattle.exb_model.specs.Tables.{at}
use Rattle.exb_world_spec.proofs.ExtenderAnswers.{SentFits}
use Rattle.exb_world_spec.proofs.ExtenderSteps.{own_fits, announced_fits, again_fits}
use Rattle.exb_world_spec.specs.Effects.{Effect, sending, then_do, each}
use Rattle.exb_world_spec.specs.ExtenderSteps.{sent_to, sends}
use Rattle.exb_world_spec.specs.Runs.Sessions.{Each, FitsOn, WasAnswered, AskedOf, StoredAt, ArePaired}
use Rattle.exb_world_spec.proofs.Frames.{bare_is}
use Rattle.exb_world_spec.proofs.LinkFrames.{each_append, at_here}
use Rattle.exb_flight.specs.Flight.{Flight}
use Rattle.exb_flight.specs.Tokens.{addressee}
use Rattle.exb_flight.specs.SimulationRelation.{Shows}
use Rattle.exb_flight.proofs.TokenKeys.{token_is}
use Rattle.exb_flight.proofs.PushedTokens.{Pushed, pushed_then, pushed_none, pushed_up}
use Rattle.exb_flight.proofs.SimulatedRequests.{control_spelled}

-- ---- its frames have the address of control frames
abbrev pub AreControl : List Sent → Type 0
AreControl xs = Each (λ (x : Sent). is_control_frame x.bytes ≡ true) xs

submits_control : (o : Option Message) (s : ExtenderState) → AreControl (submits o s).1
submits_control None s = tt
submits_control (Some m) s = (control_spelled 2 69 66 1 0 s.number false s.ecp.next (message_bytes m), tt)

turn_control : (x : AnswererState) (u : Turn) (s : ExtenderState) → AreControl (by_turn x u s).1
turn_control x (turn.Execute asked) s = submits_control (stored_message (executes x asked s).session) (executes x asked s)
turn_control x turn.Again s = submits_control (stored_message s.session) s
turn_control x turn.Ignore s = tt

message_control : (r : Result Message CspFault) (s : ExtenderState) → AreControl (takes_message r s).1
message_control (Err fault) s = tt
message_control (Ok m) s = by_body m.body
  where
    by_body : (b : Body) → AreControl (takes_body m.serial b s).1
    by_body (body.Ask request) = turn_control (arrived s.session m.serial request).0 (arrived s.session m.serial request).1 s
    by_body (body.Answer response) = tt

pdu_control : (r : Result Pdu EcpFault) (f : List ℕ) (s : ExtenderState) → AreControl (hears_pdu r f s).1
pdu_control (Err fault) f s = tt
pdu_control (Ok p) f s =
    elim (cases_Bool (p.subtype == 2)) [
      | inr other ↦ rw other tt
      | inl ours ↦ elim (cases_Bool p.acknowledgement) [
        | inl a ↦ rw (ours, a) tt
        | inr a ↦ rw (ours, a) (
          control_spelled 2 69 66 1 0 s.number true p.sequence [],
          (
              elim (cases_Bool (is_fresh p.sequence s.ecp)) [
                | inl z ↦ rw z (message_control (read_message (drop 18 f)) (record s { ecp = heard p.sequence s.ecp }))
                | inr z ↦ rw z tt
              ]),
        )
      ]
    ]

pub hears_control : (f : List ℕ) (s : ExtenderState) → AreControl (hears f s).1
unfolding hears
hears_control f s = pdu_control (pdu_in f) f s

announcement_control : (n ports : ℕ) → is_control_frame (announcement_frame n ports) ≡ true
unfolding is_control_frame announcement
announcement_control n ports = refl

pub beats_control : (s : ExtenderState) → AreControl (react Beats s).1
unfolding beats
beats_control s =
    each_append (λ (x : Sent). is_control_frame x.bytes ≡ true) (announces (next_count s.beats) s) (sends_again (beat_of s.ecp.sending) s.number s.ecp.sending)
    (elim (cases_Bool (not s.opened && (next_count s.beats == 1))) [ inl e ↦ rw e (announcement_control s.number s.tables.ports, tt) | inr e ↦ rw e tt ])
    (again (beat_of s.ecp.sending) s.ecp.sending)
  where
    again : (d : Due) (o : Option Sending) → AreControl (sends_again d s.number o)
    again due.SendAgain (Some x) = (control_spelled 2 69 66 1 0 s.number false x.sequence x.payload, tt)
    again due.SendAgain None = tt
    again due.Nothing o = tt
    again due.GaveUp o = tt

-- ---- they go up
-- a bare control frame that goes up from extender n, as the sessions say
pub record IsOwn (t : Shape) (held : Held) (far : ℕ → ExtenderState) (n : ℕ) (x : Sent) : Type 0 where
  pub side : x.side ≡ side.Up
  pub bare : is_bare_control x.bytes ≡ true
  pub control : is_control_frame x.bytes ≡ true
  pub fits : FitsOn t held (StoredAt far) n x.bytes

module _ (t : Shape) (l : Limits) (i : Basis) (tree : IsTree t) (round : TagRoundTrip) where
  pub own_pushed : (n : ℕ) (stamp : Option Stamp) (xs : List Sent) (v : World) (h : History) (gone : List Left) (f : Flight) → Shows t i v h gone f → ((m : ℕ) → ArePaired (v.control.askers m) (v.far m).session) → Each (IsOwn t v.control.held v.far n) xs →
      Pushed t l i h gone f (each (sends t n stamp) xs v)
  own_pushed n stamp [] v h gone f s paired all = pushed_none t l i v h gone f s
  own_pushed n stamp (x ∷ xs) v h gone f s paired all =
      let word : LinkFrame = record { bytes = x.bytes; stamp = stamp } in
      let e : Effect = sending (Out n side.Up x.bytes) (push_up n word v) in
      let is : sends t n stamp x v ≡ e = ap (λ (z : Side). sent_to t n stamp z x.bytes v) all.0.side in
      let untyped : has_etag_type x.bytes ≡ false = (bare_is x.bytes all.0.bare).untyped in
      let mine : addressee t v.control.held n x.bytes ≡ Some n = rw untyped refl in
      let first : Pushed t l i h gone f e =
      pushed_up t l i tree round v h gone f s (Out n side.Up x.bytes) n word all.0.control all.0.fits paired
      (λ j k. inl (same_some n j.extender (sym mine ∙ (token_is t tree round v.control.held Up (StoredAt v.far) n word j all.0.control all.0.fits k).1))) in
      subst (λ (z : Effect). Pushed t l i h gone f (then_do z (each (sends t n stamp) xs))) (sym is)
      (pushed_then t l i h gone f e (each (sends t n stamp) xs) first (own_pushed n stamp xs (push_up n word v) _ _ _ first.flown.shows paired all.1))
    where
      same_some : (a b : ℕ) → Some a ≡ Some b → a ≡ b
      same_some a b e = cc

module _ (t : Shape) (l : Limits) (tree : IsTree t) (setting : IsSetting t l) (round : TagRoundTrip) where
  -- what an extender sends of its own fits once it has reacted
  pub all_own : (held : Held) (askers : ℕ → Rattle.exb_csp.specs.Sessions.AskingEnd.AskerState) (far : ℕ → ExtenderState) (n : ℕ) → is_extender t n ≡ true → (s : ExtenderState) (xs : List Sent) → Each (SentFits (WasAnswered s.session)) xs → AreControl xs →
      Each (IsOwn t held (at n s far) n) xs
  all_own held askers far n there s [] fits control = tt
  all_own held askers far n there s (x ∷ xs) fits control =
      let R : ExtenderState → Type 0 = λ y. SentFits (WasAnswered y.session) x in
      let mine : SentFits (StoredAt (at n s far) n) x = subst R (sym (at_here n s far)) fits.0 in (
        record {
          side = mine.side;
          bare = mine.bare;
          control = control.0;
          fits = (own_fits t l tree setting round held (AskedOf askers) (StoredAt (at n s far)) n x there mine).rises mine.side;
        },
        all_own held askers far n there s xs fits.1 control.1,
      )

  -- at a beat
  pub beats_fit : (s : ExtenderState) → ((x : Sending) → s.ecp.sending ≡ Some x → Rattle.exb_world_spec.specs.Runs.Sessions.Reads x.payload (WasAnswered s.session)) → Each (SentFits (WasAnswered s.session)) (react Beats s).1
  unfolding beats
  beats_fit s reads =
      each_append (SentFits (WasAnswered s.session)) (announces (next_count s.beats) s) (sends_again (beat_of s.ecp.sending) s.number s.ecp.sending)
      (announced_fits t l tree setting round (WasAnswered s.session) (next_count s.beats) s) (again_fits t l tree setting round (WasAnswered s.session) s.number (beat_of s.ecp.sending) s.ecp.sending reads)

  pub beats_stay : (s : ExtenderState) → (react Beats s).0.session ≡ s.session
  unfolding beats
  beats_stay s = refl
