-- Parts of a step at any values: what an extender sends, what the bridge sends and relays. What holds of putting words, leaving, and the ends holds of them.
use Rattle.std.proofs.Common.{◌≡◌, refl, ◌∙◌, ℕ, ◌-◌, ◌+◌, nat_lt, Bool, true, false, cond, List, [], ◌∷◌, Option, Some, None, inl, inr}
use Rattle.std.proofs.lemmas.Bool.{cases_Bool}
use Rattle.exb_model.specs.Tree.{Shape, on, trunk, is_extender}
use Rattle.exb_model.specs.declared.arrival.Arrival.{Arrival}
use Rattle.exb_model.specs.Frames.{egress}
use Rattle.exb_model.specs.ETags.{tagged}
use Rattle.exb_frame.specs.TagValues.{tag_of}
use Rattle.exb_frame.specs.declared.etag.ETag.{ETag}
use Rattle.exb_csp.specs.Encoding.{message_bytes}
use Rattle.exb_csp.specs.AllTables.{port_of}
use Rattle.exb_ecp.specs.declared.stop_and_wait.Beat.{Beat as Due}
use Rattle.exb_ecp.specs.declared.stop_and_wait.Beat.TheVariants as due
use Rattle.exb_ecp.specs.StopAndWait.{State as Ecp, Sending, submitted, stopped, beaten, beat_of}
use Rattle.exb_extender.specs.declared.sends.Side.{Side}
use Rattle.exb_extender.specs.declared.sends.Side.TheVariants as side
use Rattle.exb_extender.specs.Forwarding.{Sent, channel_tag}
use Rattle.exb_extender.specs.Machine.{ExtenderState, Reaction, Input, react}
use Rattle.exb_link.specs.declared.link_frame.Stamp.{Stamp}
use Rattle.exb_link.specs.declared.link_frame.LinkFrame.{LinkFrame}
use Rattle.exb_relay.specs.declared.send.SendTo.{SendTo}
use Rattle.exb_control_spec.specs.declared.extender_message.Asked.{Asked}
use Rattle.exb_world_spec.specs.Worlds.{World, Way, Up, Down, Left, Line, Out, BridgeOut, push_up, push_down, with_near, with_far, control_word, moment_of}
use Rattle.exb_world_spec.specs.Effects.{Effect, only, sending, leaving, joined, each}
use Rattle.exb_world_spec.specs.ExtenderSteps.{hung_on, sent_at, sent_to, sends, does, reacts, stamp_of}
use Rattle.exb_world_spec.specs.BridgeLearning.{channel_at_trunk}
use Rattle.exb_world_spec.specs.ControlFrames.{bridge_request, puts_tagged, to_extender, asks, sends_again, beats_near}
use Rattle.exb_world_spec.specs.DataFrames.{puts_word, sent_by, sends_in, sends_all}
use Rattle.exb_world_spec.specs.Steps.{if_there}

-- a word is put behind all others of its direction
abbrev pub pushed : ℕ → Way → LinkFrame → World → World
pushed n Up x w = push_up n x w
pushed n Down x w = push_down n x w

pub record Parts (R : World → Effect → Type 0) : Type 0 where
  pub nothing : (v : World) → R v (only v)
  pub joins : (v : World) (e f : Effect) → R v e → R e.world f → R v (joined e f)
  pub near : (n : ℕ) (e : Ecp) (v : World) → R v (only (with_near n e v))
  pub far : (n : ℕ) (s : ExtenderState) (v : World) → R v (only (with_far n s v))
  pub send : (line : Line) (n : ℕ) (way : Way) (x : LinkFrame) (v : World) → R v (sending line (pushed n way x v))
  pub leave : (line : Line) (x : Left) (v : World) → R v (leaving line x v)

module _ (R : World → Effect → Type 0) (k : Parts R) (t : Shape) where
  pub each_part : {A : Type 0} (f : A → World → Effect) → ((x : A) (v : World) → R v (f x v)) → (xs : List A) (v : World) → R v (each f xs v)
  each_part f one [] v = k.nothing v
  each_part f one (x ∷ xs) v = k.joins v (f x v) (each f xs (f x v).world) (one x v) (each_part f one xs (f x v).world)

  sends_part : (n : ℕ) (stamp : Option Stamp) (x : Sent) (v : World) → R v (sends t n stamp x v)
  sends_part n stamp x v = by_side x.side
    where
      by_port : (q : ℕ) (o : Option ℕ) → R v (sent_at n q o stamp x.bytes v)
      by_port q (Some m) = k.send (Out n (side.Port q) x.bytes) m Down (record { bytes = x.bytes; stamp = stamp }) v
      by_port q None = k.leave (Out n (side.Port q) x.bytes) (record { port = port_of n q; moment = moment_of stamp; bytes = x.bytes }) v

      by_side : (s : Side) → R v (sent_to t n stamp s x.bytes v)
      by_side side.Up = k.send (Out n side.Up x.bytes) n Up (record { bytes = x.bytes; stamp = stamp }) v
      by_side (side.Port q) = by_port q (hung_on t (port_of n q))

  pub does_part : (n : ℕ) (stamp : Option Stamp) (r : Reaction) (v : World) → R v (does t n stamp r v)
  does_part n stamp r v = k.joins v (only (with_far n r.0 v)) (each (sends t n stamp) r.1 (with_far n r.0 v)) (k.far n r.0 v) (each_part (sends t n stamp) (sends_part n stamp) r.1 (with_far n r.0 v))

  pub to_part : (n : ℕ) (f : List ℕ) (v : World) → R v (to_extender t n f v)
  to_part n f v =
      elim (cases_Bool (nat_lt (on t n) 64)) [
        | inl e ↦ rw e (k.send (BridgeOut (on t n + 1) f) n Down (control_word f) v)
        | inr e ↦ rw e (by_options (hung_on t (trunk t n)) (channel_at_trunk t v.control.held (on t n)))
      ]
    where
      by_options : (o c : Option ℕ) → R v (puts_tagged (trunk t n) o c f v)
      by_options (Some m) (Some channel) = k.send (BridgeOut (trunk t n + 1) (tagged f (channel_tag channel))) m Down (control_word (tagged f (channel_tag channel))) v
      by_options (Some m) None = k.nothing v
      by_options None c = k.nothing v

  pub asks_part : (a : Asked) (v : World) → R v (asks t a v)
  asks_part a v =
      let u : World = with_near a.extender (submitted (message_bytes a.message) (stopped (v.near a.extender))) v in
      let f : List ℕ = bridge_request (v.near a.extender).next (message_bytes a.message) in
      k.joins v (only u) (to_extender t a.extender f u) (k.near a.extender (submitted (message_bytes a.message) (stopped (v.near a.extender))) v) (to_part a.extender f u)

  pub near_part : (n : ℕ) (v : World) → R v (beats_near t n v)
  near_part n v =
      let u : World = with_near n (beaten (v.near n)) v in
      k.joins v (only u) (sends_again t n (beat_of (v.near n).sending) (v.near n).sending u) (k.near n (beaten (v.near n)) v) (by_due u (beat_of (v.near n).sending) (v.near n).sending)
    where
      by_due : (u : World) (d : Due) (o : Option Sending) → R u (sends_again t n d o u)
      by_due u due.SendAgain (Some x) = to_part n (bridge_request x.sequence x.payload) u
      by_due u due.SendAgain None = k.nothing u
      by_due u due.Nothing o = k.nothing u
      by_due u due.GaveUp o = k.nothing u

  pub there_part : (f : ℕ → World → Effect) → ((n : ℕ) (v : World) → R v (f n v)) → (n : ℕ) (v : World) → R v (if_there t f n v)
  there_part f one n v = elim (cases_Bool (is_extender t n)) [ inl e ↦ rw e (one n v) | inr e ↦ rw e (k.nothing v) ]

  in_part : (a : Arrival) (vid : ℕ) (x : SendTo) (v : World) → R v (sends_in t a vid x v)
  in_part a vid x v = by_tag x.tag
    where
      by_hung : (o : Option ℕ) (y : LinkFrame) → R v (puts_word x.bridge_port o y v)
      by_hung None y = k.nothing v
      by_hung (Some m) y = k.send (BridgeOut x.bridge_port y.bytes) m Down y v

      by_tag : (o : Option ETag) → R v (sent_by t a (egress a.bytes x.kind vid) x.bridge_port o v)
      by_tag None = k.leave (BridgeOut x.bridge_port (egress a.bytes x.kind vid)) (record { port = x.bridge_port - 1; moment = a.moment; bytes = egress a.bytes x.kind vid }) v
      by_tag (Some tag) = by_hung (hung_on t (x.bridge_port - 1)) (record { bytes = tagged (egress a.bytes x.kind vid) (tag_of tag); stamp = Some (stamp_of a) })

  pub all_part : (a : Arrival) (xs : List SendTo) (o : Option ℕ) (v : World) → R v (sends_all t a xs o v)
  all_part a xs None v = k.nothing v
  all_part a xs (Some vid) v = each_part (sends_in t a vid) (in_part a vid) xs v

-- none of them touches the control
sent_control : (line : Line) (n : ℕ) (way : Way) (x : LinkFrame) (v : World) → (pushed n way x v).control ≡ v.control
sent_control line n Up x v = refl
sent_control line n Down x v = refl

pub same_control : Parts (λ v e. e.world.control ≡ v.control)
same_control = record { nothing = λ v. refl; joins = λ v e f x y. y ∙ x; near = λ n e v. refl; far = λ n s v. refl; send = sent_control; leave = λ line x v. refl }
