-- What the bridge sends to extenders is flown.
use Rattle.std.proofs.Common.{◌≡◌, ℕ, ◌+◌, ◌<◌, ◌≤◌, Bool, true, false, List, [], ◌∷◌, length, take, Option, Some, None, refl, sym, ◌∙◌, ap, subst, arith, inl, inr}
use lib.Pointwise.{pointwise}
use Rattle.std.specs.Prelude.{nat_eq}
use Rattle.std.proofs.lemmas.Bool.{cases_lt, lt-ltb, le-ltb}
use Rattle.exb_model.specs.Tree.{Shape, IsTree, on, trunk, is_extender}
use Rattle.exb_model.specs.ETags.{Tag, tagged}
use Rattle.exb_model.specs.Setup.{Limits}
use Rattle.exb_model.specs.History.{Basis, History}
use Rattle.exb_model.proofs.TreeTrunks.{trunk-low}
use Rattle.exb_frame.specs.TagValues.{TagRoundTrip}
use Rattle.exb_csp.specs.Encoding.{message_bytes}
use Rattle.exb_ecp.specs.Frames.{spelling}
use Rattle.exb_ecp.specs.StopAndWait.{submitted, stopped}
use Rattle.exb_extender.specs.Forwarding.{is_bare_control, channel_tag}
use Rattle.exb_extender.specs.Machine.{control_pdu}
use Rattle.exb_model.specs.Frames.{control_address, is_control_frame}
use Rattle.exb_control_spec.specs.declared.extender_message.Asked.{Asked}
use Rattle.exb_control_spec.specs.Machine.{State}
use Rattle.exb_control_spec.specs.Runs.RequestTargets.{AreAddressed}
use Rattle.exb_world_spec.specs.Worlds.{World, BridgeOut, Left, with_near, control_word}
use Rattle.exb_world_spec.specs.Effects.{each}
use Rattle.exb_world_spec.specs.BridgeLearning.{channel_at_trunk}
use Rattle.exb_world_spec.specs.ExtenderSteps.{hung_on}
use Rattle.exb_world_spec.specs.ControlFrames.{bridge_address, bridge_request, puts_tagged, to_extender, asks}
use Rattle.exb_world_spec.specs.Runs.Sessions.{Hands, Each, FitsOn, AskedOf, StoredAt, AreSent}
use Rattle.exb_world_spec.proofs.Frames.{bare_is, bare_spelled, hands_request, reads_written}
use Rattle.exb_world_spec.proofs.Trunks.{above_there, hung_is}
use Rattle.exb_world_spec.proofs.Links.{own_word, tagged_word, at_trunk}
use Rattle.exb_world_spec.proofs.ControlFrames.{to_extender_control}
use Rattle.exb_flight.specs.Flight.{Flight}
use Rattle.exb_flight.specs.SimulationRelation.{Shows}
use Rattle.exb_flight.proofs.PushedTokens.{Pushed, pushed_then, pushed_none, pushed_down}

-- ---- control frames have their address
first_six : (f : List ℕ) (tag : Tag) → 12 ≤ length f → take 6 (tagged f tag) ≡ take 6 f
first_six [] tag long = absurd (omega (arith, long))
first_six (a ∷ []) tag long = absurd (omega (arith, long))
first_six (a ∷ b ∷ []) tag long = absurd (omega (arith, long))
first_six (a ∷ b ∷ c ∷ []) tag long = absurd (omega (arith, long))
first_six (a ∷ b ∷ c ∷ d ∷ []) tag long = absurd (omega (arith, long))
first_six (a ∷ b ∷ c ∷ d ∷ e ∷ []) tag long = absurd (omega (arith, long))
first_six (a ∷ b ∷ c ∷ d ∷ e ∷ g ∷ more) tag long = refl

pub control_tagged : (f : List ℕ) (tag : Tag) → 12 ≤ length f → is_control_frame f ≡ true → is_control_frame (tagged f tag) ≡ true
unfolding is_control_frame
control_tagged f tag long e = ap (pointwise nat_eq control_address) (first_six f tag long) ∙ e

pub control_untagged : (f : List ℕ) (tag : Tag) → 12 ≤ length f → is_control_frame (tagged f tag) ≡ true → is_control_frame f ≡ true
unfolding is_control_frame
control_untagged f tag long e = sym (ap (pointwise nat_eq control_address) (first_six f tag long)) ∙ e

pub control_spelled : (a b c d e f : ℕ) (ack : Bool) (sequence : ℕ) (payload : List ℕ) → is_control_frame (spelling (record { 0 = a ∷ b ∷ c ∷ d ∷ e ∷ f ∷ [] }) (control_pdu ack sequence) payload) ≡ true
unfolding is_control_frame
control_spelled a b c d e f ack sequence payload = refl

module _ (t : Shape) (l : Limits) (i : Basis) (tree : IsTree t) (round : TagRoundTrip) where
  -- another end of the transport doesn't show
  pub shows_near : (w : World) (h : History) (gone : List Left) (f : Flight) (n : ℕ) (e : Rattle.exb_ecp.specs.StopAndWait.State) → Shows t i w h gone f → Shows t i (with_near n e w) h gone f
  shows_near w h gone f n e s = record { system = s.system; down = s.down; up = s.up; history = s.history; left = s.left; learned = s.learned }

  -- ---- a control frame to extender n
  pub to_extender_pushed : (w : World) (h : History) (gone : List Left) (f : Flight) → Shows t i w h gone f → (n : ℕ) (g : List ℕ) → is_extender t n ≡ true → is_bare_control g ≡ true → is_control_frame g ≡ true →
      Hands g (AskedOf w.control.askers n) → Pushed t l i h gone f (to_extender t n g w)
  to_extender_pushed w h gone f s n g there bare control hands =
      elim (cases_lt (on t n) 64) [
        | inl low ↦ rw (lt-ltb (on t n) 64 low)
            (pushed_down t l i tree round w h gone f s (BridgeOut (on t n + 1) g) n (control_word g) control (own_word t w.control.held (AskedOf w.control.askers) (StoredAt w.far) n g there bare hands) (λ j e. inl low))
        | inr deep ↦ rw (le-ltb (on t n) 64 deep)
            (by_options (hung_on t (trunk t n)) (channel_at_trunk t w.control.held (on t n))
            (λ m channel e c.
            let hung = hung_is t (trunk t n) m e in
            let low = trunk-low t tree n there in (
              tagged_word t w.control.held (AskedOf w.control.askers) (StoredAt w.far) tree n m channel g there bare hands deep hung low
                  (at_trunk t w.control.held (AskedOf w.control.askers) (StoredAt w.far) n channel (above_there t tree n there deep) c),
              omega (arith, hung.at, low),
            )))
      ]
    where
      by_options : (o c : Option ℕ) → ((m channel : ℕ) → o ≡ Some m → c ≡ Some channel → FitsOn t w.control.held (AskedOf w.control.askers) m (tagged g (channel_tag channel)) × (on t m < 64)) → Pushed t l i h gone f (puts_tagged (trunk t n) o c g w)
      by_options (Some m) (Some channel) fits =
          let b = bare_is g bare in
          let k = fits m channel refl refl in
          pushed_down t l i tree round w h gone f s (BridgeOut (trunk t n + 1) (tagged g (channel_tag channel))) m (control_word (tagged g (channel_tag channel))) (control_tagged g (channel_tag channel) (omega (arith, b.long)) control) k.0 (λ j e. inl k.1)
      by_options (Some m) None fits = pushed_none t l i w h gone f s
      by_options None c fits = pushed_none t l i w h gone f s

  -- ---- requests that go out
  pub asks_pushed : (s : State) (xs : List Asked) (v : World) (h : History) (gone : List Left) (f : Flight) → Shows t i v h gone f → v.control ≡ s → AreAddressed t xs → AreSent xs →
      Each (λ (x : Asked). AskedOf s.askers x.extender x.message.serial x.message.body) xs → Pushed t l i h gone f (each (asks t) xs v)
  asks_pushed s [] v h gone f shows control addressed sent was = pushed_none t l i v h gone f shows
  asks_pushed s (x ∷ xs) v h gone f shows control addressed sent was =
      let n : ℕ = x.extender in
      let payload : List ℕ = message_bytes x.message in
      let u : World = with_near n (submitted payload (stopped (v.near n))) v in
      let g : List ℕ = bridge_request (v.near n).next payload in
      let hands : Hands g (AskedOf s.askers n) = hands_request (AskedOf s.askers n) bridge_address (v.near n).next payload refl (reads_written (AskedOf s.askers n) x.message sent.0.spelled sent.0.fits was.0) in
      let first : Pushed t l i h gone f (to_extender t n g u) =
      to_extender_pushed u h gone f (shows_near v h gone f n (submitted payload (stopped (v.near n))) shows) n g addressed.0 (bare_spelled 2 69 66 0 0 0 false (v.near n).next payload) (control_spelled 2 69 66 0 0 0 false (v.near n).next payload)
      (subst (λ (z : State). Hands g (AskedOf z.askers n)) (sym control) hands) in
      pushed_then t l i h gone f (to_extender t n g u) (each (asks t) xs) first
      (asks_pushed s xs (to_extender t n g u).world _ _ _ first.flown.shows (to_extender_control t n g u ∙ control) addressed.1 sent.1 was.1)
