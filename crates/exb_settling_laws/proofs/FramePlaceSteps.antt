-- Whoever takes a word in a sound world, and a beat, keep that control words stand on the way of their extenders and read as they should.
use Rattle.std.proofs.Common.{◌≡◌, inl, inr, ℕ, ◌≤◌, Bool, true, false, cond, List, Option, refl, sym, ◌∙◌, subst}
use Rattle.std.proofs.lemmas.Bool.{cases_lt, lt-ltb, le-ltb}
use Rattle.exb_model.specs.Setup.{Limits}
use Rattle.exb_model.specs.Tree.{Shape, IsTree, device, on, is_extender, port_number}
use Rattle.exb_frame.specs.TagValues.{TagRoundTrip}
use Rattle.exb_model.specs.Frames.{IsBytes}
use Rattle.exb_extender.specs.declared.sends.Side.TheVariants as side
use Rattle.exb_extender.specs.Forwarding.{Sent, emitted, is_bare_control}
use Rattle.exb_extender.specs.Machine.{ExtenderState, Arrives, react, hears}
use Rattle.exb_link.specs.declared.link_frame.Stamp.{Stamp}
use Rattle.exb_link.specs.declared.link_frame.LinkFrame.{LinkFrame}
use Rattle.exb_control_spec.specs.Plans.HeldNumbers.{Held}
use Rattle.exb_control_spec.specs.InitialState.{first_held}
use Rattle.exb_control_spec.specs.Runs.PlannedChanges.{IsSetting}
use Rattle.exb_world_spec.specs.Worlds.{World, Up, Down}
use Rattle.exb_world_spec.specs.Effects.{only}
use Rattle.exb_world_spec.specs.ExtenderSteps.{reacts}
use Rattle.exb_world_spec.specs.Steps.{takes}
use Rattle.exb_world_spec.specs.Runs.Sessions.{Each}
use Rattle.exb_world_spec.specs.Runs.Simulation.{system_of, IsSound}
use Rattle.exb_world_spec.proofs.CascadeChannels.{forget}
use Rattle.exb_world_spec.proofs.ExtenderSteps.{routes}
use Rattle.exb_world_spec.proofs.Routing.{under_laid}
use Rattle.exb_world_spec.proofs.Trunks.{above_there}
use Rattle.exb_world_spec.proofs.LinkFrames.{each_append, each_weaker}
use Rattle.exb_settling_laws.specs.FramePlaces.{WordPlaced, ReadsDown, ReadsUp, ArePlaced}
use Rattle.exb_settling_laws.proofs.FarRemainingFacts.{MayHear}
use Rattle.exb_settling_laws.proofs.LinkGrowth.{Longer, Grows, MaySend, none_grows, does_grows}
use Rattle.exb_settling_laws.proofs.ForwardedFramePlaces.{HasOnes, placed_from_above, placed_from_below}
use Rattle.exb_settling_laws.proofs.BridgeFramePlaces.{Puts, HearsWell, bridge_takes_puts}
use Rattle.exb_settling_laws.proofs.OwnFrames.{Says, hears_says}
use Rattle.exb_settling_laws.proofs.SendableRequests.{to_first, from_first}

up_port : (q : ℕ) → side.Up ≡ side.Port q → ⊥
up_port q z = cc

-- what is added to links on which all words are placed is placed
pub grown : (t : Shape) (l : Limits) (h : Held) (w v : World) → ArePlaced t h w.down w.up → Grows t l (λ m x. WordPlaced t h ReadsDown m x) (λ m x. WordPlaced t h (ReadsUp t) m x) w v → ArePlaced t h v.down v.up
grown t l h w v k g =
    record {
      downs = λ m. longer (WordPlaced t h ReadsDown m) (w.down m) (v.down m) (k.downs m) (g.downs m);
      ups = λ m. longer (WordPlaced t h (ReadsUp t) m) (w.up m) (v.up m) (k.ups m) (g.ups m);
    }
  where
    longer : (P : LinkFrame → Type 0) (xs ys : List LinkFrame) → Each P xs → Longer P xs ys → Each P ys
    longer P xs ys all more = subst (Each P) (sym more.is) (each_append P xs more.more all more.each_is)

module _ (t : Shape) (l : Limits) (tree : IsTree t) (setting : IsSetting t l) (round : TagRoundTrip) (w : World) (sound : IsSound t l w) where
  ones : HasOnes t w.control.held
  ones = (under_laid t (system_of w) (forget t l (system_of w) sound.stands)).ones

  -- an extender's own word stands on its own link
  pub own_rises : (n : ℕ) → is_extender t n ≡ true → (stamp : Option Stamp) (x : Sent) → Says t n x → MaySend t l (λ m y. WordPlaced t (first_held t l) ReadsDown m y) (λ m y. WordPlaced t (first_held t l) (ReadsUp t) m y) n stamp x
  own_rises n there stamp x k =
      record {
        rises = λ e control. record { of = n; frame = x.bytes; there = there; bare = k.bare; below = inl refl; way = inl (refl, refl); reads = k.reads };
        sinks = λ q m e hangs. absurd (up_port q (sym k.side_is ∙ e));
      }

  -- ---- a word comes from above
  pub above_puts : (n : ℕ) (x : LinkFrame) (v : World) → v.far ≡ w.far → is_extender t n ≡ true → WordPlaced t (first_held t l) ReadsDown n x → (is_bare_control x.bytes ≡ true → MayHear (w.far n) x.bytes) →
      Puts t l tree (first_held t l) v (takes t l n Down x v).world
  above_puts n x v same there placed may =
      does_grows t l (λ m y. WordPlaced t (first_held t l) ReadsDown m y) (λ m y. WordPlaced t (first_held t l) (ReadsUp t) m y) n x.stamp (react (Arrives side.Up x.bytes) (v.far n)) v
      (let P : (ℕ → ExtenderState) → Type 0 = λ f. Each (MaySend t l (λ m y. WordPlaced t (first_held t l) ReadsDown m y) (λ m y. WordPlaced t (first_held t l) (ReadsUp t) m y) n x.stamp) (react (Arrives side.Up x.bytes) (f n)).1 in
      subst P (sym same) (by_bare (is_bare_control x.bytes) refl))
    where
      by_bare : (b : Bool) → is_bare_control x.bytes ≡ b →
          Each (MaySend t l (λ m y. WordPlaced t (first_held t l) ReadsDown m y) (λ m y. WordPlaced t (first_held t l) (ReadsUp t) m y) n x.stamp) (cond b (hears x.bytes (w.far n)) (w.far n, emitted (w.far n).tables side.Up x.bytes)).1
      by_bare true e = each_weaker (Says t n) _ (hears x.bytes (w.far n)).1 (λ s k. own_rises n there x.stamp s k) (hears_says t n (w.far n) x.bytes (may e))
      by_bare false e =
          placed_from_above t l tree (first_held t l) w.control.held (to_first t l tree (system_of w) sound.stands) (from_first t l (system_of w) sound.stands) round ReadsDown (ReadsUp t) w.far (routes t l tree setting round w sound n there) ones
          n there (sound.fits.ends.extenders n there) x.bytes x.stamp placed e

  -- ---- a word comes from below
  pub below_puts : (n : ℕ) (x : LinkFrame) (v : World) → v.far ≡ w.far → v.control ≡ w.control → is_extender t n ≡ true → IsBytes x.bytes → WordPlaced t (first_held t l) (ReadsUp t) n x → HearsWell t l tree (first_held t l) w.control →
      Puts t l tree (first_held t l) v (takes t l n Up x v).world
  below_puts n x v same control there bytes placed well =
      elim (cases_lt (on t n) 64) [
        | inl low ↦ rw (lt-ltb (on t n) 64 low) (bridge_takes_puts t l tree (first_held t l) (on t n) n x v there bytes (subst (HearsWell t l tree (first_held t l)) (sym control) well))
        | inr deep ↦ rw (le-ltb (on t n) 64 deep) (by_cascade deep ((v.far (device (on t n))).tables.cascade (port_number (on t n))) refl)
      ]
    where
      by_cascade : 64 ≤ on t n → (b : Bool) → (v.far (device (on t n))).tables.cascade (port_number (on t n)) ≡ b →
          Puts t l tree (first_held t l) v (cond b (reacts t (device (on t n)) x.stamp (Arrives (side.Port (port_number (on t n))) x.bytes) v) (only v)).world
      by_cascade deep false e = none_grows t l (λ m y. WordPlaced t (first_held t l) ReadsDown m y) (λ m y. WordPlaced t (first_held t l) (ReadsUp t) m y) v
      by_cascade deep true e =
          let above : is_extender t (device (on t n)) ≡ true = above_there t tree n there deep in
          let cascade : (w.far (device (on t n))).tables.cascade (port_number (on t n)) ≡ true = (let P : (ℕ → ExtenderState) → Type 0 = λ f. (f (device (on t n))).tables.cascade (port_number (on t n)) ≡ true in subst P same e) in
          does_grows t l (λ m y. WordPlaced t (first_held t l) ReadsDown m y) (λ m y. WordPlaced t (first_held t l) (ReadsUp t) m y) (device (on t n)) x.stamp (react (Arrives (side.Port (port_number (on t n))) x.bytes) (v.far (device (on t n)))) v
          (let P : (ℕ → ExtenderState) → Type 0 = λ f. Each (MaySend t l (λ m y. WordPlaced t (first_held t l) ReadsDown m y) (λ m y. WordPlaced t (first_held t l) (ReadsUp t) m y) (device (on t n)) x.stamp) (react (Arrives (side.Port (port_number (on t n))) x.bytes) (f (device (on t n)))).1 in
          subst P (sym same)
          (placed_from_below t l tree (first_held t l) w.control.held (to_first t l tree (system_of w) sound.stands) (from_first t l (system_of w) sound.stands) round ReadsDown (ReadsUp t) w.far (routes t l tree setting round w sound (device (on t n)) above) ones
          n there deep x.bytes x.stamp placed (sound.fits.ends.extenders (device (on t n)) above) cascade))
