-- What a word that an extender takes from above adds to the words on the way up: control frames of its own alone.
use Rattle.std.proofs.Common.{◌≡◌, ℕ, Bool, true, false, cond, List, Option, sym, ◌∙◌, subst}
use Rattle.exb_model.specs.Tree.{Shape, IsTree}
use Rattle.exb_model.specs.Setup.{Limits}
use Rattle.exb_extender.specs.declared.sends.Side.TheVariants as side
use Rattle.exb_extender.specs.Forwarding.{Sent, emitted, is_bare_control}
use Rattle.exb_extender.specs.Machine.{Arrives, react, hears}
use Rattle.exb_link.specs.declared.link_frame.Stamp.{Stamp}
use Rattle.exb_link.specs.declared.link_frame.LinkFrame.{LinkFrame}
use Rattle.exb_control_spec.specs.Plans.HeldNumbers.{Held}
use Rattle.exb_control_spec.specs.Machine.{State}
use Rattle.exb_world_spec.specs.Worlds.{World, Down, with_down}
use Rattle.exb_world_spec.specs.Runs.Sessions.{Each}
use Rattle.exb_world_spec.specs.Steps.{takes}
use Rattle.exb_world_spec.proofs.LinkFrames.{each_append, each_weaker}
use Rattle.exb_settling_laws.specs.Streams.{is_of}
use Rattle.exb_settling_laws.proofs.ControlFrameDecoding.{bare_addressed, is_mine}
use Rattle.exb_settling_laws.proofs.EmptiedLinks.{IsAtPort, from_above}
use Rattle.exb_settling_laws.proofs.FarControlFrames.{OwnSent, hears_own}
use Rattle.exb_settling_laws.proofs.LinkGrowth.{Longer, Grows, MaySend, Any, does_grows}
use Rattle.exb_settling_laws.proofs.SessionRounds.{Own}
use Rattle.exb_settling_laws.proofs.ControlTurns.{reacts_ends}

module _ (t : Shape) (l : Limits) (tree : IsTree t) (h : Held) where
  -- a word on the link of an extender that is its own
  abbrev pub OwnWord : ℕ → LinkFrame → Type 0
  OwnWord m y = is_of t h m m y ≡ true

  pub sent_own : (n : ℕ) (stamp : Option Stamp) (s : Sent) → OwnSent s → OwnWord n (record { bytes = s.bytes; stamp = stamp })
  sent_own n stamp s o = is_mine t tree h n n (record { bytes = s.bytes; stamp = stamp }) o.control (bare_addressed t tree h n s.bytes o.untyped)

  up_port : (q : ℕ) → side.Up ≡ side.Port q → ⊥
  up_port q z = cc

  port_up : (q : ℕ) → side.Port q ≡ side.Up → ⊥
  port_up q z = cc

  -- of a word that it takes
  pub takes_own : (n : ℕ) (x : LinkFrame) (w : World) → Grows t l Any OwnWord w (takes t l n Down x w).world
  takes_own n x w = does_grows t l Any OwnWord n x.stamp (react (Arrives side.Up x.bytes) (w.far n)) w (by_kind (is_bare_control x.bytes))
    where
      by_kind : (b : Bool) → Each (MaySend t l Any OwnWord n x.stamp) (cond b (hears x.bytes (w.far n)) (w.far n, emitted (w.far n).tables side.Up x.bytes)).1
      by_kind true = each_weaker OwnSent (MaySend t l Any OwnWord n x.stamp) (hears x.bytes (w.far n)).1 (λ s o. record { rises = λ z. sent_own n x.stamp s o; sinks = λ q m z hangs. tt }) (hears_own x.bytes (w.far n))
      by_kind false =
          each_weaker (IsAtPort (w.far n).tables.ports) (MaySend t l Any OwnWord n x.stamp) (emitted (w.far n).tables side.Up x.bytes)
          (λ s p. record { rises = λ z. absurd (port_up p.port (sym p.at ∙ z)); sinks = λ q m z hangs. tt }) (from_above (w.far n).tables x.bytes)

-- The words on the way up stay each extender's own.
pub own_law : (t : Shape) (l : Limits) (tree : IsTree t) (w : World) (n : ℕ) (x : LinkFrame) (rest : List LinkFrame) → Own t w → Own t (takes t l n Down x (with_down n rest w)).world
own_law t l tree w n x rest own m there =
    let g : Grows t l Any (OwnWord t l tree w.control.held) (with_down n rest w) (takes t l n Down x (with_down n rest w)).world = takes_own t l tree w.control.held n x (with_down n rest w) in
    let more : Longer (OwnWord t l tree w.control.held m) (w.up m) ((takes t l n Down x (with_down n rest w)).world.up m) = g.ups m in
    let control : (takes t l n Down x (with_down n rest w)).world.control ≡ w.control = (reacts_ends t n x.stamp (Arrives side.Up x.bytes) (with_down n rest w)).control in
    let all : Each (OwnWord t l tree w.control.held m) ((takes t l n Down x (with_down n rest w)).world.up m) =
    (let P : List LinkFrame → Type 0 = Each (OwnWord t l tree w.control.held m) in subst P (sym more.is) (each_append (OwnWord t l tree w.control.held m) (w.up m) more.more (own m there) more.each_is)) in
    let Q : State → Type 0 = λ s. Each (λ (y : LinkFrame). is_of t s.held m m y ≡ true) ((takes t l n Down x (with_down n rest w)).world.up m) in
    subst Q (sym control) all
