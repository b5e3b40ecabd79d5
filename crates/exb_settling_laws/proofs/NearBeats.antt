-- All of the bridge's ends beat, by extender: each session's near end ages once what it sends. The control, the extenders and
-- what stands on the way up stay.
use Rattle.std.proofs.Common.{◌≡◌, ◌≢◌, ◌⊎◌, inl, inr, ℕ, zero, suc, ◌+◌, ◌≤◌, ◌<◌, nat_lt, Bool, true, false, cond, List, Option, Some, None, refl, ap, sym, ◌∙◌, subst, arith}
use Rattle.std.specs.List.{range_with_len}
use Rattle.std.proofs.lemmas.Bool.{cases_Bool, cases_eq}
use Rattle.exb_model.specs.Tree.{Shape, IsTree, on, trunk, is_extender}
use Rattle.exb_model.specs.Setup.{Limits}
use Rattle.exb_frame.specs.TagValues.{TagRoundTrip}
use Rattle.exb_ecp.specs.declared.stop_and_wait.Beat.{Beat as Due}
use Rattle.exb_ecp.specs.declared.stop_and_wait.Beat.TheVariants as due
use Rattle.exb_ecp.specs.StopAndWait.{Sending as Sends, State as Ecp, beaten, beat_of}
use Rattle.exb_extender.specs.Machine.{ExtenderState}
use Rattle.exb_link.specs.declared.link_frame.LinkFrame.{LinkFrame}
use Rattle.exb_control_spec.specs.Plans.HeldNumbers.{Held}
use Rattle.exb_csp.specs.Sessions.AskingEnd.{AskerState}
use Rattle.exb_control_spec.specs.Machine.{State}
use Rattle.exb_world_spec.specs.Worlds.{World, with_near}
use Rattle.exb_model.specs.Tables.{at}
use Rattle.exb_world_spec.specs.Effects.{only, each}
use Rattle.exb_world_spec.specs.BridgeLearning.{channel_at_trunk}
use Rattle.exb_world_spec.specs.ExtenderSteps.{hung_on}
use Rattle.exb_world_spec.specs.ControlFrames.{puts_tagged, to_extender, bridge_request, sends_again, beats_near}
use Rattle.exb_world_spec.specs.Steps.{if_there}
use Rattle.exb_world_spec.proofs.LinkFrames.{at_other}
use Rattle.exb_settling_laws.specs.StopAndWait.{Request as Asks}
use Rattle.exb_settling_laws.specs.SessionPair.{near_rests}
use Rattle.exb_settling_laws.specs.Streams.{near_at, far_at, ups_of}
use Rattle.exb_settling_laws.specs.SettlingFacts.{IsLatest, IsReached, IsDeep}
use Rattle.exb_settling_laws.proofs.FarControlFrames.{far_of}
use Rattle.exb_settling_laws.proofs.NearLoop.{own_rests, other_rests}
use Rattle.exb_settling_laws.proofs.ControlTurns.{to_extender_ends}

-- what the bridge sends leaves the control, the extenders and what comes up
pub record Stays (w v : World) : Type 0 where
  pub control : v.control ≡ w.control
  pub far : v.far ≡ w.far
  pub up : v.up ≡ w.up

pub same_stays : (w : World) → Stays w w
same_stays w = record { control = refl; far = refl; up = refl }

pub stays_then : (a b c : World) → Stays a b → Stays b c → Stays a c
stays_then a b c x y = record { control = y.control ∙ x.control; far = y.far ∙ x.far; up = y.up ∙ x.up }

module _ (t : Shape) where
  puts_tagged_stays : (k : ℕ) (o c : Option ℕ) (f : List ℕ) (w : World) → Stays w (puts_tagged k o c f w).world
  puts_tagged_stays k (Some m) (Some channel) f w = record { control = refl; far = refl; up = refl }
  puts_tagged_stays k (Some m) None f w = same_stays w
  puts_tagged_stays k None c f w = same_stays w

  pub to_extender_stays : (n : ℕ) (f : List ℕ) (w : World) → Stays w (to_extender t n f w).world
  to_extender_stays n f w =
      elim (cases_Bool (nat_lt (on t n) 64)) [
        | inl e ↦ rw e (record { control = refl; far = refl; up = refl })
        | inr e ↦ rw e (puts_tagged_stays (trunk t n) (hung_on t (trunk t n)) (channel_at_trunk t w.control.held (on t n)) f w)
      ]

  -- one end
  pub again_stays : (n : ℕ) (d : Due) (o : Option Sends) (w : World) → Stays w (sends_again t n d o w).world
  again_stays n due.SendAgain (Some x) w = to_extender_stays n (bridge_request x.sequence x.payload) w
  again_stays n due.SendAgain None w = same_stays w
  again_stays n due.Nothing o w = same_stays w
  again_stays n due.GaveUp o w = same_stays w

  pub near_beats_stays : (n : ℕ) (w : World) → Stays w (beats_near t n w).world
  near_beats_stays n w =
      stays_then w (with_near n (beaten (w.near n)) w) (beats_near t n w).world (record { control = refl; far = refl; up = refl })
      (again_stays n (beat_of (w.near n).sending) (w.near n).sending (with_near n (beaten (w.near n)) w))

  again_near : (n : ℕ) (d : Due) (o : Option Sends) (w : World) → (sends_again t n d o w).world.near ≡ w.near
  again_near n due.SendAgain (Some x) w = (to_extender_ends t n (bridge_request x.sequence x.payload) w).near
  again_near n due.SendAgain None w = refl
  again_near n due.Nothing o w = refl
  again_near n due.GaveUp o w = refl

  pub near_beats_near : (n : ℕ) (w : World) → (beats_near t n w).world.near ≡ at n (beaten (w.near n)) w.near
  near_beats_near n w = again_near n (beat_of (w.near n).sending) (w.near n).sending (with_near n (beaten (w.near n)) w)

  -- ---- all of them
  abbrev pub near_loop : ℕ → ℕ → World → World
  near_loop a k w = (each (if_there t (beats_near t)) (range_with_len a k) w).world

  abbrev pub near_turn : ℕ → World → World
  near_turn a w = (if_there t (beats_near t) a w).world

  pub turn_stays : (a : ℕ) (w : World) → Stays w (near_turn a w)
  turn_stays a w = by_there (is_extender t a)
    where
      by_there : (b : Bool) → Stays w (cond b (beats_near t a w) (only w)).world
      by_there true = near_beats_stays a w
      by_there false = same_stays w

  pub loop_stays : (a k : ℕ) (w : World) → Stays w (near_loop a k w)
  loop_stays a zero w = same_stays w
  loop_stays a (suc k) w = stays_then w (near_turn a w) (near_loop (a + 1) k (near_turn a w)) (turn_stays a w) (loop_stays (a + 1) k (near_turn a w))

  -- a reached extender stays so
  pub reached_kept : (n : ℕ) (w v : World) → v.control.held ≡ w.control.held → v.far ≡ w.far → IsReached t w n → IsReached t v n
  reached_kept n w v held far reached =
      let P : Held → Type 0 = λ h. (on t n < 64) ⊎ IsDeep t h w.far n in
      let Q : (ℕ → ExtenderState) → Type 0 = λ f. (on t n < 64) ⊎ IsDeep t v.control.held f n in
      subst Q (sym far) (subst P (sym held) reached)

  pub far_kept : (j : ℕ) (w v : World) → v.control.held ≡ w.control.held → v.far ≡ w.far → v.up ≡ w.up → far_at t v j ≡ far_at t w j
  far_kept j w v held far up =
      ap (λ (h : Held). far_of (v.far j) (ups_of t h v.up j 64 j)) held ∙ ap (λ (f : ℕ → ExtenderState). far_of (f j) (ups_of t w.control.held v.up j 64 j)) far
      ∙ ap (λ (u : ℕ → List LinkFrame). far_of (w.far j) (ups_of t w.control.held u j 64 j)) up

module _ (t : Shape) (l : Limits) (tree : IsTree t) (round : TagRoundTrip) (j : ℕ) (j_there : is_extender t j ≡ true) where
  abbrev pub LatestOf : Ecp → AskerState → Type 0
  LatestOf e a = (x : Sends) → e.sending ≡ Some x → IsLatest Asks e a.serial x

  near_other : (a : ℕ) (w : World) → a ≢ j → near_at t (near_turn t a w) j ≡ near_at t w j
  near_other a w other = by_there (is_extender t a) refl
    where
      by_there : (b : Bool) → is_extender t a ≡ b → near_at t (cond b (beats_near t a w) (only w)).world j ≡ near_at t w j
      by_there false e = refl
      by_there true e = other_rests t l tree round a j w e other j_there

  end_other : (a : ℕ) (w : World) → a ≢ j → (near_turn t a w).near j ≡ w.near j
  end_other a w other = by_there (is_extender t a)
    where
      by_there : (b : Bool) → (cond b (beats_near t a w) (only w)).world.near j ≡ w.near j
      by_there false = refl
      by_there true = ap (λ (f : ℕ → Ecp). f j) (near_beats_near t a w) ∙ at_other a j (beaten (w.near a)) w.near (λ e. other (sym e))

  latest_kept : (w v : World) → v.control ≡ w.control → v.near j ≡ w.near j → LatestOf (w.near j) (w.control.askers j) → LatestOf (v.near j) (v.control.askers j)
  latest_kept w v control near latest =
      let P : Ecp → Type 0 = λ e. LatestOf e (w.control.askers j) in
      let Q : State → Type 0 = λ s. LatestOf (v.near j) (s.askers j) in
      subst Q (sym control) (subst P (sym near) latest)

  near_after : (a k : ℕ) (w : World) → j < a → near_at t (near_loop t a k w) j ≡ near_at t w j
  near_after a zero w past = refl
  near_after a (suc k) w past = near_after (a + 1) k (near_turn t a w) (omega arith) ∙ near_other a w (λ e. omega arith)

  -- the session's end, among them
  pub all_rest : (a k : ℕ) (w : World) → IsReached t w j → LatestOf (w.near j) (w.control.askers j) → a ≤ j → j < a + k → near_at t (near_loop t a k w) j ≡ near_rests (near_at t w j)
  all_rest a zero w reached latest low high = absurd (omega arith)
  all_rest a (suc k) w reached latest low high =
      elim (cases_eq a j) [
        | inr e ↦
            let stays : Stays w (near_turn t a w) = turn_stays t a w in
            all_rest (a + 1) k (near_turn t a w) (reached_kept t j w (near_turn t a w) (ap (λ (s : State). s.held) stays.control) stays.far reached) (latest_kept w (near_turn t a w) stays.control (end_other a w e) latest) (omega arith) (omega arith)
            ∙ ap near_rests (near_other a w e)
        | inl e ↦
            let there : is_extender t a ≡ true = (let P : ℕ → Type 0 = λ z. is_extender t z ≡ true in subst P (sym e) j_there) in
            let to : near_turn t a w ≡ (beats_near t j w).world = ap (λ (b : Bool). (cond b (beats_near t a w) (only w)).world) there ∙ ap (λ (z : ℕ). (beats_near t z w).world) e in
            near_after (a + 1) k (near_turn t a w) (omega arith) ∙ ap (λ (v : World). near_at t v j) to ∙ own_rests t l tree round j w j_there reached latest
      ]
