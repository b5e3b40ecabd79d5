-- Each step on a link, and a beat, keeps what is left to be shown of both ends of all sessions.
use Rattle.std.proofs.Common.{◌≡◌, ℕ, true, List, Option, Some, None, refl, sym, subst}
use Rattle.exb_model.specs.Tree.{Shape, IsTree, is_extender}
use Rattle.exb_model.specs.Setup.{Limits}
use Rattle.exb_frame.specs.TagValues.{TagRoundTrip}
use Rattle.exb_extender.specs.Forwarding.{is_bare_control}
use Rattle.exb_extender.specs.Machine.{ExtenderState}
use Rattle.exb_link.specs.declared.link_frame.LinkFrame.{LinkFrame}
use Rattle.exb_link.specs.LinkFrames.{is_control, is_data, without_data, without_control}
use Rattle.exb_control_spec.specs.Machine.{Work}
use Rattle.exb_control_spec.specs.Runs.MachineInvariant.{OneWaits}
use Rattle.exb_world_spec.specs.Worlds.{World, Way, Up, Down, Step, Beat, with_up, with_down}
use Rattle.exb_world_spec.specs.AllowedSteps.{Can}
use Rattle.exb_world_spec.specs.Runs.Sessions.{Each}
use Rattle.exb_world_spec.specs.Steps.{stepped, takes_any, first_data, control_at, rest_of, words_on, with_words}
use Rattle.exb_world_spec.proofs.LinkFrames.{each_filter, each_get}
use Rattle.exb_settling_laws.specs.SettlingFacts.{OnLink, carries, delivers, loses}
use Rattle.exb_settling_laws.specs.RemainingFacts.{NearLeft, FarLeft}
use Rattle.exb_settling_laws.proofs.BeatRemainingFacts.{CanAskAgain, beat_near_left, beat_far_left}
use Rattle.exb_settling_laws.proofs.FarRemainingFacts.{MayHear, taken_up_far, taken_down_left}
use Rattle.exb_settling_laws.proofs.NearRemainingFacts.{CanSend, taken_near_left}

pub record EndsLeft (t : Shape) (w : World) : Type 0 where
  pub near : (n : ℕ) → NearLeft (w.near n) (w.control.askers n)
  pub far : (n : ℕ) → is_extender t n ≡ true → FarLeft (w.far n)

-- What it needs of the world: what goes out can be sent, and what comes to an extender may be asked of it.
pub record CanGoOn (t : Shape) (l : Limits) (w : World) : Type 0 where
  pub sends : CanSend t l w.control
  pub again : CanAskAgain w.control
  pub hears : (n : ℕ) → is_extender t n ≡ true → Each (λ (x : LinkFrame). is_bare_control x.bytes ≡ true → MayHear (w.far n) x.bytes) (w.down n)
  pub waits : OneWaits w.control
  pub there : (k : Work) → w.control.work ≡ Some k → is_extender t k.first.extender ≡ true

module _ (t : Shape) (l : Limits) where
  up_left : (n : ℕ) (o : Option LinkFrame) (rest : List LinkFrame) (w : World) → CanSend t l w.control → EndsLeft t w → EndsLeft t (takes_any t l n Up o rest w).world
  up_left n None rest w can all = all
  up_left n (Some x) rest w can all =
      record {
        near = taken_near_left t l n Up x (with_up n rest w) can all.near;
        far = λ j there. (let P : (ℕ → ExtenderState) → Type 0 = λ f. FarLeft (f j) in subst P (sym (taken_up_far t l n x (with_up n rest w))) (all.far j there));
      }

  down_left : (n : ℕ) (o : Option LinkFrame) (rest : List LinkFrame) (w : World) → is_extender t n ≡ true → ((x : LinkFrame) → o ≡ Some x → is_bare_control x.bytes ≡ true → MayHear (w.far n) x.bytes) → CanSend t l w.control → EndsLeft t w → EndsLeft t (takes_any t l n Down o rest w).world
  down_left n None rest w there may can all = all
  down_left n (Some x) rest w there may can all =
      record {
        near = taken_near_left t l n Down x (with_down n rest w) can all.near;
        far = λ j j_there. taken_down_left t l n x (with_down n rest w) (may x refl) j (all.far n there) (all.far j j_there);
      }

  lost_left : (n : ℕ) (way : Way) (ws : List LinkFrame) (w : World) → EndsLeft t w → EndsLeft t (with_words n way ws w)
  lost_left n Up ws w all = record { near = all.near; far = all.far }
  lost_left n Down ws w all = record { near = all.near; far = all.far }

  -- Each step on a link.
  pub step_left : (step : Step) (w : World) → OnLink step → Can t w step → CanGoOn t l w → EndsLeft t w → EndsLeft t (stepped t l step w).world
  unfolding stepped
  step_left _ w (carries n Up) can on all = up_left n (first_data (w.up n)) (without_data (w.up n)) w on.sends all
  step_left _ w (carries n Down) can on all =
      down_left n (first_data (w.down n)) (without_data (w.down n)) w can.0
      (λ x e. each_get (λ (y : LinkFrame). is_bare_control y.bytes ≡ true → MayHear (w.far n) y.bytes) _ 0 x (each_filter (λ (y : LinkFrame). is_bare_control y.bytes ≡ true → MayHear (w.far n) y.bytes) is_data (w.down n) (on.hears n can.0)) e) on.sends all
  step_left _ w (delivers n Up k keep) can on all = up_left n (control_at (w.up n) k) (rest_of keep (w.up n) k) w on.sends all
  step_left _ w (delivers n Down k keep) can on all =
      down_left n (control_at (w.down n) k) (rest_of keep (w.down n) k) w can.0
      (λ x e. each_get (λ (y : LinkFrame). is_bare_control y.bytes ≡ true → MayHear (w.far n) y.bytes) _ k x (each_filter (λ (y : LinkFrame). is_bare_control y.bytes ≡ true → MayHear (w.far n) y.bytes) is_control (w.down n) (on.hears n can.0)) e) on.sends all
  step_left _ w (loses n way k) can on all = lost_left n way (without_control (words_on n way w) k) w all

  -- And a beat.
  pub beat_left : (tree : IsTree t) (round : TagRoundTrip) (w : World) → CanGoOn t l w → EndsLeft t w → EndsLeft t (stepped t l Beat w).world
  beat_left tree round w on all =
      record {
        near = beat_near_left t l tree round w on.waits on.again on.there all.near;
        far = λ n there. beat_far_left t l tree round w n there (all.far n there);
      }
