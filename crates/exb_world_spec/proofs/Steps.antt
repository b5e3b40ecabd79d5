-- Each step of the world keeps what holds of the sessions, and is nothing or one step of the machine of changes.
use Rattle.std.proofs.Common.{◌≡◌, ℕ, ◌<◌, ◌≤◌, nat_lt, ◌%◌, Bool, true, false, List, Option, Some, None, filter, slice_index, refl, subst, arith, inl, inr}
use Rattle.std.proofs.lemmas.Bool.{cases_lt, and_parts, and_from, ltb-true, lt-ltb, le-ltb}
use Rattle.exb_model.specs.Tree.{Shape, IsTree, device, on, is_extender, is_external, is_port}
use Rattle.exb_model.specs.Setup.{Limits}
use Rattle.exb_frame.specs.TagValues.{TagRoundTrip}
use Rattle.exb_model.specs.Frames.{IsBytes}
use Rattle.exb_link.specs.declared.link_frame.LinkFrame.{LinkFrame}
use Rattle.exb_link.specs.LinkFrames.{is_control, is_data, without_data, without_control}
use Rattle.exb_control_spec.specs.Decisions.{decide}
use Rattle.exb_control_spec.specs.Machine.{State, ordered}
use Rattle.exb_control_spec.specs.Runs.PlannedChanges.{IsSetting}
use Rattle.exb_world_spec.specs.Worlds.{World, Way, Up, Down, Step, Arrive, Carry, Control, Lose, Beat, Tick, Order, Mark}
use Rattle.exb_world_spec.specs.Effects.{only}
use Rattle.exb_world_spec.specs.Steps.{words_on, with_words, takes, takes_any, first_data, control_at, rest_of, counted, arrives, done_by}
use Rattle.exb_world_spec.specs.AllowedSteps.{Can}
use Rattle.exb_world_spec.specs.Runs.Sessions.{Each, AskedOf, StoredAt, WordFits, WorldFits, AreLow}
use Rattle.exb_world_spec.specs.Runs.Simulation.{IsSound, StaysSound, Stays}
use Rattle.exb_world_spec.specs.Runs.SessionLaws.{HasBytes, AreBytes, ordered_by}
use Rattle.exb_world_spec.proofs.ControlFrames.{quiet_sound, quiet_stays, stays_before, ordered_sound, moves_control}
use Rattle.exb_world_spec.proofs.ExtenderSteps.{above_sound, below_sound, station_sound}
use Rattle.exb_world_spec.proofs.BridgeSteps.{comes_sound, taken_sound}
use Rattle.exb_world_spec.proofs.BeatSteps.{all_beats}
use Rattle.exb_world_spec.proofs.LinkFrames.{each_without_data, each_without_control, each_filter, each_get, at_same}

module _ (t : Shape) (l : Limits) (tree : IsTree t) (setting : IsSetting t l) (round : TagRoundTrip) where
  -- ---- words are taken from a link
  with_fits : (w : World) → WorldFits t w → (n : ℕ) (way : Way) (ws : List LinkFrame) → ((P : LinkFrame → Type 0) → Each P (words_on n way w) → Each P ws) → WorldFits t (with_words n way ws w)
  with_fits w fits n Up ws fewer =
      record {
        ends = fits.ends;
        downs = fits.downs;
        ups = at_same (λ m xs. Each (WordFits t w.control.held (StoredAt w.far) m) xs) n ws w.up (fewer (WordFits t w.control.held (StoredAt w.far) n) (fits.ups n)) fits.ups;
      }
  with_fits w fits n Down ws fewer =
      record {
        ends = fits.ends;
        downs = at_same (λ m xs. Each (WordFits t w.control.held (AskedOf w.control.askers) m) xs) n ws w.down (fewer (WordFits t w.control.held (AskedOf w.control.askers) n) (fits.downs n)) fits.downs;
        ups = fits.ups;
      }

  pub with_sound : (w : World) → IsSound t l w → (n : ℕ) (way : Way) (ws : List LinkFrame) → ((P : LinkFrame → Type 0) → Each P (words_on n way w) → Each P ws) → IsSound t l (with_words n way ws w)
  with_sound w sound n Up ws fewer = quiet_sound t l tree setting w (with_words n Up ws w) sound refl refl (with_fits w sound.fits n Up ws fewer)
  with_sound w sound n Down ws fewer = quiet_sound t l tree setting w (with_words n Down ws w) sound refl refl (with_fits w sound.fits n Down ws fewer)

  -- what holds of a word of a direction
  abbrev FitsWay : World → ℕ → Way → LinkFrame → Type 0
  FitsWay w n Up x = WordFits t w.control.held (StoredAt w.far) n x
  FitsWay w n Down x = WordFits t w.control.held (AskedOf w.control.askers) n x

  pub all_fit : (w : World) → WorldFits t w → (n : ℕ) (way : Way) → Each (FitsWay w n way) (words_on n way w)
  all_fit w fits n Up = fits.ups n
  all_fit w fits n Down = fits.downs n

  -- a word is taken
  taken : (w : World) → IsSound t l w → (n : ℕ) (way : Way) (x : LinkFrame) → is_extender t n ≡ true → IsBytes x.bytes → FitsWay w n way x → AreLow w.control.askers → AreLow (takes t l n way x w).world.control.askers →
      Stays t l w (takes t l n way x w)
  taken w sound n Down x there bytes fits low after = above_sound t l tree setting round w sound n x there bytes fits low
  taken w sound n Up x there bytes fits low after =
      elim (cases_lt (on t n) 64) [
        | inl l0 ↦ let b : nat_lt (on t n) 64 ≡ true = lt-ltb (on t n) 64 l0 in rw b (taken_sound t l tree setting round w sound n x l0 bytes fits (rw b at after))
        | inr g ↦ let b : nat_lt (on t n) 64 ≡ false = le-ltb (on t n) 64 g in rw b (below_sound t l tree setting round w sound n x there g fits)
      ]

  -- one that may be there
  any_taken : (w : World) → IsSound t l w → AreBytes w → (n : ℕ) (way : Way) (o : Option LinkFrame) (rest : List LinkFrame) → is_extender t n ≡ true → ((P : LinkFrame → Type 0) → Each P (words_on n way w) → Each P rest) →
      ((P : LinkFrame → Type 0) (x : LinkFrame) → Each P (words_on n way w) → o ≡ Some x → P x) → AreLow w.control.askers → AreLow (takes_any t l n way o rest w).world.control.askers → Stays t l w (takes_any t l n way o rest w)
  any_taken w sound bytes n way None rest there fewer found low after = quiet_stays t l tree setting w (only w) refl refl refl sound.fits
  any_taken w sound bytes n Up (Some x) rest there fewer found low after =
      let v : World = with_words n Up rest w in
      stays_before t l tree setting w v (takes t l n Up x v) refl refl refl
      (taken v (with_sound w sound n Up rest fewer) n Up x there (found (λ y. IsBytes y.bytes) x (bytes.ups n) refl) (found (FitsWay w n Up) x (all_fit w sound.fits n Up) refl) low after)
  any_taken w sound bytes n Down (Some x) rest there fewer found low after =
      let v : World = with_words n Down rest w in
      stays_before t l tree setting w v (takes t l n Down x v) refl refl refl
      (taken v (with_sound w sound n Down rest fewer) n Down x there (found (λ y. IsBytes y.bytes) x (bytes.downs n) refl) (found (FitsWay w n Down) x (all_fit w sound.fits n Down) refl) low after)

  pub kept : (P : LinkFrame → Type 0) (keep : Bool) (ws : List LinkFrame) (k : ℕ) → Each P ws → Each P (rest_of keep ws k)
  kept P true ws k all = all
  kept P false ws k all = each_without_control P ws k all

  lost : (w : World) → IsSound t l w → (n : ℕ) (way : Way) (ws : List LinkFrame) → ((P : LinkFrame → Type 0) → Each P (words_on n way w) → Each P ws) → Stays t l w (only (with_words n way ws w))
  lost w sound n Up ws fewer = quiet_stays t l tree setting w (only (with_words n Up ws w)) refl refl refl (with_fits w sound.fits n Up ws fewer)
  lost w sound n Down ws fewer = quiet_stays t l tree setting w (only (with_words n Down ws w)) refl refl refl (with_fits w sound.fits n Down ws fewer)

  -- the extender of a port
  pub home : (p : ℕ) → 64 ≤ p → is_external t p ≡ true → is_extender t (device p) ≡ true
  home p high external =
      let known : is_port t p ≡ true = (and_parts (is_port t p) _ external).0 in
      let some : p % 64 < slice_index t.ports (device p) = ltb-true (p % 64) (slice_index t.ports (device p)) known in
      let first : 0 < device p = omega arith in
      and_from (nat_lt 0 (device p)) (nat_lt 0 (slice_index t.ports (device p))) (lt-ltb 0 (device p) first) (lt-ltb 0 (slice_index t.ports (device p)) (omega (arith, some)))

  pub step_sound : (w : World) → IsSound t l w → AreBytes w → (step : Step) → Can t w step → HasBytes step → AreLow w.control.askers → AreLow (done_by t l step w).world.control.askers → StaysSound t l (ordered_by step) w (done_by t l step w).world (done_by t l step w).events
  step_sound w sound bytes (Arrive a) can has low after =
      let v : World = counted a w in
      let its : IsSound t l v = quiet_sound t l tree setting w v sound refl refl (record { ends = sound.fits.ends; downs = sound.fits.downs; ups = sound.fits.ups }) in
      stays_before t l tree setting w v (arrives t a w) refl refl refl (
      elim (cases_lt a.port 64) [
        | inl low0 ↦ let b : nat_lt a.port 64 ≡ true = lt-ltb a.port 64 low0 in rw b (comes_sound t l tree setting round v its a has)
        | inr high ↦ let b : nat_lt a.port 64 ≡ false = le-ltb a.port 64 high in rw b (station_sound t l tree setting round v its a (home a.port high can.external) has)
      ])
  step_sound w sound bytes (Carry n way) can has low after =
      any_taken w sound bytes n way (first_data (words_on n way w)) (without_data (words_on n way w)) can.0 (λ P all. each_without_data P (words_on n way w) all)
      (λ P x all e. each_get P (filter is_data (words_on n way w)) 0 x (each_filter P is_data (words_on n way w) all) e) low after
  step_sound w sound bytes (Control n way k keep) can has low after =
      any_taken w sound bytes n way (control_at (words_on n way w) k) (rest_of keep (words_on n way w) k) can.0 (λ P all. kept P keep (words_on n way w) k all)
      (λ P x all e. each_get P (filter is_control (words_on n way w)) k x (each_filter P is_control (words_on n way w) all) e) low after
  step_sound w sound bytes (Lose n way k) can has low after = lost w sound n way (without_control (words_on n way w) k) (λ P all. each_without_control P (words_on n way w) k all)
  step_sound w sound bytes Beat can has low after = all_beats t l tree setting round w sound low
  step_sound w sound bytes (Tick seconds) can has low after = quiet_stays t l tree setting w (done_by t l (Tick seconds) w) refl refl refl (record { ends = sound.fits.ends; downs = sound.fits.downs; ups = sound.fits.ups })
  step_sound w sound bytes (Order c) can has low after =
      ordered_sound t l tree setting w sound c can.0 (subst (λ (s : State). AreLow s.askers) (moves_control t (ordered (decide t l) c w.control) w) after)
  step_sound w sound bytes Mark can has low after = quiet_stays t l tree setting w (done_by t l Mark w) refl refl refl sound.fits
