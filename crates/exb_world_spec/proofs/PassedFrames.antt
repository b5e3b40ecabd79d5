-- Which of the frames that are relayed pass.
use Rattle.std.proofs.Common.{arith, length, ◌≤◌, ◌≡◌, ℕ, ◌++◌, Bool, true, false, cond, List, [], ◌∷◌, refl, sym, append_assoc, ◌∙◌, ap, subst, inl, inr}
use Rattle.std.proofs.lemmas.Bool.{false≢true}
use Rattle.exb_model.specs.Tree.{Shape}
use Rattle.exb_model.specs.Setup.{Limits}
use Rattle.exb_model.specs.Configuration.{Bridge}
use Rattle.exb_model.specs.Learning.{passes}
use Rattle.exb_model.specs.EagerHistory.{is_relayed, arrival_event}
use Rattle.exb_model.specs.declared.arrival.Arrival.{Arrival}
use Rattle.exb_model.specs.declared.event.Event.{Event}
use Rattle.exb_model.specs.declared.event.Event.TheVariants as event
use Rattle.exb_control_spec.specs.Decisions.{decide}
use Rattle.exb_control_spec.specs.Machine.{State, heard, still}
use Rattle.exb_world_spec.specs.Worlds.{World, Up, Down, Step, Arrive, Carry, Control}
use Rattle.exb_world_spec.specs.Effects.{Effect, only, joined}
use Rattle.exb_world_spec.specs.DataFrames.{passed_by as passed_as}
use Rattle.exb_world_spec.specs.Steps.{words_on, done_by, stepped}
use Rattle.exb_world_spec.specs.BridgeLearning.{is_of}
use Rattle.exb_world_spec.specs.Runs.Simulation.{jobs_in}
use Rattle.exb_world_spec.specs.Runs.PassedFrames.{passed_by, passed_in, StepsTellPassed}
use Rattle.exb_world_spec.proofs.StepEvents.{data_is, control_is}
use Rattle.exb_world_spec.proofs.Jobs.{answered_jobs, heard_jobs, ordered_jobs, beats_none}
use Rattle.exb_world_spec.proofs.Acts.{Act, Come, Move, Pass, Settle, Ignore, Station, Mover, Answered, Announced, Ordered, Beaten, moved, HasHeard, IsMover, IsTaken, Why, step_acts}
use Rattle.exb_world_spec.proofs.Deeds.{Deed, Change, Tell, Send, Words, deed, IsTold, Because, act_deeds}

-- ---- events of jobs
pub jobs_few : (es : List Event) → length (jobs_in es) ≤ length es
jobs_few [] = omega arith
jobs_few (event.Relay p n m f ∷ es) = let k = jobs_few es in omega (arith, k)
jobs_few (event.Ignored p n ∷ es) = let k = jobs_few es in omega (arith, k)
jobs_few (event.Tick seconds ∷ es) = let k = jobs_few es in omega (arith, k)
jobs_few (event.Commit n ∷ es) = let k = jobs_few es in omega (arith, k)
jobs_few (event.Refuse n x ∷ es) = let k = jobs_few es in omega (arith, k)
jobs_few (event.Up p ∷ es) = let k = jobs_few es in omega (arith, k)
jobs_few (event.NoUp p x ∷ es) = let k = jobs_few es in omega (arith, k)
jobs_few (event.Settled ∷ es) = let k = jobs_few es in omega (arith, k)

pub rest_same : {A : Type 0} {x : A} {xs ys : List A} → x ∷ xs ≡ x ∷ ys → xs ≡ ys
rest_same e = cc

pub too_few : (e : Event) (es : List Event) → jobs_in es ≡ e ∷ es → ⊥
too_few e es same = let k = jobs_few es in let z = ap (λ (xs : List Event). length xs) same in omega (arith, k, z)

pub none_of_jobs : (b : Bridge) (es : List Event) → jobs_in es ≡ es → passed_in b es ≡ []
none_of_jobs b [] e = refl
none_of_jobs b (event.Relay p n m f ∷ es) e = absurd (too_few (event.Relay p n m f) es e)
none_of_jobs b (event.Ignored p n ∷ es) e = absurd (too_few (event.Ignored p n) es e)
none_of_jobs b (event.Tick seconds ∷ es) e = absurd (too_few (event.Tick seconds) es e)
none_of_jobs b (event.Settled ∷ es) e = absurd (too_few event.Settled es e)
none_of_jobs b (event.Commit n ∷ es) e = none_of_jobs b es (rest_same e)
none_of_jobs b (event.Refuse n x ∷ es) e = none_of_jobs b es (rest_same e)
none_of_jobs b (event.Up p ∷ es) e = none_of_jobs b es (rest_same e)
none_of_jobs b (event.NoUp p x ∷ es) e = none_of_jobs b es (rest_same e)

-- ---- what passes
passed_both : (b : Bridge) (xs ys : List Event) → passed_in b (xs ++ ys) ≡ passed_in b xs ++ passed_in b ys
passed_both b [] ys = refl
passed_both b (x ∷ xs) ys = ap (λ (ps : List Bool). passed_by b x ++ ps) (passed_both b xs ys) ∙ sym (append_assoc (passed_by b x) (passed_in b xs) (passed_in b ys))

-- a step of which a frame may come to the bridge
abbrev IsData : Step → Type 0
IsData (Arrive a) = Unit {0}
IsData (Carry n way) = Unit {0}
IsData _ = ⊥

module _ (t : Shape) (l : Limits) (w : World) where
  comes_so : (step : Step) (u : World) (a : Arrival) → Why t l (IsTaken w step) w step (Come a) u → IsData step
  comes_so (Arrive b) u a why = tt
  comes_so (Carry n way) u a why = tt
  comes_so (Control n way i keep) u a (inr h) = absurd (false≢true (sym h.data_word ∙ control_is (words_on n way w) i h.word h.taken.2))
  comes_so (Control n way i keep) u a (inl h) = absurd h.0
  comes_so _ u a (inl h) = absurd h.0
  comes_so _ u a (inr h) = absurd h.taken

  no_control : (step : Step) (n : ℕ) (f : List ℕ) → IsData step → HasHeard t (IsTaken w step) n f → ⊥
  no_control (Carry m way) n f is h = false≢true (sym (data_is (words_on m way w) h.word h.taken.2) ∙ h.control)
  no_control (Arrive a) n f is h = h.taken
  no_control _ n f is h = is

  no_move : (step : Step) (by : Mover) → IsData step → IsMover t (IsTaken w step) step by → ⊥
  no_move step (Answered n m) is h = no_control step n h.1.frame is h.1.heard
  no_move step (Announced n a) is h = no_control step n h.0 is h.1
  no_move (Arrive a) by is h = h
  no_move (Carry n way) by is h = h
  no_move _ by is h = is

  move_jobs : (by : Mover) (s : State) → jobs_in (moved t l by s).events ≡ (moved t l by s).events
  move_jobs (Answered n m) s = answered_jobs (decide t l) n m s
  move_jobs (Announced n a) s = by_flag (is_of t n a)
    where
      by_flag : (c : Bool) → jobs_in (cond c (heard (decide t l) n s) (still s)).events ≡ (cond c (heard (decide t l) n s) (still s)).events
      by_flag true = heard_jobs (decide t l) n s
      by_flag false = refl
  move_jobs (Ordered c) s = ordered_jobs (decide t l) c s
  move_jobs Beaten s = ap jobs_in (beats_none s) ∙ sym (beats_none s)

  of_arrival : (b : Bridge) (a : Arrival) (c : Bool) → passed_as c (passes b a.port a.bytes) ≡ passed_in b (cond c (event.Relay a.port a.index a.moment a.bytes) (event.Ignored a.port a.index) ∷ [])
  of_arrival b a true = refl
  of_arrival b a false = refl

  module _ (step : Step) where
    b : Bridge
    b = w.control.bridge

    -- where a frame may come the configuration stays that of the beginning, and of all that is told it is said what passes
    abbrev Same : World → Type 0
    Same v = IsData step → v.control ≡ w.control

    abbrev Tells : World → Effect → Type 0
    Tells v e = Same v → Same e.world × (e.passed ≡ passed_in w.control.bridge e.events)

    told : (a : Act) (u : World) → Why t l (IsTaken w step) w step a u → Same u → (es : List Event) (ps : List Bool) → IsTold t l a u es ps → ps ≡ passed_in w.control.bridge es
    told (Come a) u why same es ps is =
        let e : u.control ≡ w.control = same (comes_so step u a why) in
        let P : State → Type 0 = λ s. (es ≡ arrival_event s.bridge a ∷ []) × (ps ≡ passed_as (is_relayed s.bridge a.port a.bytes) (passes s.bridge a.port a.bytes)) in
        let k : P w.control = subst P e is in
        k.1 ∙ of_arrival w.control.bridge a (is_relayed w.control.bridge a.port a.bytes) ∙ ap (passed_in w.control.bridge) (sym k.0)
    told (Move by) u why same es ps is = is.1 ∙ sym (none_of_jobs w.control.bridge es (subst (λ (xs : List Event). jobs_in xs ≡ xs) (sym is.0) (move_jobs by u.control)))
    told (Pass seconds) u why same es ps is = is.1 ∙ ap (passed_in w.control.bridge) (sym is.0)
    told Settle u why same es ps is = is.1 ∙ ap (passed_in w.control.bridge) (sym is.0)
    told (Ignore a) u why same es ps is = is.1 ∙ ap (passed_in w.control.bridge) (sym is.0)
    told (Station a) u why same es ps is = is.1 ∙ ap (passed_in w.control.bridge) (sym is.0)
    told _ u why same es ps is = absurd is

    deed_tells : (a : Act) (u : World) → Why t l (IsTaken w step) w step a u → Same u → (d : Deed) (v : World) → Because t l a u d v → Tells v (deed d v)
    deed_tells a u why now (Tell es ps) v is same = (same, told a u why now es ps is)
    deed_tells a u why now (Change s) v is same = ((λ data_step. absurd (no_move step is.0 data_step (subst (λ c. Why t l (IsTaken w step) w step c u) is.1.0 why).0)), refl)
    deed_tells a u why now (Send line n Up x) v is same = (same, refl)
    deed_tells a u why now (Send line n Down x) v is same = (same, refl)
    deed_tells a u why now (Words n Up ws) v is same = (same, refl)
    deed_tells a u why now (Words n Down ws) v is same = (same, refl)
    deed_tells a u why now _ v is same = (same, refl)

    none_tells : (v : World) → Tells v (only v)
    none_tells v same = (same, refl)

    both_tell : (v : World) (e f : Effect) → Tells v e → Tells e.world f → Tells v (joined e f)
    both_tell v e f x y same =
        let h = x same in
        let k = y h.0 in
        (k.0, ap (λ (ps : List Bool). ps ++ f.passed) h.1 ∙ ap (λ (ps : List Bool). passed_in w.control.bridge e.events ++ ps) k.1 ∙ sym (passed_both w.control.bridge e.events f.events))

    step_tells : Tells w (done_by t l step w)
    step_tells = step_acts t l w step Tells (record { nothing = none_tells; joins = both_tell; acts = λ a u why now. act_deeds t l a u Tells none_tells both_tell (deed_tells a u why now) now })

pub steps_tell_passed : StepsTellPassed
unfolding stepped
steps_tell_passed t l w step = (step_tells t l w step (λ data_step. refl)).1
