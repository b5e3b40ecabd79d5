-- The world stands as it begins, and over every list of steps.
use Rattle.std.proofs.Common.{◌≡◌, ℕ, zero, suc, ◌&&◌, ◌++◌, cond, nat_lt, Bool, true, false, List, [], ◌∷◌, Option, refl, sym, ◌∙◌, ap, subst, arith, inl, inr}
use Rattle.std.specs.Prelude.{IsSomeAnd}
use Rattle.std.proofs.lemmas.Bool.{cases_lt, lt-leb}
use Rattle.std.proofs.lemmas.List.{append-nil, append_assoc}
use Rattle.exb_model.specs.declared.event.Event.{Event}
use Rattle.exb_model.specs.declared.event.Event.TheVariants as event
use Rattle.exb_model.specs.EagerHistory.{is_relayed}
use Rattle.exb_model.specs.History.{Basis, History, ◌then◌, bridge_after}
use Rattle.exb_model.specs.declared.arrival.Arrival.{Arrival}
use Rattle.exb_model.specs.LegalHistory.{EachEvent, IsEntered}
use Rattle.exb_model.specs.Setup.{Limits}
use Rattle.exb_model.specs.Tree.{Shape}
use Rattle.exb_frame.specs.TagValues.{TagRoundTrip}
use Rattle.exb_learn.specs.Calls.{Table}
use Rattle.exb_learn.proofs.HistoryTables.{follows}
use Rattle.exb_relay.specs.Laws.{SendsAreWords, SendsLeaveAsFlat}
use Rattle.exb_control_spec.specs.InitialState.{first_jobs}
use Rattle.exb_control_spec.specs.Runs.Journal.{StepsTell}
use Rattle.exb_world_spec.specs.Worlds.{World, Step, Left, first_world}
use Rattle.exb_world_spec.specs.Steps.{Stepped, stepped}
use Rattle.exb_world_spec.specs.Settling.{run}
use Rattle.exb_flight.specs.NamedArrivals.{told_at, once_to}
use Rattle.exb_flight.specs.UpwardOrder.{waiting}
use Rattle.exb_flight.proofs.Runs.{none_waits}
use Rattle.exb_flight.proofs.KeptPromises.{then_append, stood_promises, begins_stood}
use Rattle.exb_world_laws.specs.WorldInput.{Given, given_by, arrivals_at, basis_with}
use Rattle.exb_world_laws.specs.OneBridge.{AreDecided, IsRightly}
use Rattle.exb_world_laws.specs.WorldInvariant.{MayStart, MayDoAll, given_in, IsSurely, Kept, BeginsKept, KeptStands, KeptIsClean, SettledOwesNothing, RunsStand}
use Rattle.exb_world_laws.proofs.DecidedJobs.{IsJust}
use Rattle.exb_world_laws.proofs.JobOrder.{are_decided}
use Rattle.exb_world_laws.proofs.InvariantSteps.{kept_just, step_kept}
use Rattle.exb_world_laws.proofs.NamedArrivals.{named_low, named_deep}

-- ---- where it is kept, the world stands
module _ (t : Shape) (l : Limits) (i : Basis) (arrivals : ℕ → List Arrival) where
  entered_of : (h : History) (e : Event) → IsSurely i arrivals h e → IsEntered i arrivals h e
  entered_of h (event.Relay p n moment f) k = k
  entered_of h (event.Ignored p n) k = subst (λ (o : Option Arrival). IsSomeAnd o (λ a. is_relayed (bridge_after i h) p a.bytes ≡ false)) (sym k.1) k.2
  entered_of h (event.Tick seconds) k = tt
  entered_of h (event.Commit n) k = tt
  entered_of h (event.Refuse n x) k = tt
  entered_of h (event.Up p) k = tt
  entered_of h (event.NoUp p x) k = tt
  entered_of h event.Settled k = tt

  pub rightly : (h : History) → EachEvent (IsSurely i arrivals) h → EachEvent (IsJust t l i) h → EachEvent (IsRightly t l i arrivals) h
  rightly [] a b = tt
  rightly (e ∷ h) a b = (rightly h a.0 b.0, record { entered = entered_of h e a.1; decided = b.1.decided; risen = b.1.risen })

pub kept_stands : KeptStands
kept_stands t l i start w g h left k =
    let j : Basis = basis_with i g in
    let promises = stood_promises t l j start.setting w h left k.stood in
    let just = kept_just t l i w g h left k in
    let f = follows j h in
    record {
      follows = k.follows;
      force = record {
        bridge = sym just.bridge;
        clock = promises.force.clock;
        learned = λ v m.
            ap (λ (u : Table). u.seen v m) promises.force.table ∙ f.seen_is v m;
      };
      even = promises.even;
      names = k.names;
      decided = subst (λ (z : History). AreDecided t j w g z) (sym k.is) (are_decided t l i w g k.journal k.downs k.tells);
      rightly = rightly t l j (λ p. arrivals_at p g) h k.entered just.each;
    }

pub kept_is_clean : KeptIsClean
kept_is_clean t l i start w g h left k = (stood_promises t l (basis_with i g) start.setting w h left k.stood).clean

pub settled_owes_nothing : SettledOwesNothing
settled_owes_nothing t l i start w g h left k settled q ext = (stood_promises t l (basis_with i g) start.setting w h left k.stood).quits settled q ext

-- ---- the beginning
none_once : (n : ℕ) → 0 ≡ once_to 0 n
none_once zero = refl
none_once (suc n) = sym (ap (λ (b : Bool). cond {A = ℕ} (nat_lt 0 (suc n) && b) 1 0) (lt-leb (suc n) 0 (omega arith)) ∙ no_one (nat_lt 0 (suc n)))
  where
    no_one : (b : Bool) → cond {A = ℕ} (b && false) 1 0 ≡ 0
    no_one true = refl
    no_one false = refl

nothing_told : (p : ℕ) → told_at p [] ≡ []
unfolding told_at
nothing_told p = refl

nothing_waits : (t : Shape) (p : ℕ) → waiting t (λ n. []) p ≡ []
unfolding waiting
nothing_waits t p = none_waits t p 64 p

pub begins_kept : BeginsKept
begins_kept t l i start =
    let w : World = first_world t l i.start i.ageing in
    record {
      journal = [];
      is = refl;
      stood = begins_stood t l (basis_with i []) start.setting start.few start.begin;
      stamped = record { downs = λ n. tt; ups = λ n. tt };
      follows = record { indexed = λ p. refl; next = λ p. refl; commands = refl };
      downs = [];
      tells = record { decided = []; order = sym (append-nil (first_jobs t)); lines = refl; ports = refl; bridge = refl; will = tt };
      names = record {
        ports = λ p ext. elim (cases_lt p 64) [
          | inl low ↦ named_low t w [] [] p [] 0 low (nothing_told p) refl (record { once = none_once; rising = tt })
          | inr deep ↦ named_deep t w [] [] p [] [] 0 deep (nothing_told p) (nothing_waits t p) refl (record { once = none_once; rising = tt })
        ];
        events = tt;
        words = λ n link. tt;
      };
      entered = tt;
      vids = tt;
    }

-- ---- any steps
module _ (round : TagRoundTrip) (words : SendsAreWords) (leave : SendsLeaveAsFlat) (law : StepsTell) (t : Shape) (l : Limits) (i : Basis) (start : MayStart t l i) where
  pub runs_kept : (steps : List Step) (w : World) (g : List Given) (h : History) (left : List Left) → Kept t l i w g h left → MayDoAll t l w steps →
      Kept t l i (run t l steps w).world (g ++ given_in steps) (h then (run t l steps w).events) (left ++ (run t l steps w).left)
  unfolding run
  runs_kept [] w g h left k may = subst (λ (j : List Given). Kept t l i w j h (left ++ [])) (sym (append-nil g)) (subst (Kept t l i w g h) (sym (append-nil left)) k)
  runs_kept (step ∷ steps) w g h left k may =
      let s : Stepped = stepped t l step w in
      let r : Stepped = run t l steps s.world in
      let rest = runs_kept steps s.world (g ++ given_by step) (h then s.events) (left ++ s.left) (step_kept round words leave law t l i start w g h left k step may.0) may.1 in
      subst (λ (j : List Given). Kept t l i r.world j (h then (s.events ++ r.events)) (left ++ (s.left ++ r.left))) (append_assoc g (given_by step) (given_in steps))
      (subst (Kept t l i r.world ((g ++ given_by step) ++ given_in steps) (h then (s.events ++ r.events))) (append_assoc left s.left r.left)
      (subst (λ (z : History). Kept t l i r.world ((g ++ given_by step) ++ given_in steps) z ((left ++ s.left) ++ r.left)) (sym (then_append h s.events r.events)) rest))

pub runs_stand : TagRoundTrip → SendsAreWords → SendsLeaveAsFlat → StepsTell → RunsStand
runs_stand round words leave law t l i start steps may =
    let w : World = first_world t l i.start i.ageing in
    let v : World = (run t l steps w).world in
    let k = runs_kept round words leave law t l i start steps w [] [] [] (begins_kept t l i start) may in
    (kept_stands t l i start v (given_in steps) ([] then (run t l steps w).events) (run t l steps w).left k, kept_is_clean t l i start v (given_in steps) ([] then (run t l steps w).events) (run t l steps w).left k)
