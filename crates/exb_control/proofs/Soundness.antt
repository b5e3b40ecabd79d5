-- Requests can be asked.
use Rattle.std.proofs.Common.{◌≡◌, ◌≢◌, ℕ, suc, ◌+◌, ◌^◌, ◌<◌, ◌≤◌, ◌==◌, Bool, true, false, cond, List, [], ◌∷◌, Option, Some, None, length, refl, ap, sym, subst, ◌∙◌, arith}
use Rattle.std.proofs.lemmas.Bool.{ne_eqb}
use Rattle.exb_csp.specs.Sessions.AskingEnd.{AskerState}
use Rattle.exb_csp.specs.declared.ask_at.AskAt.{AskAt}
use Rattle.exb_control.specs.Queues.{first_in}
use Rattle.exb_model.specs.declared.event.Event.{Event}
use Rattle.exb_csp.specs.Sessions.AskingEnd.{asked}
use Rattle.exb_control_spec.specs.declared.plan.change.Change.{Change}
use Rattle.exb_control_spec.specs.declared.extender_message.Asked.{Asked}
use Rattle.exb_control_spec.specs.declared.job.Job.{Job}
use Rattle.exb_control_spec.specs.declared.job.Phase.TheVariants.{Preparing, Cleaning}
use Rattle.exb_control.specs.declared.stage.Stage.{Stage}
use Rattle.exb_control.specs.declared.stage.Stage.TheVariants.{AtRest, Prepared, InForce}
use Rattle.exb_control_spec.specs.Decisions.{bridge_after}
use Rattle.exb_control_spec.specs.Machine.{Work, State, Moved, cleans, asking}
use Rattle.exb_control.specs.MachineSteps.{Reached, reached, reached_by, put, is_at_rest, asks_after, advances}
use Rattle.exb_control.specs.Soundness.{AreKnown, HasRoom, MayAsk, CanAsk, IsWaiting, IsSteady, later, following}

pub room_for : (k n : ℕ) (askers : ℕ → AskerState) → n ≤ k → HasRoom k askers → HasRoom n askers
room_for k n askers le room m = let r = room m in omega arith

pub may_ask : (k n : ℕ) (askers : ℕ → AskerState) → n ≤ k → MayAsk k askers → MayAsk n askers
may_ask k n askers le may = record { idle = may.idle; room = room_for k n askers le may.room }

-- the first of requests that can be asked
pub can_ask : (xs : List AskAt) (n : ℕ) (askers : ℕ → AskerState) → AreKnown xs → MayAsk (length xs + n) askers → CanAsk (first_in xs) askers
can_ask [] n askers known may a is = absurd (none is)
  where
    none : let o : Option AskAt = None in o ≡ Some a → ⊥
    none e = cc
can_ask (x ∷ xs) n askers known may a is =
    (subst (λ (b : AskAt). b.extender < 65) (some is) known.0, may_ask (length (x ∷ xs) + n) 1 askers (omega arith) may)
  where
    some : Some x ≡ Some a → x ≡ a
    some e = cc

-- where no request was asked, they can be asked as before
pub may_still : (k n : ℕ) (old new : ℕ → AskerState) → new ≡ old → n ≤ k → MayAsk k old → MayAsk n new
may_still k n old new same le may = rw same (may_ask k n old le may)

-- ---- what is left to ask while a request is outstanding
put_other : (e n : ℕ) (a : AskerState) (askers : ℕ → AskerState) → n ≢ e → put e a askers n ≡ askers n
put_other e n a askers ne = rw (ne_eqb n e ne) refl

put_serial : (e n k : ℕ) (a : AskerState) (askers : ℕ → AskerState) → a.serial + k < 2 ^ 40 → (askers n).serial + k < 2 ^ 40 → (put e a askers n).serial + k < 2 ^ 40
put_serial e n k a askers here there = by_test (n == e)
  where
    by_test : (b : Bool) → (cond b a (askers n)).serial + k < 2 ^ 40
    by_test true = here
    by_test false = there

pub asking_waits : (w : Work) (s : State) (k : ℕ) → MayAsk (suc (following w) + k) s.askers → w.first.extender < 65 → AreKnown w.rest → AreKnown (later w.phase w.change) →
    IsWaiting k w (asking w s).state.askers
asking_waits w s k may first rest later =
    let e = w.first.extender in
    record {
      others = λ n ne. ap (λ (a : AskerState). a.waiting) (put_other e n (asked (s.askers e) w.first.request).0 s.askers ne) ∙ may.idle n;
      room = λ n. put_serial e n (following w + k) (asked (s.askers e) w.first.request).0 s.askers
          (let r = may.room e in omega arith) (let r = may.room n in omega arith);
      first = first;
      rest = rest;
      later = later;
    }

cleans_steady : (j : Job) (x : Change) (xs : List AskAt) (s : State) (k : ℕ) → AreKnown xs → MayAsk (length xs + k) s.askers →
    IsSteady k (cleans j x xs s).state.work (cleans j x xs s).state.askers
cleans_steady j x [] s k known may = may_ask (0 + k) k s.askers (omega arith) may
cleans_steady j x (a ∷ rest) s k known may =
    asking_waits (record { job = j; change = x; phase = Cleaning; first = a; rest = rest }) s k (may_ask (length (a ∷ rest) + k) _ s.askers (omega arith) may) known.0 known.1 tt

prepares_steady : (j : Job) (x : Change) (xs : List AskAt) (s : State) (k : ℕ) → AreKnown xs → AreKnown x.cleanup → MayAsk (length xs + length x.cleanup + k) s.askers →
    IsSteady k (advances (Prepared j x) xs s).state.work (advances (Prepared j x) xs s).state.askers
prepares_steady j x [] s k known cleanup may =
    cleans_steady j x x.cleanup (record s { bridge = bridge_after j s.bridge }) k cleanup (may_ask (0 + length x.cleanup + k) _ s.askers (omega arith) may)
prepares_steady j x (a ∷ rest) s k known cleanup may =
    asking_waits (record { job = j; change = x; phase = Preparing; first = a; rest = rest }) s k (may_ask (length (a ∷ rest) + length x.cleanup + k) _ s.askers (omega arith) may)
    known.0 known.1 cleanup

ends_steady : (j : Job) (x : Change) (xs : List AskAt) (s : State) (k : ℕ) → AreKnown xs → MayAsk (length xs + k) s.askers →
    IsSteady k (advances (InForce j x) xs s).state.work (advances (InForce j x) xs s).state.askers
ends_steady j x [] s k known may = may_ask (0 + k) k s.askers (omega arith) may
ends_steady j x (a ∷ rest) s k known may =
    asking_waits (record { job = j; change = x; phase = Cleaning; first = a; rest = rest }) s k (may_ask (length (a ∷ rest) + k) _ s.askers (omega arith) may) known.0 known.1 tt

pub advances_steady : (stage : Stage) (xs : List AskAt) (s : State) (k : ℕ) → is_at_rest stage ≡ false → AreKnown xs → AreKnown (asks_after stage) →
    MayAsk (length xs + length (asks_after stage) + k) s.askers → IsSteady k (advances stage xs s).state.work (advances stage xs s).state.askers
advances_steady AtRest xs s k busy known after may = absurd (cc)
advances_steady (Prepared j x) xs s k busy known after may = prepares_steady j x xs s k known after may
advances_steady (InForce j x) xs s k busy known after may = ends_steady j x xs s k known (may_ask (length xs + 0 + k) _ s.askers (omega arith) may)

pub steady_by : (k : ℕ) (s : State) (m : Moved) (events events' : List Event) (asks asks' : List Asked) (t t' : List ℕ) →
    reached s events asks t ≡ reached_by m events' asks' t' → IsSteady k m.state.work m.state.askers → IsSteady k s.work s.askers
steady_by k s m events events' asks asks' t t' e steady = subst (λ (r : Reached). IsSteady k r.state.work r.state.askers) (sym e) steady
