-- What came so far, with one event more; and what seconds leave of each bridge.
use Rattle.std.proofs.Common.{◌≡◌, ℕ, ◌-◌, ◌<◌, ◌==◌, ◌++◌, List, [], ◌∷◌, Some, refl, ap, sym, subst, arith, inl, inr}
use Rattle.std.proofs.lemmas.Bool.{cases_Bool}
use Rattle.exb_model.specs.Input.{seconds_after}
use Rattle.exb_world_spec.specs.Settling.{run}
use Rattle.exb_world_spec.specs.Steps.{stepped}
use Rattle.exb_net_spec.specs.Nets.{Net}
use Rattle.exb_net_spec.specs.NetHistory.{Due, due_second}
use Rattle.exb_net_spec.specs.InputOrder.{AreHere, AreInOrder, IsNext, taken_after}
use Rattle.exb_net_laws.specs.NetRuns.{Dones, Plays, PlaysOne, PlaysSince, pass}
use Rattle.exb_net.specs.NetInvariants.{last_from, last_of, taken_in}

-- ---- seconds
-- the number of commands stays
pub pass_given : (n : Net) (seconds : ℕ) (ds : Dones) (b : ℕ) → (pass n seconds ds b).world.control.given ≡ (ds b).world.control.given
unfolding run stepped
pass_given n seconds ds b = elim (cases_Bool (seconds == 0)) [ inl e ↦ rw e refl | inr e ↦ rw e refl ]

-- ---- one event more
pub here_more : (n : Net) (ds : List Due) (d : Due) → AreHere n ds → d.bridge < n.count → AreHere n (ds ++ d ∷ [])
here_more n [] d all low = (low, tt)
here_more n (x ∷ ds) d all low = (all.0, here_more n ds d all.1 low)

pub order_more : (ds : List Due) (d : Due) (taken : ℕ → ℕ) → AreInOrder taken ds → IsNext (taken_in ds taken d.bridge) d.coming → AreInOrder taken (ds ++ d ∷ [])
order_more [] d taken all next = (next, tt)
order_more (x ∷ ds) d taken all next = (all.0, order_more ds d (taken_after x taken) all.1 next)

pub taken_more : (ds : List Due) (d : Due) (taken : ℕ → ℕ) (b : ℕ) → taken_in (ds ++ d ∷ []) taken b ≡ taken_after d (taken_in ds taken) b
taken_more [] d taken b = refl
taken_more (x ∷ ds) d taken b = taken_more ds d (taken_after x taken) b

last_more_from : (second : ℕ) (ds : List Due) (d : Due) → last_from second (ds ++ d ∷ []) ≡ due_second d
last_more_from second [] d = refl
last_more_from second (x ∷ ds) d = last_more_from (due_second x) ds d

pub last_more : (ds : List Due) (d : Due) → last_of (ds ++ d ∷ []) ≡ Some (due_second d)
last_more [] d = refl
last_more (x ∷ ds) d = ap Some (last_more_from (due_second x) ds d)

since_more : (n : Net) (second : ℕ) (ds : List Due) (d : Due) (s0 s e : Dones) → PlaysSince n second ds s0 s → PlaysOne n (due_second d - last_from second ds) d s e → PlaysSince n second (ds ++ d ∷ []) s0 e
since_more n second [] d s0 s e played one = (e, subst (λ (x : Dones). PlaysOne n (due_second d - second) d x e) (sym played) one, refl)
since_more n second (x ∷ ds) d s0 s e played one = (played.0, played.1, since_more n (due_second x) ds d played.0 s e played.2 one)

pub plays_more : (n : Net) (ds : List Due) (d : Due) (s0 s e : Dones) → Plays n ds s0 s → PlaysOne n (seconds_after (last_of ds) (due_second d)) d s e → Plays n (ds ++ d ∷ []) s0 e
plays_more n [] d s0 s e played one =
    let none : 0 ≡ due_second d - due_second d = omega arith in
    (e, subst (λ (x : Dones). PlaysOne n (due_second d - due_second d) d x e) (sym played) (subst (λ (k : ℕ). PlaysOne n k d s e) none one), refl)
plays_more n (x ∷ ds) d s0 s e played one = (played.0, played.1, since_more n (due_second x) ds d played.0 s e played.2 one)
