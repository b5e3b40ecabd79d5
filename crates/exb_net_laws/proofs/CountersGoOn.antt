-- Counters go on event by event.
use Rattle.std.proofs.Common.{◌≡◌, ℕ, ◌+◌, ◌==◌, ◌&&◌, not, Bool, true, false, cond, List, [], ◌∷◌, Option, Some, None, refl, arith}
use Rattle.std.specs.Prelude.{is_none, is_some, sum_by}
use Rattle.std.proofs.lemmas.List.Sums.{sum_by-cons}
use Rattle.exb_model.specs.declared.event.Event.{Event}
use Rattle.exb_model.specs.declared.event.Event.TheVariants as event
use Rattle.exb_model.specs.History.{Basis, History, ◌then◌, bridge_after}
use Rattle.exb_model.specs.Learning.{passes}
use Rattle.exb_world_spec.specs.Runs.PassedFrames.{passed_over}
use Rattle.exb_counters.specs.Counters.{relayed_at, relayed_by, dropped_at, ignored_at, ignored_by}
use Rattle.exb_counters.specs.CounterUpdates.{drops_in}
use Rattle.exb_net_laws.specs.CountersGoOn.{CountsGoOn}

relayed_on : (es : List Event) (h : History) (q : ℕ) → relayed_at (h then es) q ≡ relayed_at h q + sum_by (λ (e : Event). relayed_by e q) es
unfolding relayed_at
relayed_on [] h q = omega arith
relayed_on (e ∷ es) h q = (let rest = relayed_on es (e ∷ h) q in let s = sum_by-cons (λ (x : Event). relayed_by x q) e es in omega (arith, rest, s))

ignored_on : (es : List Event) (h : History) (q : ℕ) → ignored_at (h then es) q ≡ ignored_at h q + sum_by (λ (e : Event). ignored_by e q) es
unfolding ignored_at
ignored_on [] h q = omega arith
ignored_on (e ∷ es) h q = (let rest = ignored_on es (e ∷ h) q in let s = sum_by-cons (λ (x : Event). ignored_by x q) e es in omega (arith, rest, s))

none_not : (c : Bool) (o : Option ℕ) → cond {A = ℕ} (c && is_none o) 1 0 ≡ cond {A = ℕ} (c && not (is_some o)) 1 0
none_not true None = refl
none_not true (Some v) = refl
none_not false o = refl

dropped_on : (i : Basis) (es : List Event) (h : History) (q : ℕ) → dropped_at i (h then es) q ≡ dropped_at i h q + drops_in es (passed_over i h es) q
unfolding dropped_at drops_in
dropped_on i [] h q = omega arith
dropped_on i (event.Relay p n t f ∷ es) h q =
    (let rest = dropped_on i es (event.Relay p n t f ∷ h) q in let same = none_not (p == q) (passes (bridge_after i h) p f) in omega (arith, rest, same))
dropped_on i (event.Ignored p n ∷ es) h q = (let rest = dropped_on i es (event.Ignored p n ∷ h) q in omega (arith, rest))
dropped_on i (event.Tick seconds ∷ es) h q = (let rest = dropped_on i es (event.Tick seconds ∷ h) q in omega (arith, rest))
dropped_on i (event.Commit n ∷ es) h q = (let rest = dropped_on i es (event.Commit n ∷ h) q in omega (arith, rest))
dropped_on i (event.Refuse n x ∷ es) h q = (let rest = dropped_on i es (event.Refuse n x ∷ h) q in omega (arith, rest))
dropped_on i (event.Up p ∷ es) h q = (let rest = dropped_on i es (event.Up p ∷ h) q in omega (arith, rest))
dropped_on i (event.NoUp p x ∷ es) h q = (let rest = dropped_on i es (event.NoUp p x ∷ h) q in omega (arith, rest))
dropped_on i (event.Settled ∷ es) h q = (let rest = dropped_on i es (event.Settled ∷ h) q in omega (arith, rest))

pub counts_go_on : CountsGoOn
counts_go_on i h es q = record { relayed = relayed_on es h q; dropped = dropped_on i es h q; ignored = ignored_on es h q }
