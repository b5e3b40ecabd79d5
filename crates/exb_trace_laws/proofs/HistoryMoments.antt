-- The moments of a history that an input allows.
use Rattle.std.proofs.Common.{◌≡◌, ℕ, zero, suc, ◌*◌, ◌^◌, ◌<◌, List, [], ◌∷◌, Some, None, refl, ap, subst, arith}
use Rattle.std.specs.Prelude.{max, slice_get}
use Rattle.exb_model.specs.declared.event.Event.{Event}
use Rattle.exb_model.specs.declared.event.Event.TheVariants as event
use Rattle.exb_model.specs.History.{History}
use Rattle.exb_model.specs.declared.arrival.Arrival.{Arrival}
use Rattle.exb_model.specs.Input.{Input, Record, arrivals_from, arrivals_at}
use Rattle.exb_model.specs.LegalHistory.{EachEvent}
use Rattle.exb_model.specs.Lists.{numbered}
use Rattle.exb_trace_spec.specs.JournalLines.{IsFound}
use Rattle.exb_trace_spec.specs.InputFrames.{AreInTime, RelayFits}
use Rattle.exb_trace_spec.specs.Traversals.{Each}
use Rattle.exb_trace_laws.specs.JournalHistories.{LegalRelaysFit}
use Rattle.exb_trace_laws.proofs.JournalHistories.{found}

module _ (limit : ℕ) where
  greater : (a b : ℕ) → a < limit → b < limit → max a b < limit
  greater a b k l = omega arith

  same_moment : {a b : Arrival} → Some a ≡ Some b → a.moment ≡ b.moment
  same_moment {a} {b} e = ap (λ (x : Arrival). x.moment) (some_same e)
    where
      some_same : Some a ≡ Some b → a ≡ b
      some_same k = cc

  no_arrival : {a : Arrival} → None ≡ Some a → ⊥
  no_arrival e = cc

  below : (p n least : ℕ) (rs : List Record) → least < limit → ((k : ℕ) (r : Record) → slice_get rs k ≡ Some r → r.time < limit) → (k : ℕ) (a : Arrival) → slice_get (arrivals_from p n least rs) k ≡ Some a → a.moment < limit
  below p n least [] low all k a e = absurd (no_arrival e)
  below p n least (r ∷ rs) low all zero a e = subst (λ m. m < limit) (same_moment e) (greater least r.time low (all 0 r refl))
  below p n least (r ∷ rs) low all (suc k) a e = below p (suc n) (max least r.time) rs (greater least r.time low (all 0 r refl)) (λ j x is. all (suc j) x is) k a e

  from_numbered : (rs : List Record) → ((n : ℕ) (r : Record) → numbered rs n ≡ Some r → r.time < limit) → (k : ℕ) (r : Record) → slice_get rs k ≡ Some r → r.time < limit
  from_numbered rs all k r e = all (suc k) r e

  numbered_below : (p : ℕ) (rs : List Record) → 0 < limit → ((n : ℕ) (r : Record) → numbered rs n ≡ Some r → r.time < limit) → (n : ℕ) (a : Arrival) → numbered (arrivals_from p 1 0 rs) n ≡ Some a → a.moment < limit
  numbered_below p rs some all zero a e = absurd (no_arrival e)
  numbered_below p rs some all (suc n) a e = below p 1 0 rs some (from_numbered rs all) n a e

module _ (i : Input) (times : AreInTime i) where
  fits : (h : History) (e : Event) → IsFound (arrivals_at i) e → RelayFits h e
  unfolding arrivals_at
  fits h (event.Relay p n t f) k = numbered_below (2 ^ 32 * 1_000_000_000) p (i.records p) (omega arith) (times p) n (record { port = p; index = n; moment = t; bytes = f }) k
  fits h (event.Ignored p n) k = tt
  fits h (event.Tick s) k = tt
  fits h (event.Commit n) k = tt
  fits h (event.Refuse n x) k = tt
  fits h (event.Up p) k = tt
  fits h (event.NoUp p x) k = tt
  fits h event.Settled k = tt

  all_fit : (h : History) → Each (IsFound (arrivals_at i)) h → EachEvent RelayFits h
  all_fit [] k = tt
  all_fit (e ∷ h) k = (all_fit h k.1, fits h e k.0)

pub legal_relays_fit : LegalRelaysFit
legal_relays_fit m i h times legal = all_fit i times h (found i m h legal)
