-- Counters that go on with what a world tells and sends.
use Rattle.std.specs.Prelude.{◌≡◌, ℕ, ◌+◌, List, sum_by}
use Rattle.exb_model.specs.declared.event.Event.{Event}
use Rattle.exb_model.specs.History.{Basis, History, ◌then◌}
use Rattle.exb_world_spec.specs.Runs.PassedFrames.{passed_over}
use Rattle.exb_counters.specs.Counters.{relayed_at, relayed_by, dropped_at, ignored_at, ignored_by}
use Rattle.exb_counters.specs.CounterUpdates.{drops_in}

-- The counts after more events are those before them and what the events add, and of Relays that pass nowhere it is
-- enough what is said of each.
pub record GoOn (i : Basis) (h : History) (es : List Event) (q : ℕ) : Type 0 where
  pub relayed : relayed_at (h then es) q ≡ relayed_at h q + sum_by (λ (e : Event). relayed_by e q) es
  pub dropped : dropped_at i (h then es) q ≡ dropped_at i h q + drops_in es (passed_over i h es) q
  pub ignored : ignored_at (h then es) q ≡ ignored_at h q + sum_by (λ (e : Event). ignored_by e q) es

abbrev pub CountsGoOn : Type 0
CountsGoOn = (i : Basis) (h : History) (es : List Event) (q : ℕ) → GoOn i h es q
