-- What counters hold, call by call.
use Rattle.std.specs.Prelude.{◌≡◌, ℕ, ◌+◌, ◌<◌, ◌^◌, ◌==◌, ◌&&◌, not, Bool, true, if◌then◌else◌, List, [], ◌∷◌, get_or, length, sum_by}
use Rattle.exb_model.specs.declared.event.Event.{Event}
use Rattle.exb_model.specs.declared.event.Event.TheVariants as event
use Rattle.exb_counters.specs.declared.counters.Counts5.{Counts5}
use Rattle.exb_counters.specs.declared.counters.Counters.{Counters as Table}
use Rattle.exb_counters.specs.Counters.{relayed_by, ignored_by}

-- before anything is counted
abbrev pub nothing : Counts5
nothing = record { relayed = 0; dropped = 0; ignored = 0; left = 0; octets = 0 }

-- there are counts of port q
abbrev pub HasPort : Table → ℕ → Type 0
HasPort c q = q < length c.counts.items

abbrev pub counts_at : Table → ℕ → Counts5
counts_at c q = get_or c.counts.items q nothing

-- no count passes what 64 bits hold
pub record FitsCounts (c : Counts5) : Type 0 where
  pub relayed : c.relayed < 2 ^ 64
  pub dropped : c.dropped < 2 ^ 64
  pub ignored : c.ignored < 2 ^ 64
  pub left : c.left < 2 ^ 64
  pub octets : c.octets < 2 ^ 64

-- Port p has these counts now, where there are counts of it; all other ports have theirs, and there are counts of the
-- same ports.
pub record SameButAt (p : ℕ) (counts : Counts5) (old new : Table) : Type 0 where
  pub ports : length new.counts.items ≡ length old.counts.items
  pub here : HasPort old p → counts_at new p ≡ counts
  pub others : (q : ℕ) → (p ≡ q → ⊥) → counts_at new q ≡ counts_at old q

-- ---- what calls add
abbrev pub with_relay : Bool → Counts5 → Counts5
with_relay passed c = record {
  relayed = c.relayed + 1;
  dropped = if passed then c.dropped else c.dropped + 1;
  ignored = c.ignored;
  left = c.left;
  octets = c.octets;
}

abbrev pub with_ignored : Counts5 → Counts5
with_ignored c = record {
  relayed = c.relayed;
  dropped = c.dropped;
  ignored = c.ignored + 1;
  left = c.left;
  octets = c.octets;
}

abbrev pub with_left : ℕ → Counts5 → Counts5
with_left octets c = record {
  relayed = c.relayed;
  dropped = c.dropped;
  ignored = c.ignored;
  left = c.left + 1;
  octets = c.octets + octets;
}

-- ---- events, with what is said of the Relays among them
abbrev pub first_or_true : List Bool → Bool
first_or_true [] = true
first_or_true (b ∷ said) = b

abbrev pub behind_first : List Bool → List Bool
behind_first [] = []
behind_first (b ∷ said) = said

-- what is left of what was said once this event has come
abbrev pub rest_after : Event → List Bool → List Bool
rest_after (event.Relay p n t f) said = behind_first said
rest_after _ said = said

-- a Relay of port q of which it is said that it doesn't pass
abbrev pub drop_in : Event → List Bool → ℕ → ℕ
drop_in (event.Relay p n t f) said q = if p == q && not (first_or_true said) then 1 else 0
drop_in _ said q = 0

-- how many of them there are
unfoldable pub drops_in : List Event → List Bool → ℕ → ℕ
drops_in [] said q = 0
drops_in (e ∷ es) said q = drop_in e said q + drops_in es (rest_after e said) q

-- what an event adds at port q
abbrev pub plus_event : Event → List Bool → ℕ → Counts5 → Counts5
plus_event e said q c =
    record {
      relayed = c.relayed + relayed_by e q;
      dropped = c.dropped + drop_in e said q;
      ignored = c.ignored + ignored_by e q;
      left = c.left;
      octets = c.octets;
    }

-- and events
abbrev pub plus_events : List Event → List Bool → ℕ → Counts5 → Counts5
plus_events es said q c =
    record {
      relayed = c.relayed + sum_by (λ (e : Event). relayed_by e q) es;
      dropped = c.dropped + drops_in es said q;
      ignored = c.ignored + sum_by (λ (e : Event). ignored_by e q) es;
      left = c.left;
      octets = c.octets;
    }
