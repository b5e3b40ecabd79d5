-- What is counted of a run: all together for its summary, and by port where counters are asked for.
use Rattle.std.specs.Prelude.{[], ◌≡◌, ◌<◌, ◌+◌, ◌-◌, ◌*◌, ℕ, Bool, true, false, List, ◌++◌, Option, Some, None, IfSome, length, fold}
use Rattle.exb_model.specs.declared.event.Event.{Event}
use Rattle.exb_model.specs.FlatBridge.{Sent}
use Rattle.exb_model.specs.Texts.{Counts, counted, with_left, summary_line}
use Rattle.exb_model.specs.Tree.{external_ports, is_external}
use Rattle.exb_world_spec.specs.Worlds.{Left, left_at}
use Rattle.exb_journal.specs.Tallies.{FitsTally, counts_of, nothing_counted}
use Rattle.exb_counters.specs.declared.counters.Counters.{Counters}
use Rattle.exb_counters.specs.declared.counters.Counts5.{Counts5}
use Rattle.exb_counters.specs.Counters.{count_lines, octets_of}
use Rattle.exb_counters.specs.CounterUpdates.{FitsCounts, HasPort, counts_at, drops_in, nothing, plus_events}
use Rattle.exb_outputs.specs.declared.run_counts.RunCounts.{RunCounts}
use Rattle.exb_outputs.specs.declared.outputs.Outputs.{Outputs}
use Rattle.exb_outputs.specs.Manifests.{Listed}
use Rattle.exb_outputs.specs.CaptureSizes.{frames_at, size_at}

-- and the counts
abbrev pub counts_so_far : List Event → List Left → Counts
counts_so_far told gone = with_left (length gone) (fold (λ c e. counted e c) nothing_counted told)

-- the counts of port q, with these frames more
abbrev pub with_frames : List Sent → Counts5 → Counts5
with_frames xs c =
    record {
      relayed = c.relayed;
      dropped = c.dropped;
      ignored = c.ignored;
      left = c.left + length xs;
      octets = c.octets + octets_of xs;
    }

abbrev pub port_counts_so_far : List Event → List Bool → List Left → ℕ → Counts5
port_counts_so_far told passed gone q = with_frames (left_at q gone) (plus_events told passed q nothing)

-- there are counts by port where they are asked for, and they are those of what came in
abbrev pub AreCounted : Listed → Option Counters → List Event → List Bool → Type 0
AreCounted manifest None told passed = manifest.options.counters ≡ false
AreCounted manifest (Some c) told passed =
    (manifest.options.counters ≡ true) × ((q : ℕ) → q < 4160 → is_external manifest.tree q ≡ true → HasPort c q)
    × ((q : ℕ) → HasPort c q → counts_at c q ≡ plus_events told passed q nothing)

-- there are counts by port exactly where they are asked for, and of each external port
abbrev pub AreCountsOf : Listed → Option Counters → Type 0
AreCountsOf manifest None = manifest.options.counters ≡ false
AreCountsOf manifest (Some c) = (manifest.options.counters ≡ true)
    × ((q : ℕ) → q < 4160 → is_external manifest.tree q ≡ true → HasPort c q)

-- the counts of port q: what came in, by the counters, and what left, by the capture
abbrev pub counts_with : Listed → Outputs → Counters → ℕ → Counts5
counts_with manifest o c q =
    record {
      relayed = (counts_at c q).relayed;
      dropped = (counts_at c q).dropped;
      ignored = (counts_at c q).ignored;
      left = frames_at manifest o q;
      octets = size_at manifest o q - 24 - 16 * frames_at manifest o q;
    }

-- the text of the counters, with what the captures have counted
abbrev pub counts_text : Listed → Option Counters → Outputs → List ℕ
counts_text manifest None o = []
counts_text manifest (Some c) o = count_lines (counts_with manifest o c) (external_ports manifest.tree)

-- what is counted is what was told and has left
pub record IsCounted (manifest : Listed) (c : RunCounts) (told : List Event) (passed : List Bool)
    (gone : List Left) : Type 0 where
  pub tally : counts_of c.tally ≡ counts_so_far told gone
  pub ports : AreCounted manifest c.ports told passed

-- what was said of Relays goes with what was told: the drops of more are those of what comes more
abbrev pub GoTogether : List Event → List Bool → Type 0
GoTogether told passed = (more : List Event) (said : List Bool) (q : ℕ) → drops_in (told ++ more) (passed ++ said) q
    ≡ drops_in told passed q + drops_in more said q

-- events more can be counted
abbrev pub CanCountAt : List Event → List Bool → Counters → Type 0
CanCountAt events passed c = (q : ℕ) → HasPort c q → FitsCounts (plus_events events passed q (counts_at c q))

-- and so many frames that left
pub record CanCount (c : RunCounts) (events : List Event) (passed : List Bool) (left : ℕ) : Type 0 where
  pub tally : FitsTally (with_left left (fold (λ k e. counted e k) (counts_of c.tally) events))
  pub ports : IfSome c.ports (CanCountAt events passed)

-- and they are
abbrev pub CountsOn : Option Counters → Option Counters → List Event → List Bool → Type 0
CountsOn None None events passed = Unit {0}
CountsOn (Some c) (Some d) events passed =
    (length d.counts.items ≡ length c.counts.items) × ((q : ℕ) → HasPort c q
    → counts_at d q ≡ plus_events events passed q (counts_at c q))
CountsOn _ _ events passed = ⊥

-- the line of some counts
abbrev pub IsSummary : List ℕ → Type 0
IsSummary text = (c : Counts) × (text ≡ summary_line c)
