-- What a tally counts.
use Rattle.std.specs.Prelude.{◌<◌, ◌^◌}
use Rattle.exb_model.specs.Texts.{Counts}
use Rattle.exb_journal.specs.declared.tally.Tally.{Tally}

abbrev pub counts_of : Tally → Counts
counts_of t = record {
  relayed = t.relayed;
  ignored = t.ignored;
  left = t.left;
  commits = t.commits;
  refusals = t.refusals;
}

-- before the first event
abbrev pub nothing_counted : Counts
nothing_counted = record { relayed = 0; ignored = 0; left = 0; commits = 0; refusals = 0 }

-- no count passes what 64 bits hold
pub record FitsTally (c : Counts) : Type 0 where
  pub relayed : c.relayed < 2 ^ 64
  pub ignored : c.ignored < 2 ^ 64
  pub left : c.left < 2 ^ 64
  pub commits : c.commits < 2 ^ 64
  pub refusals : c.refusals < 2 ^ 64
