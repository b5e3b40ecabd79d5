-- What the entries stand for.
use Rattle.std.specs.Prelude.{ℕ, List, Option, Some, None}
use Rattle.std.specs.Map.{lookup}
use Rattle.exb_model.specs.Learning.{Look}
use Rattle.exb_learn.specs.declared.key.StationKey.{StationKey}
use Rattle.exb_learn.specs.declared.entries.DynamicEntry.{DynamicEntry}
use Rattle.exb_learn.specs.Stations.{same}
use Rattle.exb_learn.specs.Calls.{Table, look_in}

-- the entries, the clock and the ageing time in seconds, and for how many more entries there is room
pub record Entries : Type 0 where
  pub entries : List (StationKey × DynamicEntry)
  pub clock : ℕ
  pub ageing : ℕ
  pub spare : ℕ

abbrev pub place_of : Option DynamicEntry → Option (ℕ × ℕ)
place_of None = None
place_of (Some p) = Some (p.port, p.at)

abbrev pub station : ℕ → List ℕ → StationKey
station v m = record { vid = v; address = record { 0 = m } }

unfoldable pub table_of : Entries → Table
table_of l = record {
  ageing = l.ageing;
  clock = l.clock;
  seen = λ v m.
      place_of (lookup (same (station v m)) l.entries);
}

-- what is learned
abbrev pub look_of : Entries → Look
look_of l = look_in (table_of l)
